use Rattle.std.proofs.Common.{ap, subst, sym, ◌∙◌}
use Rattle.item_core.specs.declared.edge.Edge.TheVariants.{E41}
use Rattle.bridge_face.specs.BridgeState.{BridgeState}
use Rattle.bridge_face.specs.Law.{IsItemFor}
use Rattle.bridge_tests.specs.SampleLaws.{own_norm, suits_norm}
use Rattle.bridge_tests.proofs.constants.norm_image.Goals as goal

pub image-image-requires-clause-own : goal.image-image-requires-clause-own
image-image-requires-clause-own c =
    own_norm ∙ sym (ap (λ (s : BridgeState). s.family) c.new-bridge.ensures)

pub image-image-requires-clause-suits : goal.image-image-requires-clause-suits
image-image-requires-clause-suits c =
    subst (IsItemFor E41) (sym c.in_ok-item.ensures) (suits_norm c.args.first c.args.other)
