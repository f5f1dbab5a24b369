use Rattle.std.proofs.Common.{ap, subst, sym}
use Rattle.item_core.specs.declared.edge.Edge.TheVariants.{E40}
use Rattle.item_core.specs.declared.item.Item.{Item}
use Rattle.bridge_face.specs.Law.{IsItemFor}
use Rattle.bridge_tests.specs.SampleLaws.{suits_reals}
use Rattle.bridge_tests.proofs.constants.keep_reals.Goals as goal

pub keep-requires-clause-suits : goal.keep-requires-clause-suits
keep-requires-clause-suits g c =
    subst (IsItemFor E40) (sym c.in_ok-item.ensures) (suits_reals c.one.result c.zero.result)

pub keep-requires-clause-at : goal.keep-requires-clause-at
keep-requires-clause-at g c = ap (λ (i : Item). i.at) c.in_ok-item.ensures
