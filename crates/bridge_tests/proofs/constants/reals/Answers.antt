use Rattle.std.proofs.Common.{ap, sym, ◌∙◌}
use Rattle.bridge_face.specs.BridgeState.{BridgeState}
use Rattle.bridge_tests.specs.SampleLaws.{own_reals}
use Rattle.bridge_tests.proofs.constants.reals.Goals as goal

pub keep_reals-requires : goal.keep_reals-requires
keep_reals-requires c =
    own_reals ∙ sym (ap (λ (s : BridgeState). s.family) c.new-bridge.ensures)
