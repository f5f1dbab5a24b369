use Rattle.std.proofs.Common.{ap, sym, ◌∙◌}
use Rattle.bridge_face.specs.BridgeState.{BridgeState}
use Rattle.bridge_tests.proofs.round.keep.Goals as goal

pub keep_imaged-answer-requires-clause-own : goal.keep_imaged-answer-requires-clause-own
keep_imaged-answer-requires-clause-own g c =
    c.requires.own ∙ sym (ap (λ (s : BridgeState). s.family) c.in-Ok.ensures.state)

pub keep_imaged-answer-requires-clause-image : goal.keep_imaged-answer-requires-clause-image
keep_imaged-answer-requires-clause-image g c = c.in-Ok.ensures.answer.1
