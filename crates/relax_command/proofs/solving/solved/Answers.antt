use Rattle.std.proofs.Common.{ap, subst, sym}
use Rattle.std.specs.Prelude.{IfOk}
use Rattle.cache_layer.specs.CacheState.{CacheState}
use Rattle.model_command.specs.Solved.{SaysSolved}
use Rattle.relax_command.proofs.solving.solved.Goals as goal
use Rattle.relax_command.specs.Says.{SaysRelaxedCertificate}
use Rattle.relaxation.specs.Answers.{IsRelaxedFrom}

pub answered-answer-requires : goal.answered-answer-requires
answered-answer-requires g c =
    let same = ap (λ (s : CacheState). s.model) c.cache_of-cache.ensures in
    (c.requires.from.0, subst (IsRelaxedFrom c.requires.from.0) (sym same) c.requires.from.1)

pub returns : goal.returns
returns g c = λ model from.
    let same = ap (λ (s : CacheState). s.model) c.cache_of-cache.ensures in
    subst (λ t. IfOk c.answered-answer.result (SaysSolved (SaysRelaxedCertificate model) t))
    c.cache_of-cache.ensures (c.answered-answer.ensures model (subst (IsRelaxedFrom model) (sym same) from))
