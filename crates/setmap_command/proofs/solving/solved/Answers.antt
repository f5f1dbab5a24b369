use Rattle.std.proofs.Common.{ap, subst, sym}
use Rattle.std.specs.Prelude.{IfOk}
use Rattle.cache_layer.specs.Cached.{state_of}
use Rattle.cache_layer.specs.CacheState.{CacheState}
use Rattle.mapped_model.specs.Stands.{StandsFor}
use Rattle.mapped_model.specs.Uses.{uses_in}
use Rattle.model_command.specs.Solved.{SaysSolved}
use Rattle.setmap_command.proofs.solving.solved.Goals as goal
use Rattle.setmap_command.specs.Says.{SaysMappedCertificate, StandsForMapped}

pub answered-answer-requires : goal.answered-answer-requires
answered-answer-requires g c =
    subst (StandsForMapped c.args.rows.now) (sym (ap (λ (s : CacheState). s.model) c.cache_of-cache.ensures))
    c.requires.stands

pub returns : goal.returns
returns g c = λ old stands.
    let is = ap (λ (s : CacheState). s.model) c.cache_of-cache.ensures in
    subst (λ s. IfOk c.answered-answer.result (SaysSolved (SaysMappedCertificate old c.args.rows.now
    c.args.model.model) s))
    c.cache_of-cache.ensures
    (subst (λ m. IfOk c.answered-answer.result (SaysSolved (SaysMappedCertificate old c.args.rows.now m)
    (state_of c.cache_of-cache.result))) is
    (c.answered-answer.ensures old
    (subst (StandsFor old (uses_in old c.args.rows.now)) (sym is) stands)))
