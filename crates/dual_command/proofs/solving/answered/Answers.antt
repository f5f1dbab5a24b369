use Rattle.std.proofs.Common.{Ok, ap, refl, subst, ◌∙◌}
use Rattle.cache_layer.specs.Cached.{model_in, state_of}
use Rattle.certificates.specs.Good.{Good}
use Rattle.dual_command.proofs.solving.answered.Goals as goal
use Rattle.dual_command.specs.Says.{SaysDualCertificate}
use Rattle.model_command.specs.Solved.{IsGoodSolution}
use Rattle.model_command.specs.SolvedLaws.{says_solution}
use Rattle.model_store.specs.Store.{StoredModel}
use Rattle.user_model.specs.Valid.{IsValid}

pub told-answer-requires-clause-valid : goal.told-answer-requires-clause-valid
told-answer-requires-clause-valid g c =
    subst IsValid (ap (λ (s : StoredModel). s.model) c.model.ensures.value ∙ c.requires)
    c.rows-valid.ensures.valid

pub told-answer-requires-clause-good : goal.told-answer-requires-clause-good
told-answer-requires-clause-good g c =
    subst (λ m. Good m c.in-Certified.certificate) c.requires
    (subst (IsGoodSolution (model_in c.args.cache.now)) c.in-Certified.is c.in_ok-certificate.ensures.good)

pub returns-in-Certified : goal.returns-in-Certified
returns-in-Certified g c =
    says_solution (SaysDualCertificate c.args.model.now.model) c.told-answer.result
    (state_of c.args.cache.now) (state_of c.solve.new.cache) c.in_ok-certificate.ensures.solves
    c.in-Certified.is c.told-answer.ensures

pub returns-in-Refused : goal.returns-in-Refused
returns-in-Refused g c =
    says_solution (SaysDualCertificate c.args.model.now.model) (Ok c.in-Refused.refused)
    (state_of c.args.cache.now) (state_of c.solve.new.cache) c.in_ok-certificate.ensures.solves
    c.in-Refused.is refl
