use Rattle.std.proofs.Common.{Ok, ap, refl, subst, sym, ◌∙◌}
use Rattle.cache_layer.specs.Cached.{model_in, state_of}
use Rattle.certificates.specs.Good.{Good}
use Rattle.model_command.specs.Solved.{IsGoodSolution}
use Rattle.model_command.specs.SolvedLaws.{says_solution}
use Rattle.model_store.specs.Store.{StoredModel}
use Rattle.relax_command.proofs.solving.answered.Goals as goal
use Rattle.relax_command.specs.Says.{SaysRelaxedCertificate}
use Rattle.relaxation.specs.Answers.{IsRelaxedFrom}

pub told-requires-clause-from : goal.told-requires-clause-from
told-requires-clause-from g c =
    let same = ap (λ (s : StoredModel). s.model) c.model.ensures.value ∙ c.solve.ensures.model in
    (c.requires.0, subst (IsRelaxedFrom c.requires.0) (sym same) c.requires.1)

pub told-requires-clause-good : goal.told-requires-clause-good
told-requires-clause-good g c =
    let same = ap (λ (s : StoredModel). s.model) c.model.ensures.value ∙ c.solve.ensures.model in
    subst (λ m. Good m c.in-Certified.certificate) (sym same)
    (subst (IsGoodSolution (model_in c.args.cache.now)) c.in-Certified.is c.in_ok-certificate.ensures.good)

pub returns-in-Certified : goal.returns-in-Certified
returns-in-Certified g c = λ model from.
    let same = ap (λ (s : StoredModel). s.model) c.model.ensures.value ∙ c.solve.ensures.model in
    says_solution (SaysRelaxedCertificate model) c.told.result (state_of c.args.cache.now)
    (state_of c.solve.new.cache) c.in_ok-certificate.ensures.solves c.in-Certified.is
    (c.told.ensures model (subst (IsRelaxedFrom model) (sym same) from))

pub returns-in-Refused : goal.returns-in-Refused
returns-in-Refused g c = λ model from.
    says_solution (SaysRelaxedCertificate model) (Ok c.in-Refused.refused)
    (state_of c.args.cache.now) (state_of c.solve.new.cache) c.in_ok-certificate.ensures.solves
    c.in-Refused.is refl
