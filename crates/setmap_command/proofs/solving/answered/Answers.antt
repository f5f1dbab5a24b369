use Rattle.std.proofs.Common.{Ok, ap, refl, subst, sym, ◌∙◌}
use Rattle.std.specs.Prelude.{IfOk}
use Rattle.cache_layer.specs.Cached.{model_in, state_of}
use Rattle.certificates.specs.Good.{Good}
use Rattle.mapped_model.specs.Stands.{StandsFor}
use Rattle.mapped_model.specs.Uses.{uses_in}
use Rattle.model_command.specs.Solved.{IsGoodSolution}
use Rattle.model_command.specs.SolvedLaws.{says_solution}
use Rattle.model_store.specs.Store.{StoredModel}
use Rattle.setmap_command.proofs.solving.answered.Goals as goal
use Rattle.setmap_command.specs.Says.{SaysMappedCertificate, StandsForMapped}

pub told-requires-clause-stands : goal.told-requires-clause-stands
told-requires-clause-stands g c =
    let same = ap (λ (s : StoredModel). s.model) c.model.ensures.value ∙ c.solve.ensures.model in
    subst (StandsForMapped c.args.rows.now) (sym same) c.requires

pub told-requires-clause-good : goal.told-requires-clause-good
told-requires-clause-good g c =
    let same = ap (λ (s : StoredModel). s.model) c.model.ensures.value ∙ c.solve.ensures.model in
    subst (λ m. Good m c.in-Certified.certificate) (sym same)
    (subst (IsGoodSolution (model_in c.args.cache.now)) c.in-Certified.is c.in_ok-certificate.ensures.good)

pub returns-in-Certified : goal.returns-in-Certified
returns-in-Certified g c = λ old stands.
    let same = ap (λ (s : StoredModel). s.model) c.model.ensures.value ∙ c.solve.ensures.model in
    says_solution (SaysMappedCertificate old c.args.rows.now (model_in c.args.cache.now))
    c.told.result (state_of c.args.cache.now) (state_of c.solve.new.cache)
    c.in_ok-certificate.ensures.solves c.in-Certified.is
    (subst (λ m. IfOk c.told.result (SaysMappedCertificate old c.args.rows.now m
    c.in-Certified.certificate)) same
    (c.told.ensures old (subst (StandsFor old (uses_in old c.args.rows.now)) (sym same) stands)))

pub returns-in-Refused : goal.returns-in-Refused
returns-in-Refused g c = λ old stands.
    says_solution (SaysMappedCertificate old c.args.rows.now (model_in c.args.cache.now))
    (Ok c.in-Refused.refused) (state_of c.args.cache.now) (state_of c.solve.new.cache)
    c.in_ok-certificate.ensures.solves c.in-Refused.is refl
