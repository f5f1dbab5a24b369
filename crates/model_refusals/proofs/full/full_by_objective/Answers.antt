use Rattle.std.proofs.Common.{◌+◌, ◌-◌, [], ◌∷◌, refl, ap, ap₂, subst, sym, inl, inr, ◌∙◌}
use Rattle.user_model.specs.declared.edit.Edit.TheVariants as edit
use Rattle.user_model.specs.declared.edit.NamedFunc.TheVariants as named
use Rattle.user_model.specs.Limits.{ALL_TERMS}
use Rattle.user_model.specs.Model.{objective_terms, total_terms}
use Rattle.user_model.specs.Refusals.{IsKnown, counts}
use Rattle.model_refusals.specs.Changes.{with_change}
use Rattle.model_refusals.proofs.EditCounts.{no_objective_counts, objective_counts, plain_objective_counts}
use Rattle.model_refusals.proofs.Firsts.{first_full}
use Rattle.model_refusals.proofs.full.full_by_objective.Goals as goal

pub returns-in-Affine : goal.returns-in-Affine
returns-in-Affine c = λ sense.
    let model = c.args.model.now.model in
    let func = c.in-Affine.func in
    let old = c.term_count-old.ensures ∙ ap objective_terms c.objective.ensures.value in
    let new = c.named_terms.ensures.value model c.requires.consistent
    (subst (IsKnown model) c.in-Affine.is c.requires.known) in
    c.full_by_terms.ensures
    ∙ (ap₂ (λ o n. first_full (with_change (total_terms model) o n)) old new
    ∙ (ap first_full (sym (objective_counts model sense func))
    ∙ ap (λ f. first_full (counts model (edit.Objective sense f))) (sym c.in-Affine.is)))

pub returns-in-Plain : goal.returns-in-Plain
returns-in-Plain c = λ sense.
    let model = c.args.model.now.model in
    let old = c.term_count-old.ensures ∙ ap objective_terms c.objective.ensures.value in
    c.full_by_total.ensures
    ∙ (ap (λ o. first_full ((total_terms model - o + 0, ALL_TERMS) ∷ [])) old
    ∙ elim c.in-Plain.is [
      | inl p ↦ ap first_full (sym (ap (λ f. counts model (edit.Objective sense f)) p.1
          ∙ plain_objective_counts model sense p.0))
      | inr q ↦
          elim q [
            | inl p ↦ ap first_full (sym (ap (λ f. counts model (edit.Objective sense f)) p.1
                ∙ no_objective_counts model sense (named.PlainVec p.0) refl))
            | inr p ↦ ap first_full (sym (ap (λ f. counts model (edit.Objective sense f)) p.1
                ∙ no_objective_counts model sense (named.AffineVec p.0) refl))
          ]
    ])
