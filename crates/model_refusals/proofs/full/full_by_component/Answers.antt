use Rattle.std.proofs.Common.{◌≡◌, ◌+◌, ◌-◌, [], ◌∷◌, length, map, is_some, ap, ap₂, sym, ◌∙◌}
use Rattle.map_laws.specs.OptionLaws.{none_of}
use Rattle.aff_core.specs.Function.{with_coefficient}
use Rattle.user_model.specs.Edited.{changed_at}
use Rattle.user_model.specs.Functions.{term_count}
use Rattle.user_model.specs.Limits.{ALL_TERMS, TERMS}
use Rattle.user_model.specs.Model.{total_terms}
use Rattle.user_model.specs.Refusals.{within}
use Rattle.model_refusals.proofs.EditCounts.{first_some}
use Rattle.model_refusals.proofs.Firsts.{first_full, first_later}
use Rattle.model_refusals.proofs.full.full_by_component.Goals as goal

pub returns-then-is_some : goal.returns-then-is_some
returns-then-is_some c =
    let funcs = c.args.component.now.funcs.now in
    let place = c.args.component.now.place in
    let at = c.args.at.now in
    let value = c.args.value.now in
    let terms : c.first_full_component-passed.result
    ≡ first_full (within TERMS (map term_count
    (changed_at place (λ f. with_coefficient f at value) funcs))) =
    c.first_full_component-passed.ensures
    ∙ ap (λ fs. first_full (within TERMS (map term_count
    (changed_at place (λ f. with_coefficient f at value) fs)))) c.as_slice.ensures in
    let some = ap is_some (sym terms) ∙ (sym c.is_some.ensures ∙ c.if-is_some.true) in
    terms ∙ first_some (within TERMS (map term_count
    (changed_at place (λ f. with_coefficient f at value) funcs))) _ some

pub returns : goal.returns
returns c =
    let model = c.args.model.now.model in
    let funcs = c.args.component.now.funcs.now in
    let place = c.args.component.now.place in
    let at = c.args.at.now in
    let value = c.args.value.now in
    let terms : c.first_full_component-passed.result
    ≡ first_full (within TERMS (map term_count
    (changed_at place (λ f. with_coefficient f at value) funcs))) =
    c.first_full_component-passed.ensures
    ∙ ap (λ fs. first_full (within TERMS (map term_count
    (changed_at place (λ f. with_coefficient f at value) fs)))) c.as_slice.ensures in
    let none = none_of _ (ap is_some (sym terms) ∙ (sym c.is_some.ensures ∙ c.if-is_some.false)) in
    c.full_by_total.ensures
    ∙ (ap₂ (λ o n. first_full ((total_terms model - o + n, ALL_TERMS) ∷ []))
    (ap length c.terms.ensures.all) c.terms_with.ensures.value
    ∙ sym (first_later (within TERMS (map term_count
    (changed_at place (λ f. with_coefficient f at value) funcs))) _ none))
