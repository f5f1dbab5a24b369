use Rattle.std.proofs.Common.{length, ◌≤◌, ◌+◌, [], ◌∷◌, arith, ap, ◌∙◌}
use Rattle.user_model.specs.Functions.{named_components}
use Rattle.user_model.specs.Limits.{ALL_TERMS, LAST_NUMBER, ROWS}
use Rattle.user_model.specs.Model.{total_terms}
use Rattle.model_refusals.proofs.EditCounts.{row_counted, row_refused}
use Rattle.model_refusals.proofs.Firsts.{first_full}
use Rattle.model_refusals.proofs.full.full_by_row.Goals as goal

pub returns-in-Err : goal.returns-in-Err
returns-in-Err c = λ name set.
    let model = c.args.model.now.model in
    let few : named_components c.args.func.now ≤ 4096 = omega arith in
    row_refused model name c.args.func.now set few c.in-Err.refusal
    (c.in-Err.ensures.value model c.requires.consistent c.requires.known)

pub returns-in-Ok : goal.returns-in-Ok
returns-in-Ok c = λ name set.
    let model = c.args.model.now.model in
    let few : named_components c.args.func.now ≤ 4096 = omega arith in
    let terms = c.in-Ok.terms in
    let is = c.in-Ok.ensures.value model c.requires.consistent c.requires.known in
    c.first_passed.ensures
    ∙ (ap (λ rows. first_full ((rows + 1, ROWS) ∷ (c.term_count.result + terms, ALL_TERMS)
    ∷ (c.from.result, LAST_NUMBER) ∷ [])) (c.len.ensures.count
    ∙ ap length c.rows.ensures.value)
    ∙ (ap (λ all. first_full ((length model.rows + 1, ROWS) ∷ (all + terms, ALL_TERMS)
    ∷ (c.from.result, LAST_NUMBER) ∷ [])) c.term_count.ensures
    ∙ (ap (λ next. first_full ((length model.rows + 1, ROWS) ∷ (
      total_terms model + terms,
      ALL_TERMS,
    ) ∷ (next, LAST_NUMBER) ∷ [])) (c.from.ensures ∙ ap (λ n. n.row) c.next.ensures)
    ∙ row_counted model name c.args.func.now set few terms is.0 is.1)))
