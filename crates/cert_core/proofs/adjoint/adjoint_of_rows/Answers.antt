use Rattle.std.specs.Prelude.{All, length, map}
use Rattle.std.proofs.Common.{◌∙◌, ap, sym}
use Rattle.std.proofs.lemmas.List.{length-map}
use Rattle.ratio_core.specs.Folds.{sum_from}
use Rattle.ratio_core.specs.Rational.{zero_ℚ}
use Rattle.ratio_core.specs.AnsweredLaws.{passed_on}
use Rattle.rational_laws.specs.Fitting.{Fits_zero}
use Rattle.certificates.specs.Duals.{rows_with}
use Rattle.cert_core.specs.Folds.{AddUp, adjoint_parts}
use Rattle.cert_core.proofs.Steps.{written_back}
use Rattle.cert_core.proofs.adjoint.adjoint_of_rows.Goals as goal

pub returns-in_err-add_rows : goal.returns-in_err-add_rows
returns-in_err-add_rows c =
    let us = c.args.variables.now in
    let parts = adjoint_parts (rows_with c.args.duals.now c.args.rows.now.items) in
    let zeros = c.deref_mut.ensures.value ∙ c.in_ok-sums.ensures
    ∙ ap (map (λ _. zero_ℚ)) c.addresses.ensures.value in
    passed_on c.from_residual-in_err-add_rows.result c.in_err-add_rows.field-0.0
    (All (λ v. AddUp zero_ℚ (parts v)) us) (All (λ v. AddUp zero_ℚ (parts v)) us) _ _
    c.from_residual-in_err-add_rows.ensures.1
    (c.in_err-add_rows.ensures (λ _. zero_ℚ) zeros (λ k d lt. Fits_zero)) (λ all. all)

pub returns : goal.returns
returns c =
    let us = c.args.variables.now in
    let parts = adjoint_parts (rows_with c.args.duals.now c.args.rows.now.items) in
    let made = c.in_ok-sums.ensures ∙ ap (map (λ _. zero_ℚ)) c.addresses.ensures.value in
    let added = c.in_ok-add_rows.ensures (λ _. zero_ℚ) (c.deref_mut.ensures.value ∙ made)
    (λ k d lt. Fits_zero) in (
      added.0,
      written_back c.in_ok-sums.sums.len c.in_ok-sums.sums.items c.add_rows.new.sums
          (sym c.deref_mut.ensures.len ∙ ap length c.deref_mut.ensures.value)
          (ap length added.1 ∙ length-map us (λ v. sum_from zero_ℚ (parts v))
          ∙ sym (ap length made ∙ length-map us (λ _. zero_ℚ)))
          ∙ added.1,
    )
