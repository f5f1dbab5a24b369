-- A pivot of the board of a basis is the board of the next, made exactly where the step fits.
use Rattle.std.specs.Prelude.{◌≡◌, ℕ, ◌+◌, ◌<◌, length}
use Rattle.std.proofs.Common.{sym, ◌∙◌, arith, subst}
use Rattle.ratio_core.specs.Rational.{zero_ℚ}
use Rattle.tableau_core.specs.BoardContents.{IsBoardOf, IsPivoted, BoardContents, readings_of, width}
use Rattle.simplex_form.specs.Basis.{BasisState, IsBasis}
use Rattle.simplex_form.specs.Board.{pivot}
use Rattle.simplex_form.specs.Fit.{pivot_fits}
use Rattle.simplex_form.specs.Form.{Form}
use Rattle.simplex_form.specs.Readings.{Agrees, pivoted_readings, readings}
use Rattle.simplex_form.specs.declared.turn.Phase.{Phase}
use Rattle.simplex_laws.specs.AgreementLaws.{agrees_chain, pivot_fits_same, pivoted_agrees}
use Rattle.simplex_laws.specs.BoardLaws.{readings-pivot}

module _ (F : Form) (s : BasisState) (phase : Phase) (r q : ℕ) (t : BoardContents) (h : IsBoardOf F s t)
    (row : r < length t.rows) (column : q < width t) where
  here : r < F.rows
  here = omega (arith, h.rows, row)

  within : q < F.reals + F.rows
  within = omega (arith, h.rows, h.reals, column)

  pub next_board : (u : BoardContents) → IsBasis F s → ¬ ((readings_of t).entry q r ≡ zero_ℚ)
      → IsPivoted r q t u → IsBoardOf F (pivot F s phase r q) u
  next_board u basis n p =
      subst (λ b. Agrees b (readings_of u) (readings F (pivot F s phase r q))) (sym p.in_first)
      (agrees_chain t.in_first (readings_of u) (pivoted_readings r q (readings_of t))
      (readings F (pivot F s phase r q)) p.readings
      (agrees_chain t.in_first (pivoted_readings r q (readings_of t))
      (pivoted_readings r q (readings F s)) (readings F (pivot F s phase r q))
      (pivoted_agrees t.in_first (readings_of t) (readings F s) h r q here within)
      (readings-pivot F s phase r q t.in_first basis here
      (λ e. n (h.entries r q here within ∙ e)))))

  pub fits_same : pivot_fits t.in_first (readings_of t) r q
      ≡ pivot_fits t.in_first (readings F s) r q
  fits_same = pivot_fits_same t.in_first (readings_of t) (readings F s) h r q here within
