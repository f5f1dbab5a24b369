-- The multipliers are read off the prices of the artificial columns.
use Rattle.std.specs.Prelude.{◌≡◌, ℕ, ◌+◌, ◌<◌, IsTrue}
use Rattle.std.proofs.Common.{sym, ◌∙◌, ap, ap₂}
use Rattle.ratio_core.specs.Rational.{neg_ℚ, one_ℚ, ◌-ℚ◌}
use Rattle.rational_laws.specs.Field.{zero-+ℚ}
use Rattle.simplex_form.specs.Form.{Form, first_cost, second_cost}
use Rattle.simplex_form.specs.Basis.{BasisState, IsBasis}
use Rattle.simplex_form.specs.Board.{multiplier}
use Rattle.simplex_laws.specs.AgreementLaws.{artificial_column}
use Rattle.simplex_laws.specs.TurnLaws.{column_unit, first_cost_artificial, past_reals, second_cost_artificial}
use Rattle.simplex_laws.specs.ValueLaws.{multiplier_by_price}
use Rattle.tableau_core.specs.BoardContents.{IsBoardOf, BoardContents, readings_of}
use Rattle.simplex_core.specs.Placed.{artificial}

module _ (F : Form) (s : BasisState) (t : BoardContents) (basis : IsBasis F s) (h : IsBoardOf F s t) where
  pub first_multiplier : IsTrue t.in_first → (k : ℕ) → k < F.rows
      → one_ℚ -ℚ artificial (readings_of t).first_price (readings_of t) k
      ≡ multiplier F s (first_cost F) k
  first_multiplier u k b =
      ap₂ ◌-ℚ◌ (sym (first_cost_artificial F (F.reals + k) (past_reals F.reals k)))
      (ap (λ n. (readings_of t).first_price (n + k)) h.reals
      ∙ h.first u (F.reals + k) (artificial_column F.reals F.rows k b))
      ∙ sym (multiplier_by_price F s basis (first_cost F) (F.reals + k) k b (column_unit F k))

  pub second_multiplier : (k : ℕ) → k < F.rows
      → neg_ℚ (artificial (readings_of t).second_price (readings_of t) k)
      ≡ multiplier F s (second_cost F) k
  second_multiplier k b =
      sym (zero-+ℚ (neg_ℚ (artificial (readings_of t).second_price (readings_of t) k)))
      ∙ ap₂ ◌-ℚ◌ (sym (second_cost_artificial F (F.reals + k) (past_reals F.reals k)))
      (ap (λ n. (readings_of t).second_price (n + k)) h.reals
      ∙ h.second (F.reals + k) (artificial_column F.reals F.rows k b))
      ∙ sym (multiplier_by_price F s basis (second_cost F) (F.reals + k) k b (column_unit F k))
