-- A step by Bland's rule: what enters, what leaves, and what the point costs after it.
use Rattle.std.specs.Prelude.{◌≡◌, ℕ, ◌<◌, ◌≤◌, Bool, true, false, refl}
use Rattle.std.proofs.Common.{sym, ◌∙◌, ap, arith, subst, true≢false}
use Rattle.ratio_core.specs.Rational.{Rational, inverse_ℚ, zero_ℚ, ◌*ℚ◌, ◌+ℚ◌, ◌≤ℚ◌, ◌‹ℚ◌}
use Rattle.rational_laws.specs.Field.{*ℚ-zero, *ℚ_assoc, *ℚ_comm, +ℚ-zero, +ℚ_cancel, ring_ℚ, zero-*ℚ, zero-+ℚ}
use Rattle.rational_laws.specs.Order.{above_inverse, nonneg_mul, nonpos_mul, not_‹ℚ_from_≤ℚ, ≤ℚ-+ℚ_left, ≤ℚ_from_‹ℚ, ≤ℚ_refl}
use Rattle.simplex_form.specs.declared.turn.Phase.{Phase}
use Rattle.simplex_form.specs.Basis.{BasisState, IsBasis, basic, pivoted}
use Rattle.simplex_form.specs.Board.{entry, pivot, price, right_side}
use Rattle.simplex_form.specs.Form.{Form}
use Rattle.simplex_form.specs.Readings.{readings}
use Rattle.simplex_form.specs.Standing.{Enters, LeavesBasis, StandsAtBasis}
use Rattle.simplex_form.specs.Turns.{ratio}
use Rattle.simplex_laws.specs.BoardLaws.{basic-pivot_at, basic-pivot_off, cost-pivot, right_side-pivot}
use Rattle.simplex_laws.specs.BoundedSumLaws.{same_or_other, sum_to_same}
use Rattle.simplex_laws.specs.PivotLaws.{quotient_back}
use Rattle.simplex_laws.specs.StandingLaws.{above_not_zero, right_side-still}
use Rattle.bland_rule_laws.specs.BasicColumns.{basic_distinct, basic_if, basic_row, is_basic, not_basic_if, price-is_basic}
use Rattle.bland_rule_laws.specs.Exchange.{value}

-- a real column takes the place of the basic column of a row
pub record ReplacesBasic (F : Form) (s t : BasisState) : Type 0 where
  pub row : ℕ
  pub column : ℕ
  pub within : row < F.rows
  pub real : column < F.reals
  pub at : basic t row ≡ column
  pub off : (i : ℕ) → ¬ (i ≡ row) → basic t i ≡ basic s i

-- by the rule at these costs; the point then costs less by the price times the ratio, and where the
-- row's right side is 0, no right side moves
pub record IsStep (F : Form) (cost : ℕ → Rational) (s t : BasisState) : Type 0 where
  pub moves : ReplacesBasic F s t
  pub enters : Enters (readings F s) (price F s cost) moves.column
  pub leaves : LeavesBasis (readings F s) moves.column moves.row
  pub costs : value F cost t
      ≡ value F cost s +ℚ price F s cost moves.column *ℚ ratio (readings F s) moves.column moves.row
  pub still : right_side F s moves.row ≡ zero_ℚ → (i : ℕ) → right_side F t i ≡ right_side F s i

-- ---- what moves

module _ (F : Form) (s t : BasisState) (m : ReplacesBasic F s t) (j : ℕ) where
  -- what wasn't basic and is, is the entering column
  pub entering_column : is_basic F s j ≡ false → is_basic F t j ≡ true → m.column ≡ j
  entering_column e g =
      let found : (i : ℕ) × (i < F.rows) × (basic t i ≡ j) = basic_row F t j g in
      same_or_other (m.column ≡ j) found.0 m.row
      (λ q. sym m.at ∙ ap (λ i. basic t i) (sym q) ∙ found.2)
      (λ n. absurd (true≢false (sym (basic_if F s j found.0 found.1
      (sym (m.off found.0 n) ∙ found.2)) ∙ e)))

  -- what was basic and isn't, is the leaving column
  pub leaving_column : is_basic F s j ≡ true → is_basic F t j ≡ false → basic s m.row ≡ j
  leaving_column e g =
      let found : (i : ℕ) × (i < F.rows) × (basic s i ≡ j) = basic_row F s j e in
      same_or_other (basic s m.row ≡ j) found.0 m.row
      (λ q. ap (λ i. basic s i) (sym q) ∙ found.2)
      (λ n. absurd (true≢false (sym (basic_if F t j found.0 found.1
      (m.off found.0 n ∙ found.2)) ∙ g)))

module _ (F : Form) (s t : BasisState) (m : ReplacesBasic F s t) where
  pub entered : is_basic F t m.column ≡ true
  entered = basic_if F t m.column m.row m.within m.at

  -- no artificial column enters
  pub artificial-stays_out : (j : ℕ) → F.reals ≤ j → is_basic F s j ≡ false
      → is_basic F t j ≡ false
  artificial-stays_out j a e = by_test (is_basic F t j) refl
    where
      other_lem : (q c j : ℕ) → q < c → c ≤ j → q ≡ j → ⊥
      other_lem q c j h k e = absurd (omega (arith, h, k, e))

      by_test : (v : Bool) → is_basic F t j ≡ v → is_basic F t j ≡ false
      by_test true g =
          absurd (other_lem m.column F.reals j m.real a (entering_column F s t m j e g))
      by_test false g = g

  -- the leaving column, where it is artificial, is out
  pub artificial-leaves : IsBasis F s → F.reals ≤ basic s m.row
      → is_basic F t (basic s m.row) ≡ false
  artificial-leaves basis a = not_basic_if F t (basic s m.row) (λ i b e.
      same_or_other ⊥ i m.row
      (λ q. other_lem m.column F.reals (basic s m.row) m.real a
      (sym m.at ∙ ap (λ k. basic t k) (sym q) ∙ e))
      (λ n. n (basic_distinct F s basis i m.row b m.within (sym (m.off i n) ∙ e))))
    where
      other_lem : (q c j : ℕ) → q < c → c ≤ j → q ≡ j → ⊥
      other_lem q c j h k e = absurd (omega (arith, h, k, e))

-- ---- a step by the rule

module _ (F : Form) (cost : ℕ → Rational) (s t : BasisState) (h : StandsAtBasis F s)
    (step : IsStep F cost s t) where
  -- the entering column wasn't basic
  pub enters_from_outside : is_basic F s step.moves.column ≡ false
  enters_from_outside = by_test (is_basic F s step.moves.column) refl
    where
      by_test : (v : Bool) → is_basic F s step.moves.column ≡ v
          → is_basic F s step.moves.column ≡ false
      by_test true e =
          absurd (not_‹ℚ_from_≤ℚ zero_ℚ zero_ℚ (≤ℚ_refl zero_ℚ)
          (subst (λ x. x ‹ℚ zero_ℚ) (price-is_basic F s h.basis cost step.moves.column e)
          step.enters.negative))
      by_test false e = e

  abbrev length_of : Rational
  length_of = ratio (readings F s) step.moves.column step.moves.row

  ratio_nonneg : zero_ℚ ≤ℚ length_of
  ratio_nonneg =
      nonneg_mul (right_side F s step.moves.row) (inverse_ℚ (entry F s step.moves.column
      step.moves.row)) (h.nonneg step.moves.row step.moves.within)
      (≤ℚ_from_‹ℚ zero_ℚ (inverse_ℚ (entry F s step.moves.column step.moves.row))
      (above_inverse (entry F s step.moves.column step.moves.row) step.leaves.above))

  -- no step costs more
  pub never_dearer : value F cost t ≤ℚ value F cost s
  never_dearer =
      subst (λ x. x ≤ℚ value F cost s) (sym step.costs)
      (less (value F cost s) (price F s cost step.moves.column *ℚ length_of)
      (subst (λ x. x ≤ℚ zero_ℚ) (*ℚ_comm length_of (price F s cost step.moves.column))
      (nonpos_mul length_of (price F s cost step.moves.column) ratio_nonneg
      (≤ℚ_from_‹ℚ (price F s cost step.moves.column) zero_ℚ step.enters.negative))))
    where
      less : (p q : Rational) → q ≤ℚ zero_ℚ → (p +ℚ q) ≤ℚ p
      less p q k = subst (λ x. (p +ℚ q) ≤ℚ x) (+ℚ-zero p) (≤ℚ-+ℚ_left q zero_ℚ p k)

  -- where it costs the same, the step is degenerate: the row's right side is 0
  pub degenerate : value F cost t ≡ value F cost s → right_side F s step.moves.row ≡ zero_ℚ
  degenerate e =
      zero_right (price F s cost step.moves.column) (entry F s step.moves.column step.moves.row)
      (right_side F s step.moves.row)
      (λ z. not_‹ℚ_from_≤ℚ zero_ℚ zero_ℚ (≤ℚ_refl zero_ℚ)
      (subst (λ x. x ‹ℚ zero_ℚ) z step.enters.negative))
      (above_not_zero (entry F s step.moves.column step.moves.row) step.leaves.above)
      (nothing_added (value F cost s) (price F s cost step.moves.column *ℚ length_of)
      (sym step.costs ∙ e))
    where
      nothing_added : (v x : Rational) → v +ℚ x ≡ v → x ≡ zero_ℚ
      nothing_added v x e = +ℚ_cancel x zero_ℚ v (added v x ∙ e ∙ sym (zero-+ℚ v))
        where
          added : (v x : Rational) → x +ℚ v ≡ v +ℚ x
          added v x = simp ring_ℚ

      zero_times : (p x : Rational) → ¬ (p ≡ zero_ℚ) → p *ℚ x ≡ zero_ℚ → x ≡ zero_ℚ
      zero_times p x n e = sym (quotient_back p x n) ∙ sym (*ℚ_assoc p x (inverse_ℚ p))
          ∙ ap (λ y. y *ℚ inverse_ℚ p) e ∙ zero-*ℚ (inverse_ℚ p)

      zero_right : (p e b : Rational) → ¬ (p ≡ zero_ℚ) → ¬ (e ≡ zero_ℚ)
          → p *ℚ (b *ℚ inverse_ℚ e) ≡ zero_ℚ → b ≡ zero_ℚ
      zero_right p e b n m h = sym (quotient_back e b m)
          ∙ ap (λ y. e *ℚ y) (zero_times p (b *ℚ inverse_ℚ e) n h) ∙ *ℚ-zero e

-- ---- a pivot by the rule is one

module _ (F : Form) (cost : ℕ → Rational) (s : BasisState) (h : StandsAtBasis F s) (phase : Phase)
    (r q : ℕ) where
  unfoldable pub pivot_moves : r < F.rows → q < F.reals → ReplacesBasic F s (pivot F s phase r q)
  pivot_moves b c = record {
    row = r;
    column = q;
    within = b;
    real = c;
    at = basic-pivot_at F s phase r q h.basis b;
    off = λ i n. basic-pivot_off F s phase r q i n;
  }

  pub pivot_steps : Enters (readings F s) (price F s cost) q → LeavesBasis (readings F s) q r
      → IsStep F cost s (pivot F s phase r q)
  unfolding pivot_moves
  pivot_steps e l = record {
    moves = pivot_moves l.row e.real;
    enters = e;
    leaves = l;
    costs = sum_to_same F.rows (λ i. cost (basic (pivot F s phase r q) i)
        *ℚ right_side F (pivot F s phase r q) i)
        (λ i. cost (basic (pivot F s phase r q) i)
        *ℚ pivoted r (entry F s q) (right_side F s) i)
        (λ i _. ap (λ x. cost (basic (pivot F s phase r q) i) *ℚ x)
        (right_side-pivot F s phase r q i))
        ∙ cost-pivot F s phase r q cost (right_side F s) h.basis l.row
        (above_not_zero (entry F s q r) l.above);
    still = λ z i. right_side-still F s h phase q r z i;
  }
