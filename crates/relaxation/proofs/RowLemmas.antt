-- The slacks of a row, and of the rows that are left.
use Rattle.std.specs.Prelude.{◌≡◌, ◌+◌, ◌*◌, ◌≤◌, ℕ, Bool, true, false, cond, List, [], ◌∷◌, length}
use Rattle.std.proofs.Common.{Decides, ap, arith, get_or, ◌∙◌}
use Rattle.std.proofs.lemmas.Bool.Decides.{same_from_decides}
use Rattle.ratio_core.specs.Rational.{Rational, rational_eq, zero_ℚ}
use Rattle.ratio_core.specs.RationalLaws.{rational_eq_Decides}
use Rattle.set_core.specs.declared.set.Set.{Set}
use Rattle.set_core.specs.declared.set.Set.TheVariants.{LessThan, GreaterThan, EqualTo, Interval}
use Rattle.user_model.specs.declared.row.Row.{Row}
use Rattle.relaxed_model.specs.Relaxed.{is_soft, slack_violation, row_signs, signs_on, slack_count}

pub soft_signs : (r : Row) → is_soft r ≡ true → row_signs r ≡ signs_on r.set
soft_signs r e = ap (λ b. cond b (signs_on r.set) []) e

pub hard_signs : (r : Row) → is_soft r ≡ false → row_signs r ≡ []
hard_signs r e = ap (λ b. cond b (signs_on r.set) []) e

pub soft_length : (r : Row) (n : ℕ) → is_soft r ≡ true → length (signs_on r.set) ≡ n
    → length (row_signs r) ≡ n
soft_length r n e h = ap length (soft_signs r e) ∙ h

pub hard_length : (r : Row) → is_soft r ≡ false → length (row_signs r) ≡ 0
hard_length r e = ap length (hard_signs r e)

few_signs : (set : Set) → length (signs_on set) ≤ 2
few_signs (LessThan u) = omega arith
few_signs (GreaterThan l) = omega arith
few_signs (EqualTo a) = omega arith
few_signs (Interval l u) = omega arith
few_signs set = omega arith

pub few_row_signs : (r : Row) → length (row_signs r) ≤ 2
few_row_signs r = by (is_soft r)
  where
    by : (b : Bool) → length (cond b (signs_on r.set) []) ≤ 2
    by true = few_signs r.set
    by false = omega arith

pub few_slacks : (rows : List Row) → slack_count rows ≤ 2 * length rows
few_slacks [] = omega arith
few_slacks (r ∷ rows) = omega (arith, few_row_signs r, few_slacks rows)

pub first_count : (left rest : List Row) (r : Row) → left ≡ r ∷ rest
    → slack_count left ≡ length (row_signs r) + slack_count rest
first_count left rest r e = ap slack_count e

-- of two slacks the second is the number where the first is 0
pub violation_of_two : (s : List Rational) (first second : Rational) (b : Bool) → 2 ≤ length s
    → first ≡ get_or s 0 first → second ≡ get_or s 1 second → Decides b (first ≡ zero_ℚ)
    → cond b second first ≡ slack_violation s
violation_of_two [] first second b size at_first at_second h = absurd (omega (arith, size))
violation_of_two (t ∷ []) first second b size at_first at_second h = absurd (omega (arith, size))
violation_of_two (t ∷ u ∷ more) first second b size at_first at_second h =
    ap (λ c. cond c second first)
    (same_from_decides b (rational_eq first zero_ℚ) h (rational_eq_Decides first zero_ℚ))
    ∙ (λ i. cond (rational_eq (at_first i) zero_ℚ) (at_second i) (at_first i))

pub ruleset row_laws = (soft_length, hard_length, few_slacks, first_count)
