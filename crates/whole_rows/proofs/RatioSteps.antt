-- The ratio test on rows of whole numbers.
use Rattle.std.specs.Prelude.{◌≡◌, ℕ, ◌+◌, ◌<◌, Bool, true, false, not, nat_eq, ℤ, Option, refl, pos, ◌*ℤ◌, ◌<ℤ◌}
use Rattle.std.proofs.Common.{FitsSigned, eqb-true, of_z, to_z, w64, sym, ◌∙◌, add-one, ap, ap₂, arith}
use Rattle.std.proofs.lemmas.List.{get_or_past}
use Rattle.std.specs.Ordering.{int_cmp}
use Rattle.std.proofs.lemmas.Bool.{eqb-false}
use Rattle.std.proofs.lemmas.Int.{to_z-of_z}
use Rattle.rational_laws.specs.Over.{over-zero_ℚ, over-≡_out}
use Rattle.rational_laws.specs.Tests.{nonzero_test, zero_test}
use Rattle.ratio_core.specs.Rational.{rational_cmp, rational_eq, reduce, zero_ℚ, ◌/ℚ◌}
use Rattle.simplex_form.specs.Search.{best_below, better_of}
use Rattle.whole_rows.specs.declared.narrow_row.NarrowRow.{NarrowRow}
use Rattle.whole_rows.specs.RatioLaws.{cmp_ratios_is}
use Rattle.whole_rows.specs.Rows.{number_of, numerator_of, width_of}

-- behind the columns stands the right side
pub number_side : (row : NarrowRow) → reduce row.side row.den ≡ number_of row (width_of row)
number_side row =
    ap (λ z. reduce z row.den)
    (sym (get_or_past row.numbers.items (width_of row) row.side (omega arith)))

pub ratio_cmp : (row other : NarrowRow) (q : ℕ) → pos 0 <ℤ numerator_of row q
    → pos 0 <ℤ numerator_of other q
    → int_cmp (row.side *ℤ numerator_of other q) (other.side *ℤ numerator_of row q)
    ≡ rational_cmp (number_of row (width_of row) /ℚ number_of row q)
    (number_of other (width_of other) /ℚ number_of other q)
ratio_cmp row other q above other_above =
    cmp_ratios_is row.side (numerator_of row q) other.side (numerator_of other q) row.den other.den
    row.above other.above above other_above
    ∙ ap₂ (λ x y. rational_cmp (x /ℚ number_of row q) (y /ℚ number_of other q)) (number_side row)
    (number_side other)

pub best_more : (n : ℕ) (test : ℕ → Bool) (before : ℕ → ℕ → Bool) (best next : Option ℕ)
    → best ≡ best_below n test before → next ≡ better_of test before best n
    → next ≡ best_below (n + 1) test before
best_more n test before best next e f =
    f ∙ ap (λ o. better_of test before o n) e ∙ ap (λ k. best_below k test before)
    (sym (add-one n))

-- a number is 0 exactly where its numerator is
pub nonzero_told : (n : ℤ) (d : ℕ) → 0 < d → FitsSigned w64 n
    → not (nat_eq (of_z w64 n) 0) ≡ not (rational_eq (reduce n d) zero_ℚ)
nonzero_told n d above fits = by_test (nat_eq (of_z w64 n) 0) refl
  where
    by_test : (b : Bool) → nat_eq (of_z w64 n) 0 ≡ b
        → not b ≡ not (rational_eq (reduce n d) zero_ℚ)
    by_test true e =
        sym (zero_test (reduce n d) (ap (λ z. reduce z d)
        (sym (to_z-of_z w64 n fits) ∙ ap (to_z w64) (eqb-true (of_z w64 n) 0 e))
        ∙ sym (over-zero_ℚ d above)))
    by_test false e =
        sym (nonzero_test (reduce n d) (λ z. eqb-false (of_z w64 n) 0 e
        (ap (of_z w64) (over-≡_out n (pos 0) d above (z ∙ over-zero_ℚ d above)))))
