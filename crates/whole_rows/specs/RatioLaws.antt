-- Quotients of fractions over one denominator are compared by their numerators.
use Rattle.std.specs.Prelude.{◌≡◌, ℕ, zero, suc, ◌*◌, ◌<◌, Bool, ◌&&◌, ◌||◌, ℤ, pos, negsuc, ◌*ℤ◌, ◌<ℤ◌, int_lt}
use Rattle.std.proofs.Common.{sym, ◌∙◌, ap, ap₂, arith, mul-pos, mul_comm, is_lt, is_eq, Ordering, Less, Equal, Greater}
use Rattle.std.proofs.lemmas.Int.{ints}
use Rattle.std.specs.Cmp.{int_ranks}
use Rattle.std.specs.Ordering.{MatchOrdering, int_cmp}
use Rattle.ratio_core.specs.Rational.{Rational, rational_cmp, reduce, zero_ℚ, ◌/ℚ◌, ◌‹ℚ◌}
use Rattle.ratio_core.specs.RationalLaws.{rank_as, rational_cmp_is, rational_eq-is_eq}
use Rattle.rational_laws.specs.Over.{over-zero_ℚ, over-‹ℚ_in, reduce_scaled}
use Rattle.simplex_form.specs.Turns.{is_below}
use Rattle.whole_rows.specs.NarrowFit.{turned_is}
use Rattle.tableau_core.specs.Leaving.{comes_before}

-- over one denominator
pub cmp_over : (x y : ℤ) (d : ℕ) → 0 < d → int_cmp x y ≡ rational_cmp (reduce x d) (reduce y d)
cmp_over x y d above =
    rational_cmp_is (reduce x d) (reduce y d) (int_cmp x y)
    (rank_as {P = reduce x d ‹ℚ reduce y d} {R = reduce y d ‹ℚ reduce x d} (int_cmp x y)
    (int_ranks x y) (over-‹ℚ_in x y d above) (ap (λ z. reduce z d)) (over-‹ℚ_in y x d above))

-- over any two
pub cmp_crossed : (m n : ℤ) (e d : ℕ) → 0 < e → 0 < d
    → int_cmp (m *ℤ pos d) (n *ℤ pos e) ≡ rational_cmp (reduce m e) (reduce n d)
cmp_crossed m n e d e_pos d_pos =
    cmp_over (m *ℤ pos d) (n *ℤ pos e) (e * d) (mul-pos e_pos d_pos)
    ∙ ap₂ rational_cmp (reduce_scaled m e d e_pos d_pos)
    (ap (reduce (n *ℤ pos e)) (mul_comm e d) ∙ reduce_scaled n d e d_pos e_pos)

-- in a quotient the denominator of both cancels
ratio_is : (N : ℤ) (b d : ℕ) → 0 < d → reduce N d /ℚ reduce (pos (suc b)) d ≡ reduce N (suc b)
ratio_is N b d above = turned_is (pos (suc b)) N (pos 0) d above (λ e. absurd (omega (arith, ints, e)))

pub cmp_ratios_is : (s b t c : ℤ) (d e : ℕ) → 0 < d → 0 < e → pos 0 <ℤ b → pos 0 <ℤ c
    → int_cmp (s *ℤ c) (t *ℤ b)
    ≡ rational_cmp (reduce s d /ℚ reduce b d) (reduce t e /ℚ reduce c e)
cmp_ratios_is s (pos zero) t c d e d_pos e_pos h k = absurd (omega (arith, ints, h))
cmp_ratios_is s (negsuc b) t c d e d_pos e_pos h k = absurd (omega (arith, ints, h))
cmp_ratios_is s (pos (suc b)) t (pos zero) d e d_pos e_pos h k = absurd (omega (arith, ints, k))
cmp_ratios_is s (pos (suc b)) t (negsuc c) d e d_pos e_pos h k = absurd (omega (arith, ints, k))
cmp_ratios_is s (pos (suc b)) t (pos (suc c)) d e d_pos e_pos h k =
    cmp_crossed s t (suc b) (suc c) (omega arith) (omega arith)
    ∙ ap₂ rational_cmp (sym (ratio_is s b d d_pos)) (sym (ratio_is t c e e_pos))

-- a test of whole numbers is one of their order
lt_by : (x y : ℤ) (r : Ordering) → MatchOrdering r (x <ℤ y) (x ≡ y) (y <ℤ x) → int_lt x y ≡ is_lt r
lt_by x y Less h = grind (arith, ints)
lt_by x y Equal h = grind (arith, ints)
lt_by x y Greater h = grind (arith, ints)

-- the sign of a number is that of its numerator
pub is_above_over : (b : ℤ) (d : ℕ) → 0 < d → int_lt (pos 0) b ≡ is_below zero_ℚ (reduce b d)
is_above_over b d above =
    lt_by (pos 0) b (int_cmp (pos 0) b) (int_ranks (pos 0) b)
    ∙ ap is_lt (cmp_over (pos 0) b d above
    ∙ ap (λ x. rational_cmp x (reduce b d)) (sym (over-zero_ℚ d above)))

-- which comes first
pub before_by : (p q : Rational) (w : Bool) (r : Ordering) → r ≡ rational_cmp p q
    → (is_lt r || is_eq r && w) ≡ comes_before p q w
before_by p q w r e =
    (λ i. is_lt (e i) || is_eq (e i) && w)
    ∙ (λ i. is_lt (rational_cmp p q) || sym (rational_eq-is_eq p q) i && w)

pub is_below_over : (b : ℤ) (d : ℕ) → 0 < d → int_lt b (pos 0) ≡ is_below (reduce b d) zero_ℚ
is_below_over b d above =
    lt_by b (pos 0) (int_cmp b (pos 0)) (int_ranks b (pos 0))
    ∙ ap is_lt (cmp_over b (pos 0) d above
    ∙ ap (rational_cmp (reduce b d)) (sym (over-zero_ℚ d above)))
