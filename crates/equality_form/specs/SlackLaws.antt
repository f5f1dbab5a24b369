-- What the slacks' columns of a point of the equality form add to the left side of each equation.
use Rattle.std.specs.Prelude.{◌≡◌, ℕ, zero, suc, ◌+◌, ◌<◌, Bool, true, false, List, [], ◌∷◌, ◌++◌, Option, Some, None, All, length, slice_index_or, refl}
use Rattle.std.proofs.Common.{sym, ◌∙◌, ap, ap₂, arith, subst}
use Rattle.std.proofs.lemmas.List.Elements.{All-head, All-tail}
use Rattle.ratio_core.specs.Rational.{Rational, zero_ℚ, ◌*ℚ◌, ◌+ℚ◌, ◌≤ℚ◌}
use Rattle.rational_laws.specs.Dot.{dot}
use Rattle.rational_laws.specs.Field.{+ℚ-zero, one-*ℚ, zero-*ℚ, zero-+ℚ}
use Rattle.rational_laws.specs.Order.{nonpos_neg}
use Rattle.simplex_form.specs.BoundedSums.{delta}
use Rattle.simplex_laws.specs.BoundedSumLaws.{delta_other, delta_same}
use Rattle.equality_form.specs.CellLaws.{flipped-*ℚ, flipped-zero}
use Rattle.equality_form.specs.Columns.{slack_at, slacks_from}
use Rattle.equality_form.specs.EqualityForm.{unit_at}
use Rattle.equality_form.specs.Equations.{Equation, flipped, slack_of}

-- what a slack may add to the left side
abbrev pub MayAdd : Option Bool → Rational → Type 0
MayAdd None s = s ≡ zero_ℚ
MayAdd (Some false) s = zero_ℚ ≤ℚ s
MayAdd (Some true) s = s ≤ℚ zero_ℚ

abbrev pub IsNonneg : Rational → Type 0
IsNonneg q = zero_ℚ ≤ℚ q

-- a slack's own equation, and any other
own : (b : Bool) (k : ℕ) (q s : Rational) → s ≡ zero_ℚ
    → flipped b (delta k k) *ℚ q +ℚ s ≡ flipped b q
own b k q s h =
    ap₂ (λ d t. flipped b d *ℚ q +ℚ t) (delta_same k) h ∙ +ℚ-zero (flipped b _ *ℚ q)
    ∙ sym (flipped-*ℚ b _ q) ∙ ap (flipped b) (one-*ℚ q)

other : (b : Bool) (k i : ℕ) (q s : Rational) → ¬ (k ≡ i) → flipped b (delta k i) *ℚ q +ℚ s ≡ s
other b k i q s n =
    ap (λ d. flipped b d *ℚ q +ℚ s) (delta_other k i n) ∙ ap (λ d. d *ℚ q +ℚ s) (flipped-zero b)
    ∙ ap (λ t. t +ℚ s) (zero-*ℚ q) ∙ zero-+ℚ s

-- later slacks add nothing
later : (es : List Equation) (k i : ℕ) (z : List Rational) → i < k
    → dot (unit_at (slacks_from k es) i) z ≡ zero_ℚ
later [] k i z h = refl
later (e ∷ es) k i z h = by_slack (later es (suc k) i) (slack_of e.set) z
  where
    by_slack : ((z : List Rational) → i < suc k
        → dot (unit_at (slacks_from (suc k) es) i) z ≡ zero_ℚ)
        → (o : Option Bool) (z : List Rational)
        → dot (unit_at (slack_at k o ++ slacks_from (suc k) es) i) z ≡ zero_ℚ
    by_slack rest None z = rest z (omega (arith, h))
    by_slack rest (Some b) [] = refl
    by_slack rest (Some b) (q ∷ z) = other b k i q _ (λ e. absurd (omega (arith, e, h)))
        ∙ rest z (omega (arith, h))

may_add : (b : Bool) (q : Rational) → IsNonneg q → MayAdd (Some b) (flipped b q)
may_add true q h = nonpos_neg q h
may_add false q h = h

pub slack_adds : (es : List Equation) (k i : ℕ) (z : List Rational) (d : Equation) → i < length es
    → length z ≡ length (slacks_from k es) → All IsNonneg z
    → MayAdd (slack_of (slice_index_or es i d).set) (dot (unit_at (slacks_from k es) (k + i)) z)
slack_adds [] k i z d h n p = absurd (omega (arith, h))
slack_adds (e ∷ es) k zero z d h n p =
    subst (λ i. MayAdd (slack_of e.set) (dot (unit_at (slacks_from k (e ∷ es)) i) z)) (omega arith)
    (by_slack (slack_of e.set) z n p)
  where
    by_slack : (o : Option Bool) (z : List Rational)
        → length z ≡ length (slack_at k o ++ slacks_from (suc k) es) → All IsNonneg z
        → MayAdd o (dot (unit_at (slack_at k o ++ slacks_from (suc k) es) k) z)
    by_slack None z n p = later es (suc k) k z (omega arith)
    by_slack (Some b) [] n p = absurd (omega (arith, n))
    by_slack (Some b) (q ∷ z) n p =
        subst (MayAdd (Some b)) (sym (own b k q _ (later es (suc k) k z (omega arith))))
        (may_add b q (All-head IsNonneg q z p))
slack_adds (e ∷ es) k (suc i) z d h n p =
    by_slack (λ z n p. subst (λ j. MayAdd (slack_of (slice_index_or es i d).set)
    (dot (unit_at (slacks_from (suc k) es) j) z)) (omega arith)
    (slack_adds es (suc k) i z d (omega (arith, h)) n p)) (slack_of e.set) z n p
  where
    adds : List Rational → Type 0
    adds z = MayAdd (slack_of (slice_index_or es i d).set)
        (dot (unit_at (slacks_from (suc k) es) (k + suc i)) z)

    by_slack : ((z : List Rational) → length z ≡ length (slacks_from (suc k) es) → All IsNonneg z
        → adds z) → (o : Option Bool) (z : List Rational)
        → length z ≡ length (slack_at k o ++ slacks_from (suc k) es) → All IsNonneg z
        → MayAdd (slack_of (slice_index_or es i d).set)
        (dot (unit_at (slack_at k o ++ slacks_from (suc k) es) (k + suc i)) z)
    by_slack rest None z n p = rest z n p
    by_slack rest (Some b) [] n p = absurd (omega (arith, n))
    by_slack rest (Some b) (q ∷ z) n p =
        subst (MayAdd (slack_of (slice_index_or es i d).set))
        (sym (other b k (k + suc i) q _ (λ e. absurd (omega (arith, e)))))
        (rest z (omega (arith, n)) (All-tail IsNonneg q z p))
