-- Laws of the duals of a group, and of an interval's parts.
use Rattle.std.specs.Prelude.{◌≡◌, ℕ, List, [], ◌∷◌, length, replicate, refl}
use Rattle.std.proofs.Common.{sym, ◌∙◌, ap, arith, subst}
use Rattle.std.proofs.lemmas.List.{length-replicate}
use Rattle.ratio_core.specs.Rational.{Rational, zero_ℚ, ◌*ℚ◌, ◌+ℚ◌, ◌-ℚ◌, ◌≤ℚ◌}
use Rattle.rational_laws.specs.Dot.{dot}
use Rattle.rational_laws.specs.DotLaws.{dot-zeros}
use Rattle.rational_laws.specs.Field.{*ℚ-zero, *ℚ_comm, +ℚ-zero, zero-+ℚ}
use Rattle.rational_laws.specs.Order.{≤ℚ_from_≡}
use Rattle.rational_laws.specs.Ring.{as_expression, by_ring, ring₂, ring₃, zero_as}
use Rattle.set_core.specs.declared.set.Set.{Set}
use Rattle.set_core.specs.declared.set.Set.TheVariants.{LessThan, GreaterThan, EqualTo, Interval, Zeros}
use Rattle.set_core.specs.Membership.{Dual, low_of}
use Rattle.set_core.specs.ShapeLaws.{in_order}
use Rattle.set_core.specs.Shapes.{IsSetOf}
use Rattle.set_core.specs.Vectors.{first_of, others_of}
use Rattle.set_laws.specs.Least.{single}
use Rattle.dual_parts.specs.Parts.{AreOwn, IsLeftOfDuals, above_zero, below_zero, own_bounds, own_for, shifts_on}
use Rattle.dual_parts.specs.PartLaws.{half_signs, half_sum, pair, parts_at, parts_below}

pub length-shifts_on : (n : ℕ) (set : Set) → IsSetOf n set → length (shifts_on set n) ≡ n
length-shifts_on n (LessThan u) s = s.dimension
length-shifts_on n (GreaterThan l) s = s.dimension
length-shifts_on n (EqualTo a) s = s.dimension
length-shifts_on n (Interval l u) s = s.dimension
length-shifts_on n set s = length-replicate n zero_ℚ

pub length-own_for : (set : Set) (w : List Rational)
    → length (own_for set w) ≡ length (own_bounds set)
length-own_for (Interval l u) w = refl
length-own_for set w = refl

-- the duals are in the dual set
pub left_dual : (set : Set) (w ps : List Rational) → IsLeftOfDuals set w ps → Dual set w
left_dual (EqualTo a) w ps h = tt
left_dual (Zeros n) w ps h = tt
left_dual (Interval l u) w ps h = tt
left_dual set w ps h = h

-- ---- duals have parts

pub are_own : (set : Set) (w : List Rational) → AreOwn set (own_for set w)
are_own (Interval l u) w = half_signs (first_of w)
are_own set w = tt

nothing_left : (y z : Rational) → (y +ℚ z) -ℚ y -ℚ z ≡ zero_ℚ
nothing_left = ring₂ _ (λ ρ. simp (as_expression, zero_as ρ) (by_ring ρ _ _ refl))

pub is_left : (set : Set) (w : List Rational) → Dual set w → IsLeftOfDuals set w (own_for set w)
is_left (EqualTo a) w h = tt
is_left (Zeros n) w h = tt
is_left (Interval l u) w h =
    ap (λ q. q -ℚ above_zero (first_of w) -ℚ below_zero (first_of w)) (sym (half_sum (first_of w)))
    ∙ nothing_left (above_zero (first_of w)) (below_zero (first_of w))
is_left set w h = h

-- ---- what they count in the least product

regrouped : (q y z : Rational) → q ≡ (q -ℚ y -ℚ z) +ℚ (y +ℚ z)
regrouped = ring₃ _ (λ ρ. simp as_expression (by_ring ρ _ _ refl))

-- the duals of an interval are the sum of their parts
pub left_sum : (q y z : Rational) → q -ℚ y -ℚ z ≡ zero_ℚ → y +ℚ z ≡ q
left_sum q y z e =
    sym (regrouped q y z ∙ ap (λ s. s +ℚ (y +ℚ z)) e ∙ zero-+ℚ (y +ℚ z))

one_shift : (n : ℕ) (w : List Rational) (x : Rational) → length w ≡ n → 1 ≡ n
    → zero_ℚ +ℚ dot w (x ∷ []) ≡ x *ℚ first_of w
one_shift n w x e k =
    zero-+ℚ (dot w (x ∷ []))
    ∙ single (λ w. dot w (x ∷ []) ≡ x *ℚ first_of w)
    (λ p. +ℚ-zero (p *ℚ x) ∙ *ℚ_comm p x) w (e ∙ sym k)

no_shift : (q s : Rational) → s +ℚ (q *ℚ zero_ℚ +ℚ zero_ℚ) ≡ s
no_shift q s = ap (λ t. s +ℚ t) (+ℚ-zero (q *ℚ zero_ℚ) ∙ *ℚ-zero q) ∙ +ℚ-zero s

no_shifts : (n : ℕ) (w : List Rational) → zero_ℚ +ℚ dot w (replicate n zero_ℚ) ≡ zero_ℚ
no_shifts n w = zero-+ℚ (dot w (replicate n zero_ℚ)) ∙ dot-zeros w n

-- the parts and the duals count at most the least product
pub shifts_below : (n : ℕ) (set : Set) (w ps : List Rational) → IsSetOf n set → length w ≡ n
    → length ps ≡ length (own_bounds set) → AreOwn set ps → IsLeftOfDuals set w ps
    → (dot ps (own_bounds set) +ℚ dot w (shifts_on set n)) ≤ℚ low_of set w
shifts_below n (LessThan x) w [] s e k o h = ≤ℚ_from_≡ _ _ (one_shift n w x e s.dimension)
shifts_below n (GreaterThan x) w [] s e k o h = ≤ℚ_from_≡ _ _ (one_shift n w x e s.dimension)
shifts_below n (EqualTo x) w [] s e k o h = ≤ℚ_from_≡ _ _ (one_shift n w x e s.dimension)
shifts_below n (Interval l u) w ps s e k o h =
    pair (λ ps. (zero_ℚ ≤ℚ first_of ps) × (first_of (others_of ps) ≤ℚ zero_ℚ)
    → first_of w -ℚ first_of ps -ℚ first_of (others_of ps) ≡ zero_ℚ
    → (dot ps (l ∷ u ∷ []) +ℚ dot w (zero_ℚ ∷ [])) ≤ℚ low_of (Interval l u) w)
    (λ y z o h. single (λ w. first_of w -ℚ y -ℚ z ≡ zero_ℚ
    → (dot (y ∷ z ∷ []) (l ∷ u ∷ []) +ℚ dot w (zero_ℚ ∷ [])) ≤ℚ low_of (Interval l u) w)
    (λ q h. subst (λ t. t ≤ℚ low_of (Interval l u) (q ∷ []))
    (sym (no_shift q (dot (y ∷ z ∷ []) (l ∷ u ∷ []))))
    (subst (λ t. dot (y ∷ z ∷ []) (l ∷ u ∷ []) ≤ℚ low_of (Interval l u) (t ∷ []))
    (left_sum q y z h) (parts_below l u y z (in_order l u s.uncrossed) o.0 o.1)))
    w (e ∙ sym s.dimension) h) ps k o h
shifts_below n set w [] s e k o h = ≤ℚ_from_≡ _ _ (no_shifts n w)
shifts_below n set w (p ∷ ps) s e k o h = absurd (omega (arith, k))

-- and some count just that
pub shifts_at : (n : ℕ) (set : Set) (w : List Rational) → IsSetOf n set → length w ≡ n
    → dot (own_for set w) (own_bounds set) +ℚ dot w (shifts_on set n) ≡ low_of set w
shifts_at n (LessThan x) w s e = one_shift n w x e s.dimension
shifts_at n (GreaterThan x) w s e = one_shift n w x e s.dimension
shifts_at n (EqualTo x) w s e = one_shift n w x e s.dimension
shifts_at n (Interval l u) w s e =
    single (λ w. dot (above_zero (first_of w) ∷ below_zero (first_of w) ∷ []) (l ∷ u ∷ [])
    +ℚ dot w (zero_ℚ ∷ []) ≡ low_of (Interval l u) w)
    (λ q. no_shift q (dot (above_zero q ∷ below_zero q ∷ []) (l ∷ u ∷ [])) ∙ parts_at l u q) w
    (e ∙ sym s.dimension)
shifts_at n set w s e = no_shifts n w
