-- Laws of the parts of a row's duals.
use Rattle.std.specs.Prelude.{◌≡◌, ℕ, Bool, true, false, List, [], ◌∷◌, ◌++◌, length, cond, replicate, refl}
use Rattle.std.specs.Ordering.{MatchOrdering, is_le}
use Rattle.std.proofs.Common.{sym, ◌∙◌, ap, ap₂, arith, subst, Ordering, Less, Equal, Greater}
use Rattle.std.proofs.lemmas.List.{length-replicate}
use Rattle.ratio_core.specs.Rational.{Rational, rational_cmp, zero_ℚ, ◌*ℚ◌, ◌+ℚ◌, ◌≤ℚ◌, ◌‹ℚ◌}
use Rattle.ratio_core.specs.RationalLaws.{rational_ranks}
use Rattle.rational_laws.specs.Dot.{dot}
use Rattle.rational_laws.specs.DotLaws.{dot-zeros}
use Rattle.rational_laws.specs.Field.{*ℚ-+ℚ, *ℚ_comm, *ℚ-zero, +ℚ-*ℚ, +ℚ-zero, zero-+ℚ}
use Rattle.rational_laws.specs.Order.{≤ℚ-+ℚ, ≤ℚ-*ℚ, ≤ℚ-*ℚ_nonpos, ≤ℚ_from_≡, ≤ℚ_from_‹ℚ, ≤ℚ_refl}
use Rattle.set_core.specs.declared.set.Set.{Set}
use Rattle.set_core.specs.declared.set.Set.TheVariants.{LessThan, GreaterThan, EqualTo, Interval}
use Rattle.set_core.specs.Membership.{Dual, low_of}
use Rattle.set_core.specs.ShapeLaws.{in_order}
use Rattle.set_core.specs.Shapes.{IsSetOf}
use Rattle.set_core.specs.Vectors.{first_of, others_of}
use Rattle.set_laws.specs.Least.{single}
use Rattle.dual_parts.specs.Parts.{AreParts, above_zero, below_zero, bounds_on, joined, on_parts, part_count, parts_for}

-- ---- lists of one and two numbers

pub pair : (P : List Rational → Type 0) → ((p q : Rational) → P (p ∷ q ∷ [])) → (w : List Rational)
    → length w ≡ 2 → P w
pair P h [] e = absurd (omega (arith, e))
pair P h (p ∷ []) e = absurd (omega (arith, e))
pair P h (p ∷ q ∷ []) e = h p q
pair P h (p ∷ q ∷ r ∷ w) e = absurd (omega (arith, e))

-- ---- a number's parts above and below 0

halves : (q : Rational) (r : Ordering)
    → MatchOrdering r (zero_ℚ ‹ℚ q) (zero_ℚ ≡ q) (q ‹ℚ zero_ℚ)
    → (zero_ℚ ≤ℚ cond (is_le r) q zero_ℚ) × (cond (is_le r) zero_ℚ q ≤ℚ zero_ℚ)
halves q Less k = (≤ℚ_from_‹ℚ zero_ℚ q k, ≤ℚ_refl zero_ℚ)
halves q Equal k = (≤ℚ_from_≡ zero_ℚ q k, ≤ℚ_refl zero_ℚ)
halves q Greater k = (≤ℚ_refl zero_ℚ, ≤ℚ_from_‹ℚ q zero_ℚ k)

-- the number is at least 0 above, and at most 0 below
pub half_signs : (q : Rational) → (zero_ℚ ≤ℚ above_zero q) × (below_zero q ≤ℚ zero_ℚ)
half_signs q = halves q (rational_cmp zero_ℚ q) (rational_ranks zero_ℚ q)

pub half_sum : (q : Rational) → above_zero q +ℚ below_zero q ≡ q
half_sum q = by (is_le (rational_cmp zero_ℚ q))
  where
    by : (b : Bool) → cond b q zero_ℚ +ℚ cond b zero_ℚ q ≡ q
    by true = +ℚ-zero q
    by false = zero-+ℚ q

-- ---- lengths

pub length-joined : (n : ℕ) (set : Set) (ys : List Rational) → IsSetOf n set
    → length ys ≡ part_count set n → length (joined set ys) ≡ n
length-joined n (Interval l u) ys s e = s.dimension
length-joined n set ys s e = e

pub length-parts_for : (n : ℕ) (set : Set) (w : List Rational) → length w ≡ n
    → length (parts_for set w) ≡ part_count set n
length-parts_for n (Interval l u) w e = refl
length-parts_for n set w e = e

pub length-bounds_on : (n : ℕ) (set : Set) → IsSetOf n set
    → length (bounds_on set n) ≡ part_count set n
length-bounds_on n (LessThan u) s = s.dimension
length-bounds_on n (GreaterThan l) s = s.dimension
length-bounds_on n (EqualTo a) s = s.dimension
length-bounds_on n (Interval l u) s = refl
length-bounds_on n set s = length-replicate n zero_ℚ

pub length-on_parts : (n : ℕ) (set : Set) (qs : List Rational) → IsSetOf n set → length qs ≡ n
    → length (on_parts set qs) ≡ part_count set n
length-on_parts n (Interval l u) qs s e =
    single (λ qs. length (qs ++ qs) ≡ 2) (λ q. refl) qs (e ∙ sym s.dimension)
length-on_parts n set qs s e = e

-- ---- parts give duals, and duals have parts

pub joined_dual : (set : Set) (ys : List Rational) → AreParts set ys → Dual set (joined set ys)
joined_dual (Interval l u) ys h = tt
joined_dual set ys h = h

pub are_parts : (set : Set) (w : List Rational) → Dual set w → AreParts set (parts_for set w)
are_parts (Interval l u) w h = half_signs (first_of w)
are_parts set w h = h

pub joined_parts : (n : ℕ) (set : Set) (w : List Rational) → IsSetOf n set → length w ≡ n
    → joined set (parts_for set w) ≡ w
joined_parts n (Interval l u) w s e =
    single (λ w. (above_zero (first_of w) +ℚ below_zero (first_of w)) ∷ [] ≡ w)
    (λ q. ap (λ p. p ∷ []) (half_sum q)) w (e ∙ sym s.dimension)
joined_parts n set w s e = refl

-- ---- what parts weigh

two_weighed : (y z q : Rational)
    → y *ℚ q +ℚ (z *ℚ q +ℚ zero_ℚ) ≡ (y +ℚ z) *ℚ q +ℚ zero_ℚ
two_weighed y z q =
    ap (λ s. y *ℚ q +ℚ s) (+ℚ-zero (z *ℚ q)) ∙ sym (+ℚ-*ℚ y z q)
    ∙ sym (+ℚ-zero ((y +ℚ z) *ℚ q))

-- parts weigh what stands at each as the duals do
pub dot-on_parts : (n : ℕ) (set : Set) (ys qs : List Rational) → IsSetOf n set
    → length ys ≡ part_count set n → length qs ≡ n
    → dot ys (on_parts set qs) ≡ dot (joined set ys) qs
dot-on_parts n (Interval l u) ys qs s e k =
    pair (λ ys. dot ys (qs ++ qs) ≡ dot ((first_of ys +ℚ first_of (others_of ys)) ∷ []) qs)
    (λ y z. single (λ qs. dot (y ∷ z ∷ []) (qs ++ qs) ≡ dot ((y +ℚ z) ∷ []) qs)
    (λ q. two_weighed y z q) qs (k ∙ sym s.dimension)) ys e
dot-on_parts n set ys qs s e k = refl

-- ---- what they count in the least product

one_product : (p q : Rational) → p *ℚ q +ℚ zero_ℚ ≡ q *ℚ p
one_product p q = +ℚ-zero (p *ℚ q) ∙ *ℚ_comm p q

two_products : (y z l u : Rational) → y *ℚ l +ℚ (z *ℚ u +ℚ zero_ℚ) ≡ l *ℚ y +ℚ u *ℚ z
two_products y z l u = ap₂ ◌+ℚ◌ (*ℚ_comm y l) (one_product z u)

-- the end that counts is between the bounds
end_between : (l u : Rational) (c : Bool) → l ≤ℚ u → (l ≤ℚ cond c l u) × (cond c l u ≤ℚ u)
end_between l u true h = (≤ℚ_refl l, h)
end_between l u false h = (h, ≤ℚ_refl u)

-- two parts count at most what a number between the bounds does
at_most_between : (l u c y z : Rational) → l ≤ℚ c → c ≤ℚ u → zero_ℚ ≤ℚ y → z ≤ℚ zero_ℚ
    → (l *ℚ y +ℚ u *ℚ z) ≤ℚ (c *ℚ (y +ℚ z))
at_most_between l u c y z a b e k =
    subst (λ s. (l *ℚ y +ℚ u *ℚ z) ≤ℚ s) (sym (*ℚ-+ℚ c y z))
    (≤ℚ-+ℚ (l *ℚ y) (c *ℚ y) (u *ℚ z) (c *ℚ z) (≤ℚ-*ℚ l c y a e) (≤ℚ-*ℚ_nonpos c u z b k))

pub parts_below : (l u : Rational) (y z : Rational) → l ≤ℚ u → zero_ℚ ≤ℚ y → z ≤ℚ zero_ℚ
    → (y *ℚ l +ℚ (z *ℚ u +ℚ zero_ℚ)) ≤ℚ low_of (Interval l u) ((y +ℚ z) ∷ [])
parts_below l u y z h e k =
    let b : Bool = is_le (rational_cmp zero_ℚ (y +ℚ z)) in
    let between = end_between l u b h in
    subst (λ s. s ≤ℚ low_of (Interval l u) ((y +ℚ z) ∷ [])) (sym (two_products y z l u))
    (at_most_between l u (cond b l u) y z between.0 between.1 e k)

pub parts_at : (l u q : Rational)
    → above_zero q *ℚ l +ℚ (below_zero q *ℚ u +ℚ zero_ℚ) ≡ low_of (Interval l u) (q ∷ [])
parts_at l u q =
    two_products (above_zero q) (below_zero q) l u ∙ by (is_le (rational_cmp zero_ℚ q))
  where
    by : (b : Bool) → l *ℚ cond b q zero_ℚ +ℚ u *ℚ cond b zero_ℚ q ≡ cond b l u *ℚ q
    by true = ap (λ s. l *ℚ q +ℚ s) (*ℚ-zero u) ∙ +ℚ-zero (l *ℚ q)
    by false = ap (λ s. s +ℚ u *ℚ q) (*ℚ-zero l) ∙ zero-+ℚ (u *ℚ q)

one_count : (n : ℕ) (ys : List Rational) (x : Rational) → length ys ≡ n → 1 ≡ n
    → dot ys (x ∷ []) ≡ x *ℚ first_of ys
one_count n ys x e k =
    single (λ ys. dot ys (x ∷ []) ≡ x *ℚ first_of ys) (λ y. one_product y x) ys (e ∙ sym k)

-- parts count at most the least product
pub below_low : (n : ℕ) (set : Set) (ys : List Rational) → IsSetOf n set
    → length ys ≡ part_count set n → AreParts set ys
    → dot ys (bounds_on set n) ≤ℚ low_of set (joined set ys)
below_low n (LessThan x) ys s e h = ≤ℚ_from_≡ _ _ (one_count n ys x e s.dimension)
below_low n (GreaterThan x) ys s e h = ≤ℚ_from_≡ _ _ (one_count n ys x e s.dimension)
below_low n (EqualTo x) ys s e h = ≤ℚ_from_≡ _ _ (one_count n ys x e s.dimension)
below_low n (Interval l u) ys s e h =
    pair (λ ys. (zero_ℚ ≤ℚ first_of ys) × (first_of (others_of ys) ≤ℚ zero_ℚ)
    → dot ys (l ∷ u ∷ [])
    ≤ℚ low_of (Interval l u) ((first_of ys +ℚ first_of (others_of ys)) ∷ []))
    (λ y z h. parts_below l u y z (in_order l u s.uncrossed) h.0 h.1) ys e h
below_low n set ys s e h = ≤ℚ_from_≡ (dot ys (replicate n zero_ℚ)) zero_ℚ (dot-zeros ys n)

-- and some count just that
pub at_low : (n : ℕ) (set : Set) (w : List Rational) → IsSetOf n set → length w ≡ n
    → dot (parts_for set w) (bounds_on set n) ≡ low_of set w
at_low n (LessThan x) w s e = one_count n w x e s.dimension
at_low n (GreaterThan x) w s e = one_count n w x e s.dimension
at_low n (EqualTo x) w s e = one_count n w x e s.dimension
at_low n (Interval l u) w s e =
    single (λ w. dot (above_zero (first_of w) ∷ below_zero (first_of w) ∷ []) (l ∷ u ∷ [])
    ≡ low_of (Interval l u) w) (λ q. parts_at l u q) w (e ∙ sym s.dimension)
at_low n set w s e = dot-zeros w n
