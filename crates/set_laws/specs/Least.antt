-- For a set of n components `low_of` is the least product of a dual with the set's vectors: it is
-- at most each, and reached.
use Rattle.std.specs.Prelude.{◌≡◌, ℕ, zero, suc, ◌<◌, ◌≤◌, Bool, true, false, List, [], ◌∷◌, length, cond, replicate, refl}
use Rattle.std.specs.Ordering.{MatchOrdering, is_le}
use Rattle.std.proofs.Common.{sym, ◌∙◌, ap₂, arith, subst, Ordering, Less, Equal, Greater}
use Rattle.std.proofs.lemmas.List.{length-replicate}
use Rattle.std.proofs.lemmas.List.Elements.{All-nil, All-replicate}
use Rattle.ratio_core.specs.Rational.{Rational, abs_ℚ, rational_cmp, zero_ℚ, ◌*ℚ◌, ◌+ℚ◌, ◌≤ℚ◌, ◌‹ℚ◌}
use Rattle.ratio_core.specs.RationalLaws.{rational_ranks}
use Rattle.rational_laws.specs.Dot.{dot}
use Rattle.rational_laws.specs.DotLaws.{dot-zeros, dot_comm, dot_nonneg, dot_nonpos, dot_zeros, zeros_dot}
use Rattle.rational_laws.specs.Field.{*ℚ_comm, +ℚ-zero}
use Rattle.rational_laws.specs.Order.{≤ℚ-*ℚ, ≤ℚ-*ℚ_nonpos, ≤ℚ_from_≡, ≤ℚ_from_‹ℚ, ≤ℚ_refl}
use Rattle.set_core.specs.declared.set.Set.{Set}
use Rattle.set_core.specs.declared.set.Set.TheVariants.{LessThan, GreaterThan, EqualTo, Interval, Reals, Zeros, Nonnegatives, Nonpositives, NormInfinityCone, NormOneCone}
use Rattle.set_core.specs.Membership.{Dual, In, low_of}
use Rattle.set_core.specs.ShapeLaws.{in_order}
use Rattle.set_core.specs.Shapes.{IsSetOf}
use Rattle.set_core.specs.Vectors.{DominatesEach, DominatesSum, first_of}
use Rattle.set_laws.specs.Norms.{abs_zero, dot_norms, first_nonneg, norm, norm_dominated}

-- a list of one number
pub single : (P : List Rational → Type 0) → ((p : Rational) → P (p ∷ [])) → (w : List Rational)
    → length w ≡ 1 → P w
single P h [] e = absurd (omega (arith, e))
single P h (p ∷ []) e = h p
single P h (p ∷ q ∷ w) e = absurd (omega (arith, e))

pub single₂ : (P : List Rational → List Rational → Type 0)
    → ((p q : Rational) → P (p ∷ []) (q ∷ [])) → (w v : List Rational) → length w ≡ 1 → length v ≡ 1
    → P w v
single₂ P h w v a b = single (λ w. P w v) (λ p. single (λ v. P (p ∷ []) v) (h p) v b) w a

-- ---- the scalar sets

one_product : (p q : Rational) → q *ℚ p ≡ p *ℚ q +ℚ zero_ℚ
one_product p q = *ℚ_comm q p ∙ sym (+ℚ-zero (p *ℚ q))

below_product : (x p q : Rational) → (x *ℚ p) ≤ℚ (q *ℚ p) → (x *ℚ p) ≤ℚ (p *ℚ q +ℚ zero_ℚ)
below_product x p q h = subst (λ y. (x *ℚ p) ≤ℚ y) (one_product p q) h

interval_low : (l u p q : Rational) (r : Ordering)
    → MatchOrdering r (zero_ℚ ‹ℚ p) (zero_ℚ ≡ p) (p ‹ℚ zero_ℚ) → l ≤ℚ q → q ≤ℚ u
    → (cond (is_le r) l u *ℚ p) ≤ℚ (q *ℚ p)
interval_low l u p q Less k a b = ≤ℚ-*ℚ l q p a (≤ℚ_from_‹ℚ zero_ℚ p k)
interval_low l u p q Equal k a b = ≤ℚ-*ℚ l q p a (≤ℚ_from_≡ zero_ℚ p k)
interval_low l u p q Greater k a b = ≤ℚ-*ℚ_nonpos q u p b (≤ℚ_from_‹ℚ p zero_ℚ k)

longer : (n m : ℕ) → m ≡ n → 2 ≤ n → 1 < m
longer n m e h = omega (arith, e, h)

-- the end of the interval that gives the least product is in it
end_within : (l u : Rational) (c : Bool) → l ≤ℚ u → (l ≤ℚ cond c l u) × (cond c l u ≤ℚ u)
end_within l u true h = (≤ℚ_refl l, h)
end_within l u false h = (h, ≤ℚ_refl u)

-- ---- the least product is at most each

pub low_least : (n : ℕ) (set : Set) (w v : List Rational) → IsSetOf n set → length w ≡ n
    → length v ≡ n → In set v → Dual set w → low_of set w ≤ℚ dot w v
low_least n (LessThan u) w v s a b i d =
    single₂ (λ w v. first_of v ≤ℚ u → first_of w ≤ℚ zero_ℚ → (u *ℚ first_of w) ≤ℚ dot w v)
    (λ p q i d. below_product u p q (≤ℚ-*ℚ_nonpos q u p i d)) w v (a ∙ sym s.dimension)
    (b ∙ sym s.dimension) i d
low_least n (GreaterThan l) w v s a b i d =
    single₂ (λ w v. l ≤ℚ first_of v → zero_ℚ ≤ℚ first_of w → (l *ℚ first_of w) ≤ℚ dot w v)
    (λ p q i d. below_product l p q (≤ℚ-*ℚ l q p i d)) w v (a ∙ sym s.dimension)
    (b ∙ sym s.dimension) i d
low_least n (EqualTo x) w v s a b i d =
    single₂ (λ w v. first_of v ≡ x → (x *ℚ first_of w) ≤ℚ dot w v)
    (λ p q i. below_product x p q (subst (λ y. (y *ℚ p) ≤ℚ (q *ℚ p)) i (≤ℚ_refl (q *ℚ p)))) w v
    (a ∙ sym s.dimension) (b ∙ sym s.dimension) i
low_least n (Interval l u) w v s a b i d =
    single₂ (λ w v. (l ≤ℚ first_of v) × (first_of v ≤ℚ u)
    → (cond (is_le (rational_cmp zero_ℚ (first_of w))) l u *ℚ first_of w) ≤ℚ dot w v)
    (λ p q i. below_product (cond (is_le (rational_cmp zero_ℚ p)) l u) p q
    (interval_low l u p q (rational_cmp zero_ℚ p) (rational_ranks zero_ℚ p) i.0 i.1)) w v
    (a ∙ sym s.dimension) (b ∙ sym s.dimension) i
low_least n (Reals m) w v s a b i d = ≤ℚ_from_≡ zero_ℚ (dot w v) (sym (zeros_dot w v d))
low_least n (Zeros m) w v s a b i d = ≤ℚ_from_≡ zero_ℚ (dot w v) (sym (dot_zeros w v i))
low_least n (Nonnegatives m) w v s a b i d = dot_nonneg w v d i
low_least n (Nonpositives m) w v s a b i d = dot_nonpos w v d i
low_least n (NormInfinityCone m) w v s a b i d =
    dot_norms w v (first_nonneg v (longer n (length v) b s.enough) i) d i
low_least n (NormOneCone m) w v s a b i d =
    subst (λ x. zero_ℚ ≤ℚ x) (dot_comm v w) (dot_norms v w
    (first_nonneg w (longer n (length w) a s.enough) d) i d)

-- ---- and it is reached

-- some vector of n numbers in the set has this product with w
pub record Reaches (n : ℕ) (set : Set) (w : List Rational) (low : Rational) : Type 0 where
  pub vector : List Rational
  pub size : length vector ≡ n
  pub inside : In set vector
  pub product : dot w vector ≡ low

abbrev pub zeros : ℕ → List Rational
zeros n = replicate n zero_ℚ

pub length-zeros : (n : ℕ) → length (zeros n) ≡ n
length-zeros n = length-replicate n zero_ℚ

pub norm_zeros : (n : ℕ) → norm (zeros n) ≡ zero_ℚ
norm_zeros zero = refl
norm_zeros (suc n) = ap₂ ◌+ℚ◌ abs_zero (norm_zeros n) ∙ +ℚ-zero zero_ℚ

zeros_each : (n : ℕ) → DominatesEach (zeros n)
zeros_each zero = All-nil (λ x. abs_ℚ x ≤ℚ zero_ℚ)
zeros_each (suc n) =
    All-replicate (λ x. abs_ℚ x ≤ℚ zero_ℚ) n zero_ℚ (≤ℚ_from_≡ (abs_ℚ zero_ℚ) zero_ℚ abs_zero)

zeros_sum : (n : ℕ) → DominatesSum (zeros n)
zeros_sum zero = ≤ℚ_refl zero_ℚ
zeros_sum (suc n) =
    norm_dominated zero_ℚ (zeros n) (≤ℚ_from_≡ (norm (zeros n)) zero_ℚ (norm_zeros n))

module _ (n : ℕ) (w : List Rational) (a : length w ≡ n) where
  -- a scalar set's number
  one_reached : (set : Set) (x : Rational) → 1 ≡ n → In set (x ∷ [])
      → Reaches n set w (x *ℚ first_of w)
  one_reached set x e i = record {
    vector = x ∷ [];
    size = e;
    inside = i;
    product =
        single (λ w. dot w (x ∷ []) ≡ x *ℚ first_of w) (λ p. sym (one_product p x)) w (a ∙ sym e);
  }

  -- a cone takes zeros
  zeros_reached : (set : Set) → In set (zeros n) → Reaches n set w zero_ℚ
  zeros_reached set i =
      record { vector = zeros n; size = length-zeros n; inside = i; product = dot-zeros w n }

  pub low_reached : (set : Set) → IsSetOf n set → Reaches n set w (low_of set w)
  low_reached (LessThan x) s = one_reached (LessThan x) x s.dimension (≤ℚ_refl x)
  low_reached (GreaterThan x) s = one_reached (GreaterThan x) x s.dimension (≤ℚ_refl x)
  low_reached (EqualTo x) s = one_reached (EqualTo x) x s.dimension refl
  low_reached (Interval l u) s =
      let c : Bool = is_le (rational_cmp zero_ℚ (first_of w)) in
      one_reached (Interval l u) (cond c l u) s.dimension
      (end_within l u c (in_order l u s.uncrossed))
  low_reached (Reals m) s = zeros_reached (Reals m) tt
  low_reached (Zeros m) s = zeros_reached (Zeros m) (All-replicate (λ x. x ≡ zero_ℚ) n zero_ℚ refl)
  low_reached (Nonnegatives m) s =
      zeros_reached (Nonnegatives m) (All-replicate (λ x. zero_ℚ ≤ℚ x) n zero_ℚ (≤ℚ_refl zero_ℚ))
  low_reached (Nonpositives m) s =
      zeros_reached (Nonpositives m) (All-replicate (λ x. x ≤ℚ zero_ℚ) n zero_ℚ (≤ℚ_refl zero_ℚ))
  low_reached (NormInfinityCone m) s = zeros_reached (NormInfinityCone m) (zeros_each n)
  low_reached (NormOneCone m) s = zeros_reached (NormOneCone m) (zeros_sum n)
