-- A set with its numbers multiplied. What is in the set multiplied by s and in that by t adds to
-- what is in that by s + t, and a multiple by a number of at least 0 goes along. So each multiple
-- of a recession vector by such a number keeps each vector of the set in it: the set is that by 1,
-- its recession set that by 0.
use Rattle.std.specs.Prelude.{◌≡◌, ℕ, Bool, true, false, cond, List, [], ◌∷◌, length, All, refl}
use Rattle.std.specs.Ordering.{is_le}
use Rattle.std.proofs.Common.{sym, ◌∙◌, ap, ap₂, arith, subst}
use Rattle.std.proofs.lemmas.List.Elements.{All-cons, All-head, All-nil, All-tail}
use Rattle.ratio_core.specs.Rational.{Rational, abs_ℚ, one_ℚ, rational_cmp, zero_ℚ, ◌*ℚ◌, ◌+ℚ◌, ◌≤ℚ◌}
use Rattle.rational_laws.specs.Dot.{plus, times}
use Rattle.rational_laws.specs.DotLaws.{length-times}
use Rattle.rational_laws.specs.Field.{*ℚ-+ℚ, *ℚ-zero, *ℚ_assoc, +ℚ-*ℚ, +ℚ-zero, +ℚ_inner_comm, one-*ℚ, zero-*ℚ}
use Rattle.rational_laws.specs.Order.{abs_ℚ-*ℚ, abs_ℚ-+ℚ, abs_ℚ_nonneg, nonneg_add, nonneg_mul, nonpos_mul, ≤ℚ-*ℚ_left, ≤ℚ-+ℚ, ≤ℚ_refl, ≤ℚ_trans}
use Rattle.set_core.specs.declared.set.Set.{Set}
use Rattle.set_core.specs.declared.set.Set.TheVariants.{EqualTo, GreaterThan, Interval, LessThan, Nonnegatives, Nonpositives, NormInfinityCone, NormOneCone, Reals, Zeros}
use Rattle.set_core.specs.Membership.{Dual, In, low_of, recession}
use Rattle.set_core.specs.Mirrored.{multiplied}
use Rattle.set_core.specs.ShapeLaws.{in_order, not_crossed}
use Rattle.set_core.specs.Shapes.{IsSetOf}
use Rattle.set_core.specs.Vectors.{DominatesEach, DominatesSum, first_of}
use Rattle.set_laws.specs.Norms.{dominates_norm, norm, norm_dominated}

-- ---- by 1, by 0, and twice

pub multiplied_one : (set : Set) → multiplied one_ℚ set ≡ set
multiplied_one (LessThan u) = ap LessThan (one-*ℚ u)
multiplied_one (GreaterThan l) = ap GreaterThan (one-*ℚ l)
multiplied_one (EqualTo a) = ap EqualTo (one-*ℚ a)
multiplied_one (Interval l u) = ap₂ Interval (one-*ℚ l) (one-*ℚ u)
multiplied_one _ = refl

pub multiplied_zero : (set : Set) → multiplied zero_ℚ set ≡ recession set
multiplied_zero (LessThan u) = ap LessThan (zero-*ℚ u)
multiplied_zero (GreaterThan l) = ap GreaterThan (zero-*ℚ l)
multiplied_zero (EqualTo a) = ap EqualTo (zero-*ℚ a)
multiplied_zero (Interval l u) = ap₂ Interval (zero-*ℚ l) (zero-*ℚ u)
multiplied_zero _ = refl

pub multiplied-recession : (t : Rational) (set : Set) → multiplied t (recession set) ≡ recession set
multiplied-recession t (LessThan u) = ap LessThan (*ℚ-zero t)
multiplied-recession t (GreaterThan l) = ap GreaterThan (*ℚ-zero t)
multiplied-recession t (EqualTo a) = ap EqualTo (*ℚ-zero t)
multiplied-recession t (Interval l u) = ap₂ Interval (*ℚ-zero t) (*ℚ-zero t)
multiplied-recession t _ = refl

-- ---- what else is multiplied

pub dual_of-multiplied : (t : Rational) (set : Set) (w : List Rational) → Dual set w
    → Dual (multiplied t set) w
dual_of-multiplied t (LessThan u) w h = h
dual_of-multiplied t _ w h = h

pub low_multiplied : (t : Rational) (set : Set) (w : List Rational)
    → low_of (multiplied t set) w ≡ t *ℚ low_of set w
low_multiplied t (LessThan u) w = *ℚ_assoc t u (first_of w)
low_multiplied t (GreaterThan l) w = *ℚ_assoc t l (first_of w)
low_multiplied t (EqualTo a) w = *ℚ_assoc t a (first_of w)
low_multiplied t (Interval l u) w = either (is_le (rational_cmp zero_ℚ (first_of w)))
  where
    either : (c : Bool) → cond c (t *ℚ l) (t *ℚ u) *ℚ first_of w ≡ t *ℚ (cond c l u *ℚ first_of w)
    either true = *ℚ_assoc t l (first_of w)
    either false = *ℚ_assoc t u (first_of w)
low_multiplied t _ w = sym (*ℚ-zero t)

pub multiplied_set : (t : Rational) → zero_ℚ ≤ℚ t → (n : ℕ) (set : Set) → IsSetOf n set
    → IsSetOf n (multiplied t set)
multiplied_set t a n (LessThan u) s =
    record { dimension = s.dimension; enough = s.enough; uncrossed = refl }
multiplied_set t a n (GreaterThan l) s =
    record { dimension = s.dimension; enough = s.enough; uncrossed = refl }
multiplied_set t a n (EqualTo x) s =
    record { dimension = s.dimension; enough = s.enough; uncrossed = refl }
multiplied_set t a n (Interval l u) s =
    record {
      dimension = s.dimension;
      enough = s.enough;
      uncrossed = not_crossed (t *ℚ l) (t *ℚ u) (≤ℚ-*ℚ_left l u t (in_order l u s.uncrossed) a);
    }
multiplied_set t a n _ s = s

-- ---- sums

-- what two numbers pass on to their sum, two vectors pass on to theirs
all_add : (P Q R : Rational → Type 0) → ((p q : Rational) → P p → Q q → R (p +ℚ q))
    → (u v : List Rational) → All P u → All Q v → All R (plus u v)
all_add P Q R step [] v h k = All-nil R
all_add P Q R step (p ∷ u) [] h k = All-nil R
all_add P Q R step (p ∷ u) (q ∷ v) h k =
    All-cons R (p +ℚ q) (plus u v) (step p q (All-head P p u h) (All-head Q q v k))
    (all_add P Q R step u v (All-tail P p u h) (All-tail Q q v k))

zero_add : (p q : Rational) → p ≡ zero_ℚ → q ≡ zero_ℚ → p +ℚ q ≡ zero_ℚ
zero_add p q h k = ap₂ ◌+ℚ◌ h k ∙ +ℚ-zero zero_ℚ

nonpos_add : (p q : Rational) → p ≤ℚ zero_ℚ → q ≤ℚ zero_ℚ → (p +ℚ q) ≤ℚ zero_ℚ
nonpos_add p q h k = subst (λ s. (p +ℚ q) ≤ℚ s) (+ℚ-zero zero_ℚ) (≤ℚ-+ℚ p zero_ℚ q zero_ℚ h k)

within_add : (a b p q : Rational) → abs_ℚ p ≤ℚ a → abs_ℚ q ≤ℚ b → abs_ℚ (p +ℚ q) ≤ℚ (a +ℚ b)
within_add a b p q h k = ≤ℚ_trans (abs_ℚ (p +ℚ q)) (abs_ℚ p +ℚ abs_ℚ q) (a +ℚ b) (abs_ℚ-+ℚ p q)
    (≤ℚ-+ℚ (abs_ℚ p) a (abs_ℚ q) b h k)

-- the magnitudes of a sum are at most the magnitudes' sum
norm_add : (u v : List Rational) → length u ≡ length v → norm (plus u v) ≤ℚ (norm u +ℚ norm v)
norm_add [] [] e = subst (λ s. zero_ℚ ≤ℚ s) (sym (+ℚ-zero zero_ℚ)) (≤ℚ_refl zero_ℚ)
norm_add [] (q ∷ v) e = absurd (omega (arith, e))
norm_add (p ∷ u) [] e = absurd (omega (arith, e))
norm_add (p ∷ u) (q ∷ v) e =
    subst (λ s. norm (plus (p ∷ u) (q ∷ v)) ≤ℚ s)
    (+ℚ_inner_comm (abs_ℚ p) (abs_ℚ q) (norm u) (norm v))
    (≤ℚ-+ℚ (abs_ℚ (p +ℚ q)) (abs_ℚ p +ℚ abs_ℚ q) (norm (plus u v)) (norm u +ℚ norm v) (abs_ℚ-+ℚ p q)
    (norm_add u v (omega (arith, e))))

dominates_each_add : (u v : List Rational) → DominatesEach u → DominatesEach v
    → DominatesEach (plus u v)
dominates_each_add [] v h k = All-nil (λ q. abs_ℚ q ≤ℚ zero_ℚ)
dominates_each_add (p ∷ u) [] h k = All-nil (λ q. abs_ℚ q ≤ℚ zero_ℚ)
dominates_each_add (p ∷ u) (q ∷ v) h k =
    all_add (λ x. abs_ℚ x ≤ℚ p) (λ x. abs_ℚ x ≤ℚ q) (λ x. abs_ℚ x ≤ℚ (p +ℚ q)) (within_add p q) u v
    h k

dominates_sum_add : (u v : List Rational) → length u ≡ length v → DominatesSum u → DominatesSum v
    → DominatesSum (plus u v)
dominates_sum_add [] v e h k = ≤ℚ_refl zero_ℚ
dominates_sum_add (p ∷ u) [] e h k = absurd (omega (arith, e))
dominates_sum_add (p ∷ u) (q ∷ v) e h k =
    norm_dominated (p
    +ℚ q) (plus u v) (≤ℚ_trans (norm (plus u v)) (norm u +ℚ norm v) (p +ℚ q)
    (norm_add u v (omega (arith, e))) (≤ℚ-+ℚ (norm u) p (norm v) q (dominates_norm p u h)
    (dominates_norm q v k)))

first_add : (u v : List Rational) → length u ≡ length v
    → first_of (plus u v) ≡ first_of u +ℚ first_of v
first_add [] [] e = sym (+ℚ-zero zero_ℚ)
first_add [] (q ∷ v) e = absurd (omega (arith, e))
first_add (p ∷ u) [] e = absurd (omega (arith, e))
first_add (p ∷ u) (q ∷ v) e = refl

module _ (s t : Rational) (u v : List Rational) (e : length u ≡ length v) where
  above_add : (l : Rational) → (s *ℚ l) ≤ℚ first_of u → (t *ℚ l) ≤ℚ first_of v
      → ((s +ℚ t) *ℚ l) ≤ℚ first_of (plus u v)
  above_add l h k =
      subst (λ x. ((s +ℚ t) *ℚ l) ≤ℚ x) (sym (first_add u v e))
      (subst (λ x. x ≤ℚ (first_of u +ℚ first_of v)) (sym (+ℚ-*ℚ s t l))
      (≤ℚ-+ℚ (s *ℚ l) (first_of u) (t *ℚ l) (first_of v) h k))

  below_add : (l : Rational) → first_of u ≤ℚ (s *ℚ l) → first_of v ≤ℚ (t *ℚ l)
      → first_of (plus u v) ≤ℚ ((s +ℚ t) *ℚ l)
  below_add l h k =
      subst (λ x. x ≤ℚ ((s +ℚ t) *ℚ l)) (sym (first_add u v e))
      (subst (λ x. (first_of u +ℚ first_of v) ≤ℚ x) (sym (+ℚ-*ℚ s t l))
      (≤ℚ-+ℚ (first_of u) (s *ℚ l) (first_of v) (t *ℚ l) h k))

  pub multiplied_plus : (set : Set) → In (multiplied s set) u → In (multiplied t set) v
      → In (multiplied (s +ℚ t) set) (plus u v)
  multiplied_plus (LessThan x) h k = below_add x h k
  multiplied_plus (GreaterThan x) h k = above_add x h k
  multiplied_plus (EqualTo x) h k = first_add u v e ∙ ap₂ ◌+ℚ◌ h k ∙ sym (+ℚ-*ℚ s t x)
  multiplied_plus (Interval x y) h k = (above_add x h.0 k.0, below_add y h.1 k.1)
  multiplied_plus (Reals n) h k = tt
  multiplied_plus (Zeros n) h k =
      all_add (λ q. q ≡ zero_ℚ) (λ q. q ≡ zero_ℚ) (λ q. q ≡ zero_ℚ) zero_add u v h k
  multiplied_plus (Nonnegatives n) h k =
      all_add (λ q. zero_ℚ ≤ℚ q) (λ q. zero_ℚ ≤ℚ q) (λ q. zero_ℚ ≤ℚ q) nonneg_add u v h k
  multiplied_plus (Nonpositives n) h k =
      all_add (λ q. q ≤ℚ zero_ℚ) (λ q. q ≤ℚ zero_ℚ) (λ q. q ≤ℚ zero_ℚ) nonpos_add u v h k
  multiplied_plus (NormInfinityCone n) h k = dominates_each_add u v h k
  multiplied_plus (NormOneCone n) h k = dominates_sum_add u v e h k

-- ---- multiples

module _ (t : Rational) (a : zero_ℚ ≤ℚ t) where
  all_times : (P R : Rational → Type 0) → ((q : Rational) → P q → R (t *ℚ q)) → (v : List Rational)
      → All P v → All R (times t v)
  all_times P R step [] h = All-nil R
  all_times P R step (q ∷ v) h = All-cons R (t *ℚ q) (times t v) (step q (All-head P q v h))
      (all_times P R step v (All-tail P q v h))

  magnitude_times : (q : Rational) → abs_ℚ (t *ℚ q) ≡ t *ℚ abs_ℚ q
  magnitude_times q = abs_ℚ-*ℚ t q ∙ ap (λ s. s *ℚ abs_ℚ q) (abs_ℚ_nonneg t a)

  norm_times : (v : List Rational) → norm (times t v) ≡ t *ℚ norm v
  norm_times [] = sym (*ℚ-zero t)
  norm_times (q ∷ v) = ap₂ ◌+ℚ◌ (magnitude_times q) (norm_times v)
      ∙ sym (*ℚ-+ℚ t (abs_ℚ q) (norm v))

  dominates_each_times : (v : List Rational) → DominatesEach v → DominatesEach (times t v)
  dominates_each_times [] h = All-nil (λ q. abs_ℚ q ≤ℚ zero_ℚ)
  dominates_each_times (p ∷ v) h =
      all_times (λ q. abs_ℚ q ≤ℚ p) (λ q. abs_ℚ q ≤ℚ (t *ℚ p))
      (λ q k. subst (λ s. s ≤ℚ (t *ℚ p)) (sym (magnitude_times q))
      (≤ℚ-*ℚ_left (abs_ℚ q) p t k a)) v h

  dominates_sum_times : (v : List Rational) → DominatesSum v → DominatesSum (times t v)
  dominates_sum_times [] h = ≤ℚ_refl zero_ℚ
  dominates_sum_times (p ∷ v) h =
      norm_dominated (t
      *ℚ p) (times t v) (subst (λ s. s ≤ℚ (t *ℚ p)) (sym (norm_times v))
      (≤ℚ-*ℚ_left (norm v) p t (dominates_norm p v h) a))

  first_times : (v : List Rational) → first_of (times t v) ≡ t *ℚ first_of v
  first_times [] = sym (*ℚ-zero t)
  first_times (q ∷ v) = refl

  below_times : (x : Rational) (v : List Rational) → first_of v ≤ℚ x
      → first_of (times t v) ≤ℚ (t *ℚ x)
  below_times x v h =
      subst (λ y. y ≤ℚ (t *ℚ x)) (sym (first_times v)) (≤ℚ-*ℚ_left (first_of v) x t h a)

  above_times : (x : Rational) (v : List Rational) → x ≤ℚ first_of v
      → (t *ℚ x) ≤ℚ first_of (times t v)
  above_times x v h =
      subst (λ y. (t *ℚ x) ≤ℚ y) (sym (first_times v)) (≤ℚ-*ℚ_left x (first_of v) t h a)

  pub multiplied_times : (set : Set) (v : List Rational) → In set v
      → In (multiplied t set) (times t v)
  multiplied_times (LessThan x) v h = below_times x v h
  multiplied_times (GreaterThan x) v h = above_times x v h
  multiplied_times (EqualTo x) v h = first_times v ∙ ap (λ y. t *ℚ y) h
  multiplied_times (Interval x y) v h = (above_times x v h.0, below_times y v h.1)
  multiplied_times (Reals n) v h = tt
  multiplied_times (Zeros n) v h =
      all_times (λ q. q ≡ zero_ℚ) (λ q. q ≡ zero_ℚ) (λ q h. ap (λ s. t *ℚ s) h ∙ *ℚ-zero t) v h
  multiplied_times (Nonnegatives n) v h =
      all_times (λ q. zero_ℚ ≤ℚ q) (λ q. zero_ℚ ≤ℚ q) (λ q h. nonneg_mul t q a h) v h
  multiplied_times (Nonpositives n) v h =
      all_times (λ q. q ≤ℚ zero_ℚ) (λ q. q ≤ℚ zero_ℚ) (λ q h. nonpos_mul t q a h) v h
  multiplied_times (NormInfinityCone n) v h = dominates_each_times v h
  multiplied_times (NormOneCone n) v h = dominates_sum_times v h

  -- a multiple of a recession vector is one
  pub recession_times : (set : Set) (r : List Rational) → In (recession set) r
      → In (recession set) (times t r)
  recession_times set r h = subst (λ s. In s (times t r)) (multiplied-recession t set)
      (multiplied_times (recession set) r h)

-- ---- what leads nowhere out of a set

-- a recession vector keeps each vector of the set in it
pub recession_keeps : (set : Set) (v r : List Rational) → length v ≡ length r → In set v
    → In (recession set) r → In set (plus v r)
recession_keeps set v r e h k =
    subst (λ s. In s (plus v r)) (ap (λ t. multiplied t set) (+ℚ-zero one_ℚ) ∙ multiplied_one set)
    (multiplied_plus one_ℚ zero_ℚ v r e set (subst (λ s. In s v) (sym (multiplied_one set)) h)
    (subst (λ s. In s r) (sym (multiplied_zero set)) k))

-- and so does each of its multiples by a number of at least 0
pub recession_stays : (t : Rational) → zero_ℚ ≤ℚ t → (set : Set) (v r : List Rational)
    → length v ≡ length r → In set v → In (recession set) r → In set (plus v (times t r))
recession_stays t a set v r e h k =
    recession_keeps set v (times t r) (e ∙ sym (length-times t r)) h (recession_times t a set r k)
