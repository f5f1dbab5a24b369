-- What the negation of vectors does to a set that isn't a norm cone: it leads to the mirrored set,
-- with the duals and the least products of its negated duals. So f in a set is -f in its mirrored
-- set, and a dual of that, negated, is one of this.
use Rattle.std.specs.Prelude.{◌≡◌, ◌↔◌, ℕ, true, false, Bool, List, [], ◌∷◌, cond, All, refl}
use Rattle.std.specs.Bool.{Decides}
use Rattle.std.specs.Ordering.{is_le}
use Rattle.std.proofs.Common.{sym, ◌∙◌, ap, ap₂, subst, true≢false}
use Rattle.std.proofs.lemmas.List.Elements.{All-cons, All-head, All-nil, All-tail}
use Rattle.ratio_core.specs.Rational.{Rational, neg_ℚ, rational_cmp, zero_ℚ, ◌*ℚ◌, ◌≤ℚ◌}
use Rattle.rational_laws.specs.Dot.{negated}
use Rattle.rational_laws.specs.Field.{*ℚ-neg_ℚ, *ℚ-zero, neg_ℚ-*ℚ, neg_ℚ-neg_ℚ, neg_ℚ-zero}
use Rattle.rational_laws.specs.Order.{neg_ℚ-≤ℚ, nonneg_neg, nonpos_neg, ≤ℚ_antisymm, ≤ℚ_from_‹ℚ, ‹ℚ_from_not_≤ℚ}
use Rattle.rational_laws.specs.Tests.{is_le_Decides}
use Rattle.set_core.specs.declared.set.Set.{Set}
use Rattle.set_core.specs.declared.set.Set.TheVariants.{LessThan, GreaterThan, EqualTo, Interval, Reals, Zeros, Nonnegatives, Nonpositives, NormInfinityCone, NormOneCone}
use Rattle.set_core.specs.Membership.{Dual, In, dual_of, low_of, recession}
use Rattle.set_core.specs.Mirrored.{mirrored, multiplied}
use Rattle.set_core.specs.ShapeLaws.{in_order, not_crossed}
use Rattle.set_core.specs.Shapes.{IsSetOf, is_norm_cone}
use Rattle.set_core.specs.Vectors.{first_of}

-- ---- numbers and lists

pub negated-negated : (v : List Rational) → negated (negated v) ≡ v
negated-negated [] = refl
negated-negated (q ∷ v) = ap₂ ◌∷◌ (neg_ℚ-neg_ℚ q) (negated-negated v)

first_negated : (v : List Rational) → first_of (negated v) ≡ neg_ℚ (first_of v)
first_negated [] = sym neg_ℚ-zero
first_negated (q ∷ v) = refl

all_negated : (P R : Rational → Type 0) → ((q : Rational) → P q → R (neg_ℚ q)) → (v : List Rational)
    → All P v → All R (negated v)
all_negated P R step [] h = All-nil R
all_negated P R step (q ∷ v) h = All-cons R (neg_ℚ q) (negated v) (step q (All-head P q v h))
    (all_negated P R step v (All-tail P q v h))

-- ---- mirrored sets

pub mirrored-mirrored : (set : Set) → mirrored (mirrored set) ≡ set
mirrored-mirrored (LessThan u) = ap LessThan (neg_ℚ-neg_ℚ u)
mirrored-mirrored (GreaterThan l) = ap GreaterThan (neg_ℚ-neg_ℚ l)
mirrored-mirrored (EqualTo a) = ap EqualTo (neg_ℚ-neg_ℚ a)
mirrored-mirrored (Interval l u) = ap₂ Interval (neg_ℚ-neg_ℚ l) (neg_ℚ-neg_ℚ u)
mirrored-mirrored _ = refl

-- the multiplied, the recession and the dual set of the mirrored set are the mirrored ones of these
pub mirrored-multiplied : (t : Rational) (set : Set)
    → mirrored (multiplied t set) ≡ multiplied t (mirrored set)
mirrored-multiplied t (LessThan u) = ap GreaterThan (sym (*ℚ-neg_ℚ t u))
mirrored-multiplied t (GreaterThan l) = ap LessThan (sym (*ℚ-neg_ℚ t l))
mirrored-multiplied t (EqualTo a) = ap EqualTo (sym (*ℚ-neg_ℚ t a))
mirrored-multiplied t (Interval l u) = ap₂ Interval (sym (*ℚ-neg_ℚ t u)) (sym (*ℚ-neg_ℚ t l))
mirrored-multiplied t _ = refl

pub mirrored-recession : (set : Set) → mirrored (recession set) ≡ recession (mirrored set)
mirrored-recession (LessThan u) = ap GreaterThan neg_ℚ-zero
mirrored-recession (GreaterThan l) = ap LessThan neg_ℚ-zero
mirrored-recession (EqualTo a) = ap EqualTo neg_ℚ-zero
mirrored-recession (Interval l u) = ap₂ Interval neg_ℚ-zero neg_ℚ-zero
mirrored-recession _ = refl

pub mirrored-dual_of : (set : Set) → mirrored (dual_of set) ≡ dual_of (mirrored set)
mirrored-dual_of (LessThan u) = ap GreaterThan neg_ℚ-zero
mirrored-dual_of (GreaterThan l) = ap LessThan neg_ℚ-zero
mirrored-dual_of _ = refl

norm_cone_kept : (set : Set) → is_norm_cone set ≡ false
    → (is_norm_cone (mirrored set) ≡ false) × (is_norm_cone (recession set) ≡ false)
    × (is_norm_cone (dual_of set) ≡ false)
norm_cone_kept (NormInfinityCone n) c = absurd (true≢false c)
norm_cone_kept (NormOneCone n) c = absurd (true≢false c)
norm_cone_kept _ c = (refl, refl, refl)

pub mirrored_set : (n : ℕ) (set : Set) → IsSetOf n set → IsSetOf n (mirrored set)
mirrored_set n (LessThan u) s =
    record { dimension = s.dimension; enough = s.enough; uncrossed = refl }
mirrored_set n (GreaterThan l) s =
    record { dimension = s.dimension; enough = s.enough; uncrossed = refl }
mirrored_set n (EqualTo a) s =
    record { dimension = s.dimension; enough = s.enough; uncrossed = refl }
mirrored_set n (Interval l u) s =
    record {
      dimension = s.dimension;
      enough = s.enough;
      uncrossed = not_crossed (neg_ℚ u) (neg_ℚ l) (neg_ℚ-≤ℚ l u (in_order l u s.uncrossed));
    }
mirrored_set n (Reals m) s = s
mirrored_set n (Zeros m) s = s
mirrored_set n (Nonnegatives m) s =
    record { dimension = s.dimension; enough = s.enough; uncrossed = refl }
mirrored_set n (Nonpositives m) s =
    record { dimension = s.dimension; enough = s.enough; uncrossed = refl }
mirrored_set n _ s = s

-- ---- vectors

below_negated : (x : Rational) (v : List Rational) → first_of v ≤ℚ x
    → neg_ℚ x ≤ℚ first_of (negated v)
below_negated x v h = subst (λ y. neg_ℚ x ≤ℚ y) (sym (first_negated v)) (neg_ℚ-≤ℚ (first_of v) x h)

above_negated : (x : Rational) (v : List Rational) → x ≤ℚ first_of v
    → first_of (negated v) ≤ℚ neg_ℚ x
above_negated x v h = subst (λ y. y ≤ℚ neg_ℚ x) (sym (first_negated v)) (neg_ℚ-≤ℚ x (first_of v) h)

mirror_in : (set : Set) (v : List Rational) → is_norm_cone set ≡ false → In set v
    → In (mirrored set) (negated v)
mirror_in (LessThan x) v c h = below_negated x v h
mirror_in (GreaterThan x) v c h = above_negated x v h
mirror_in (EqualTo x) v c h = first_negated v ∙ ap neg_ℚ h
mirror_in (Interval x y) v c h = (below_negated y v h.1, above_negated x v h.0)
mirror_in (Reals n) v c h = tt
mirror_in (Zeros n) v c h =
    all_negated (λ q. q ≡ zero_ℚ) (λ q. q ≡ zero_ℚ) (λ q k. ap neg_ℚ k ∙ neg_ℚ-zero) v h
mirror_in (Nonnegatives n) v c h = all_negated (λ q. zero_ℚ ≤ℚ q) (λ q. q ≤ℚ zero_ℚ) nonpos_neg v h
mirror_in (Nonpositives n) v c h = all_negated (λ q. q ≤ℚ zero_ℚ) (λ q. zero_ℚ ≤ℚ q) nonneg_neg v h
mirror_in (NormInfinityCone n) v c h = absurd (true≢false c)
mirror_in (NormOneCone n) v c h = absurd (true≢false c)

mirror_both : (set : Set) (v : List Rational) → is_norm_cone set ≡ false → In set v
    ↔ In (mirrored set) (negated v)
mirror_both set v c = (
  mirror_in set v c,
  λ h. subst (λ s. In s v) (mirrored-mirrored set)
      (subst (In (mirrored (mirrored set))) (negated-negated v)
      (mirror_in (mirrored set) (negated v) (norm_cone_kept set c).0 h)),
)

-- ---- least products

-- the product with a number, where p is a number and q its negation
module _ (p q : Rational) (e : q ≡ neg_ℚ p) where
  times_negated : (x : Rational) → x *ℚ p ≡ neg_ℚ x *ℚ q
  times_negated x =
      sym (ap (λ y. neg_ℚ x *ℚ y) e ∙ *ℚ-neg_ℚ (neg_ℚ x) p ∙ ap neg_ℚ (neg_ℚ-*ℚ x p)
      ∙ neg_ℚ-neg_ℚ (x *ℚ p))

  nowhere : zero_ℚ ≤ℚ p → zero_ℚ ≤ℚ q → p ≡ zero_ℚ
  nowhere h k = ≤ℚ_antisymm p zero_ℚ (subst (λ x. x ≤ℚ zero_ℚ) (ap neg_ℚ e ∙ neg_ℚ-neg_ℚ p)
      (nonpos_neg q k)) h

  at_zero : (x y : Rational) → p ≡ zero_ℚ → x *ℚ p ≡ y *ℚ q
  at_zero x y z = ap (λ r. x *ℚ r) z ∙ *ℚ-zero x
      ∙ sym (ap (λ r. y *ℚ r) (e ∙ ap neg_ℚ z ∙ neg_ℚ-zero) ∙ *ℚ-zero y)

  below_nowhere : ¬ (zero_ℚ ≤ℚ p) → ¬ (zero_ℚ ≤ℚ q) → ⊥
  below_nowhere h k = k (subst (λ x. zero_ℚ ≤ℚ x) (sym e)
      (nonneg_neg p (≤ℚ_from_‹ℚ p zero_ℚ (‹ℚ_from_not_≤ℚ p zero_ℚ h))))

  ends : (l u : Rational) (b c : Bool) → Decides b (zero_ℚ ≤ℚ p) → Decides c (zero_ℚ ≤ℚ q)
      → cond b l u *ℚ p ≡ cond c (neg_ℚ u) (neg_ℚ l) *ℚ q
  ends l u true true h k = at_zero l (neg_ℚ u) (nowhere (h.0 refl) (k.0 refl))
  ends l u true false h k = times_negated l
  ends l u false true h k = times_negated u
  ends l u false false h k =
      absurd (below_nowhere (λ n. true≢false (sym (h.1 n))) (λ n. true≢false (sym (k.1 n))))

mirror_low : (set : Set) (w : List Rational) → low_of set w ≡ low_of (mirrored set) (negated w)
mirror_low (LessThan x) w = times_negated (first_of w) (first_of (negated w)) (first_negated w) x
mirror_low (GreaterThan x) w = times_negated (first_of w) (first_of (negated w)) (first_negated w) x
mirror_low (EqualTo x) w = times_negated (first_of w) (first_of (negated w)) (first_negated w) x
mirror_low (Interval l u) w = ends (first_of w) (first_of (negated w)) (first_negated w) l u
    (is_le (rational_cmp zero_ℚ (first_of w))) (is_le (rational_cmp zero_ℚ (first_of (negated w))))
    (is_le_Decides zero_ℚ (first_of w)) (is_le_Decides zero_ℚ (first_of (negated w)))
mirror_low _ w = refl

-- ---- what a flip needs

-- the vectors, the rays, the duals and the least products of a set and of another are those of the
-- negated lists
pub record AreMirrors (s t : Set) : Type 0 where
  pub values : (v : List Rational) → In s v ↔ In t (negated v)
  pub rays : (r : List Rational) → In (recession s) r ↔ In (recession t) (negated r)
  pub duals : (w : List Rational) → Dual s w ↔ Dual t (negated w)
  pub lows : (w : List Rational) → low_of s w ≡ low_of t (negated w)

pub mirrors : (set : Set) → is_norm_cone set ≡ false → AreMirrors set (mirrored set)
mirrors set c = record {
  values = λ v. mirror_both set v c;
  rays = λ r. subst (λ s. In (recession set) r ↔ In s (negated r)) (mirrored-recession set)
      (mirror_both (recession set) r (norm_cone_kept set c).1);
  duals = λ w. subst (λ s. Dual set w ↔ In s (negated w)) (mirrored-dual_of set)
      (mirror_both (dual_of set) w (norm_cone_kept set c).2);
  lows = mirror_low set;
}
