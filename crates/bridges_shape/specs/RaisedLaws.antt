-- A function in a set of numbers with one bound, and the function less the bound in a cone.
use Rattle.std.specs.Prelude.{◌≡◌, false, List, [], ◌∷◌, refl}
use Rattle.std.proofs.Common.{arith, ap, ◌∙◌}
use Rattle.std.proofs.lemmas.Int.{ints}
use Rattle.std.proofs.lemmas.List.Elements.{All-head}
use Rattle.ratio_core.specs.Rational.{Rational, neg_ℚ, zero_ℚ, ◌*ℚ◌, ◌+ℚ◌, ◌-ℚ◌, ◌≤ℚ◌}
use Rattle.rational_laws.specs.Field.{zero-+ℚ}
use Rattle.rational_laws.specs.Linear.{as_scaled, linear₂, scaled_zero, scales}
use Rattle.rational_laws.specs.Ring.{as_expression, by_ring, ring₂, ring₄}
use Rattle.aff_core.specs.Address.{Address}
use Rattle.aff_core.specs.Function.{Function, evaluated, slope}
use Rattle.set_core.specs.Membership.{Dual, In, low_of}
use Rattle.set_core.specs.Mirrored.{multiplied}
use Rattle.set_core.specs.Shapes.{IsSetOf, is_scalar}
use Rattle.set_core.specs.declared.set.Set.{Set}
use Rattle.set_core.specs.declared.set.Set.TheVariants.{LessThan, GreaterThan, EqualTo, Zeros, Nonnegatives, Nonpositives}
use Rattle.bridge_face.specs.Images.{raised}

-- a set with one number, and the cone that has the differences from it
pub data HasDifferenceCone : Set → Rational → Set → Type 0 where
  at_most : {a : Rational} → HasDifferenceCone (LessThan a) a (Nonpositives 1)
  at_least : {a : Rational} → HasDifferenceCone (GreaterThan a) a (Nonnegatives 1)
  equal : {a : Rational} → HasDifferenceCone (EqualTo a) a (Zeros 1)

-- ---- numbers

below_by : (p q : Rational) → (p -ℚ q) ≤ℚ zero_ℚ → p ≤ℚ q
below_by = linear₂ _ (λ a b e h. omega (arith, ints, scales, simp (as_scaled, scaled_zero e) at h))

above_by : (p q : Rational) → zero_ℚ ≤ℚ (p -ℚ q) → q ≤ℚ p
above_by = linear₂ _ (λ a b e h. omega (arith, ints, scales, simp (as_scaled, scaled_zero e) at h))

restored : (p q : Rational) → p ≡ (p -ℚ q) +ℚ q
restored = ring₂ _ (λ ρ. simp as_expression (by_ring ρ _ _ refl))

equal_by : (p q : Rational) → (p -ℚ q) ≡ zero_ℚ → p ≡ q
equal_by p q h = restored p q ∙ ap (λ r. r +ℚ q) h ∙ zero-+ℚ q

lowered : (one c a s : Rational) → one *ℚ (c +ℚ neg_ℚ a) +ℚ s ≡ (one *ℚ c +ℚ s) -ℚ one *ℚ a
lowered = ring₄ _ (λ ρ. simp as_expression (by_ring ρ _ _ refl))

-- ---- membership

-- where the difference is in the cone the number is in the set
pub in_set : {S C : Set} {a : Rational} → HasDifferenceCone S a C → (one p : Rational)
    → In (multiplied one C) ((p -ℚ one *ℚ a) ∷ []) → In (multiplied one S) (p ∷ [])
in_set (at_most {a}) one p h =
    below_by p (one *ℚ a) (All-head (λ q. q ≤ℚ zero_ℚ) (p -ℚ one *ℚ a) [] h)
in_set (at_least {a}) one p h =
    above_by p (one *ℚ a) (All-head (λ q. zero_ℚ ≤ℚ q) (p -ℚ one *ℚ a) [] h)
in_set (equal {a}) one p h = equal_by p (one *ℚ a) (All-head (λ q. q ≡ zero_ℚ) (p -ℚ one *ℚ a) [] h)

pub in_dual : {S C : Set} {a : Rational} → HasDifferenceCone S a C → (q : Rational)
    → Dual C (q ∷ [])
    → Dual S (q ∷ [])
in_dual at_most q h = All-head (λ r. r ≤ℚ zero_ℚ) q [] h
in_dual at_least q h = All-head (λ r. zero_ℚ ≤ℚ r) q [] h
in_dual equal q h = tt

pub low_cone : {S C : Set} {a : Rational} → HasDifferenceCone S a C → (w : List Rational)
    → low_of C w ≡ zero_ℚ
low_cone at_most w = refl
low_cone at_least w = refl
low_cone equal w = refl

pub low_first : {S C : Set} {a : Rational} → HasDifferenceCone S a C
    → (q : Rational) (w : List Rational)
    → low_of S (q ∷ w) ≡ a *ℚ q
low_first at_most q w = refl
low_first at_least q w = refl
low_first equal q w = refl

pub low_none : {S C : Set} {a : Rational} → HasDifferenceCone S a C → low_of S [] ≡ a *ℚ zero_ℚ
low_none at_most = refl
low_none at_least = refl
low_none equal = refl

pub cone_of_one : {S C : Set} {a : Rational} → HasDifferenceCone S a C → IsSetOf 1 C
cone_of_one at_most = record { dimension = refl; enough = omega arith; uncrossed = refl }
cone_of_one at_least = record { dimension = refl; enough = omega arith; uncrossed = refl }
cone_of_one equal = record { dimension = refl; enough = omega arith; uncrossed = refl }

pub set_of_one : {S C : Set} {a : Rational} → HasDifferenceCone S a C → IsSetOf 1 S
set_of_one at_most = record { dimension = refl; enough = omega arith; uncrossed = refl }
set_of_one at_least = record { dimension = refl; enough = omega arith; uncrossed = refl }
set_of_one equal = record { dimension = refl; enough = omega arith; uncrossed = refl }

pub cone_of_vectors : {S C : Set} {a : Rational} → HasDifferenceCone S a C → is_scalar C ≡ false
cone_of_vectors at_most = refl
cone_of_vectors at_least = refl
cone_of_vectors equal = refl

-- ---- the function less the number

pub evaluated-lowered : (one : Rational) (f : Function) (a : Rational) (x : Address → Rational)
    → evaluated one (raised f (neg_ℚ a)) x ≡ evaluated one f x -ℚ one *ℚ a
evaluated-lowered one f a x = lowered one f.constant a (slope f x)
