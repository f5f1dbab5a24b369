-- What images make of sets has small numbers where the set has.
use Rattle.std.specs.Prelude.{◌^◌, List, [], ◌∷◌}
use Rattle.std.proofs.Common.{arith}
use Rattle.std.proofs.lemmas.List.Elements.{All-cons, All-head, All-nil, All-tail}
use Rattle.ratio_core.specs.Rational.{Rational, neg_ℚ, zero_ℚ}
use Rattle.aff_core.specs.declared.sense.Sense.{Sense}
use Rattle.aff_core.specs.declared.sense.Sense.TheVariants.{Min, Max}
use Rattle.bridge_face.specs.ImageOf.{beyond}
use Rattle.bridge_face.specs.Images.{component_of, cone_of, lower_part, number_in, upper_part}
use Rattle.set_core.specs.Mirrored.{mirrored}
use Rattle.set_core.specs.declared.set.Set.{Set}
use Rattle.set_core.specs.declared.set.Set.TheVariants.{LessThan, GreaterThan, EqualTo, Interval, Zeros, Nonnegatives, Nonpositives}
use Rattle.small_number_laws.specs.SmallNumbers.{set_numbers}
use Rattle.small_number_laws.specs.Whole.{AreSmall, IsWholeWithin}
use Rattle.small_number_laws.specs.WholeLaws.{whole_more, whole_neg, whole_zero}

abbrev IsSmall : Rational → Type 0
IsSmall q = IsWholeWithin (2 ^ 40) q

abbrev HasSmall : Set → Type 0
HasSmall set = AreSmall (set_numbers set)

pub none_small : AreSmall []
none_small = All-nil IsSmall

one_small : (q : Rational) → IsSmall q → AreSmall (q ∷ [])
one_small q h = All-cons IsSmall q [] h none_small

zero_small : IsSmall zero_ℚ
zero_small = whole_more 0 (2 ^ 40) zero_ℚ (omega arith) whole_zero

first_small : (q : Rational) (qs : List Rational) → AreSmall (q ∷ qs) → IsSmall q
first_small q qs h = All-head IsSmall q qs h

neg_small : (q : Rational) → IsSmall q → IsSmall (neg_ℚ q)
neg_small q h = whole_neg (2 ^ 40) q h

pub equal_to_zero : HasSmall (EqualTo zero_ℚ)
equal_to_zero = one_small zero_ℚ zero_small

pub beyond_small : (sense : Sense) → HasSmall (beyond sense)
beyond_small Min = one_small zero_ℚ zero_small
beyond_small Max = one_small zero_ℚ zero_small

pub number_small : (set : Set) → HasSmall set → IsSmall (number_in set)
number_small (LessThan u) h = first_small u [] h
number_small (GreaterThan l) h = first_small l [] h
number_small (EqualTo a) h = first_small a [] h
number_small _ h = zero_small

pub mirrored_small : (set : Set) → HasSmall set → HasSmall (mirrored set)
mirrored_small (LessThan u) h = one_small (neg_ℚ u) (neg_small u (first_small u [] h))
mirrored_small (GreaterThan l) h = one_small (neg_ℚ l) (neg_small l (first_small l [] h))
mirrored_small (EqualTo a) h = one_small (neg_ℚ a) (neg_small a (first_small a [] h))
mirrored_small (Interval l u) h =
    All-cons IsSmall (neg_ℚ u) (neg_ℚ l ∷ [])
    (neg_small u (first_small u [] (All-tail IsSmall l (u ∷ []) h)))
    (one_small (neg_ℚ l) (neg_small l (first_small l (u ∷ []) h)))
mirrored_small _ h = none_small

pub cone_small : (set : Set) → HasSmall set → HasSmall (cone_of set)
cone_small (LessThan u) h = none_small
cone_small (GreaterThan l) h = none_small
cone_small (EqualTo a) h = none_small
cone_small _ h = h

pub component_small : (set : Set) → HasSmall set → HasSmall (component_of set)
component_small (Zeros n) h = one_small zero_ℚ zero_small
component_small (Nonnegatives n) h = one_small zero_ℚ zero_small
component_small (Nonpositives n) h = one_small zero_ℚ zero_small
component_small _ h = h

pub lower_small : (set : Set) → HasSmall set → HasSmall (lower_part set)
lower_small (Interval l u) h = one_small l (first_small l (u ∷ []) h)
lower_small (EqualTo a) h = h
lower_small (Zeros n) h = none_small
lower_small _ h = h

pub upper_small : (set : Set) → HasSmall set → HasSmall (upper_part set)
upper_small (Interval l u) h = All-tail IsSmall l (u ∷ []) h
upper_small (EqualTo a) h = h
upper_small (Zeros n) h = none_small
upper_small _ h = h
