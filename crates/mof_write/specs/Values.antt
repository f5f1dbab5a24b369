-- Numbers and sets as JSON values.
use Rattle.std.specs.Prelude.{ℕ, ◌^◌, ◌&&◌, ◌==◌, nat_lt, unsigned_abs, Bool, List, [], ◌∷◌, map, codes, if◌then◌else◌}
use Prim.Native.String.{String}
use Rattle.ratio_core.specs.Rational.{Rational}
use Rattle.ratio_core.specs.Text.{text_of}
use Rattle.set_core.specs.declared.set.Set.{Set}
use Rattle.set_core.specs.declared.set.Set.TheVariants.{LessThan, GreaterThan, EqualTo, Interval, Reals, Zeros, Nonnegatives, Nonpositives, NormInfinityCone, NormOneCone}
use Rattle.serde_json.specs.Data.{Data, Members, array, member, no_members, number, object, string, unsigned}
use Rattle.serde_json.specs.Find.{of_integer}
use Rattle.serde_json.specs.View.{items_of}

-- ---- objects, texts, arrays

-- the members of an object, in the order of their keys
abbrev pub members_of : List (String × Data) → Members
members_of [] = no_members
members_of (m ∷ ms) = member (codes m.0) m.1 (members_of ms)

abbrev pub object_of : List (String × Data) → Data
object_of ms = object (members_of ms)

abbrev pub word : String → Data
word text = string (codes text)

abbrev pub list_of : List Data → Data
list_of ds = array (items_of ds)

-- what f writes for each item
abbrev pub array_of : {X : Type 0} → (X → Data) → List X → Data
array_of f xs = list_of (map f xs)

-- ---- numbers

-- a whole number of at most 18 digits is a numeral, another number its text
abbrev pub is_short : Rational → Bool
is_short q = q.den == 1 && nat_lt (unsigned_abs q.num) (10 ^ 18)

unfoldable pub number_data : Rational → Data
number_data q = if is_short q then number (of_integer q.num) else string (text_of q)

abbrev pub count_data : ℕ → Data
count_data n = number (unsigned n)

-- ---- sets

abbrev pub sized_data : List ℕ → ℕ → Data
sized_data type n = object_of (("dimension", count_data n) ∷ ("type", string type) ∷ [])

unfoldable pub set_data : Set → Data
set_data (LessThan u) = object_of (("type", word "LessThan") ∷ ("upper", number_data u) ∷ [])
set_data (GreaterThan l) = object_of (("lower", number_data l) ∷ ("type", word "GreaterThan") ∷ [])
set_data (EqualTo a) = object_of (("type", word "EqualTo") ∷ ("value", number_data a) ∷ [])
set_data (Interval l u) =
    object_of (("lower", number_data l) ∷ ("type", word "Interval") ∷ ("upper", number_data u) ∷ [])
set_data (Reals n) = sized_data (codes "Reals") n
set_data (Zeros n) = sized_data (codes "Zeros") n
set_data (Nonnegatives n) = sized_data (codes "Nonnegatives") n
set_data (Nonpositives n) = sized_data (codes "Nonpositives") n
set_data (NormInfinityCone n) = sized_data (codes "NormInfinityCone") n
set_data (NormOneCone n) = sized_data (codes "NormOneCone") n
