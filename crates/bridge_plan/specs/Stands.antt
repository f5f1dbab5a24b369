-- Entries in the order of their components, and the functions of the variables that they are of.
--     AreByComponent       entries in order; AreFunctions, the functions of some of their variables
--     AreNamed             a variable stands for each variable of a function; named, these in place
use Rattle.std.specs.Prelude.{◌≡◌, All, List, Some, map, slice_get}
use Rattle.std.specs.FinMap as finite
use Rattle.std.specs.FinMap.{FinMap}
use Rattle.std.specs.List.Sorted.{IsSortedByKey}
use Rattle.std.specs.Option.{option_map_or}
use Rattle.ratio_core.specs.Rational.{Fits, Rational}
use Rattle.aff_core.specs.Address.{Address, address_cmp}
use Rattle.aff_core.specs.Function.{Function, terms_of, variable}
use Rattle.fresh_bridging.specs.Entries.{Entry, function_in}

-- in the order of their components
abbrev pub AreByComponent : List Entry → Type 0
AreByComponent = IsSortedByKey (λ e. e.component) address_cmp

-- the functions that stand for some variables
abbrev pub AreFunctions : List Entry → FinMap address_cmp Function → Type 0
AreFunctions entries functions =
    (var : Address) (f : Function)
    → finite.get functions var ≡ Some f → f ≡ function_in entries var

-- ---- variables that stand for variables

-- the first variable of what stands for a variable
abbrev pub name_by : (Address → Function) → Address → Address
name_by e v = option_map_or (λ t. t.0) (slice_get (terms_of (e v)) 0) v

-- terms with other variables in the place of theirs
abbrev pub named : (Address → Address) → List (Address × Rational) → List (Address × Rational)
named k ts = map (λ t. (k t.0, t.1)) ts

-- a variable stands for that of a term, whose coefficient fits
pub record IsNamed (e : Address → Function) (k : Address → Address)
    (t : Address × Rational) : Type 0 where
  pub name : e t.0 ≡ variable (k t.0)
  pub fits : Fits t.1

-- a variable stands for each that the function mentions, and each of its numbers fits
pub record AreNamed (e : Address → Function) (k : Address → Address) (f : Function) : Type 0 where
  pub constant : Fits f.constant
  pub terms : All (IsNamed e k) (terms_of f)
