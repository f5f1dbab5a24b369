-- What contracts see of a table of names and numbers.
use Rattle.std.specs.Prelude.{◌≡◌, ◌≢◌, ◌↔◌, ℕ, List, Some, Option, refl}
use Rattle.std.specs.Coded.{Coded, code_by, coded×, coded_ℕ, coded_list}
use Rattle.std.specs.Cmp.Lexicographic.{slice_cmp}
use Rattle.std.specs.FinMap as map
use Rattle.std.specs.FinMap.{FinMap}
use Rattle.std.specs.Ordering.{nat_cmp}

-- from the bytes of a name to its number
abbrev pub NumbersByName : Type 0
NumbersByName = FinMap (slice_cmp nat_cmp) ℕ

-- the numbers of the names, and how many names more can be added without memory
pub record Numbering : Type 0 where
  pub numbers : NumbersByName
  pub spare : ℕ

-- a numbering is stored as the pair of its fields
abbrev pub numbering_code : Coded Numbering
numbering_code =
    code_by (NumbersByName × ℕ) (coded× (map.code (coded_list coded_ℕ) coded_ℕ) coded_ℕ)
    (λ t. (t.numbers, t.spare)) (λ p. record { numbers = p.0; spare = p.1 }) (λ _. refl)

-- no name has the number
abbrev pub IsNumberFree : NumbersByName → ℕ → Type 0
IsNumberFree numbers id = (name : List ℕ) → map.get numbers name ≢ Some id

-- no two names have one number
abbrev pub IsOneToOne : NumbersByName → Type 0
IsOneToOne numbers =
    (one other : List ℕ) (id : ℕ) → map.get numbers one ≡ Some id → map.get numbers other ≡ Some id
    → one ≡ other

-- the answer is a name exactly where the name has the number: what looking up a number gives, the
-- other way round
abbrev pub IsNameAt : NumbersByName → ℕ → Option (List ℕ) → Type 0
IsNameAt numbers id answer =
    (name : List ℕ) → (answer ≡ Some name) ↔ (map.get numbers name ≡ Some id)
