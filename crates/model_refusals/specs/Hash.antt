-- A number below 2^64 that equal names share. Private clauses alone cite it.
use Rattle.std.specs.Prelude.{◌≡◌, ℕ, ◌+◌, ◌*◌, ◌%◌, ◌^◌, Bool, true, false, List, Some, fold, slice_get, take}
use Rattle.std.specs.List.{list_any}
use Rattle.std.specs.Str.{bytes_eq}

abbrev pub hash_of : List ℕ → ℕ
hash_of bytes = fold (λ hash byte. (hash + byte) % 2 ^ 64 * 11400714819323198485 % 2 ^ 64) 0 bytes

-- the name is one of those before the place
abbrev pub is_seen : List (List ℕ) → ℕ → List ℕ → Bool
is_seen names place name = list_any (bytes_eq name) (take place names)

-- no name whose hash passes stands before
abbrev pub AreNew : List (List ℕ) → (ℕ → Bool) → Type 0
AreNew names of_part = (place : ℕ) (name : List ℕ) → slice_get names place ≡ Some name
    → of_part (hash_of name) ≡ true → is_seen names place name ≡ false
