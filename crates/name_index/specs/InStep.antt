-- How a table's names and its numbers lie beside each other.
use Rattle.std.specs.Prelude.{◌≡◌, ℕ, nat_eq, List}
use Rattle.std.specs.List.{IsDistinct}
use Rattle.std.specs.Map.{keys_of, values_of}
use Rattle.std.specs.Str.{bytes_eq}

-- no name stands twice, no number stands twice, and the numbers stand at the indices of their names
pub record InStep (entries : List (List ℕ × ℕ)) (numbers : List ℕ) : Type 0 where
  pub names_distinct : IsDistinct bytes_eq (keys_of entries)
  pub numbers_distinct : IsDistinct nat_eq numbers
  pub in_step : values_of entries ≡ numbers
