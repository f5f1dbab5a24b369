-- A list that grows by what is read.
use Rattle.std.specs.Prelude.{◌≡◌, ℕ, List, ◌++◌, length, Option}
use Rattle.io_face.specs.Source.{Takes}

-- n bytes were taken, and stand at the end
pub record Grows (left left' : Option (List ℕ)) (old new : List ℕ) (n : ℕ) : Type 0 where
  pub text : List ℕ
  pub takes : Takes left left' text
  pub grown : new ≡ old ++ text
  pub count : length text ≡ n
