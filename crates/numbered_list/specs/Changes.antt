-- Changes of what stands at some numbers of a list, and what takes them back.
use Rattle.std.specs.Prelude.{ℕ, Option, List, [], ◌∷◌, map, All, ◌&&◌, is_some, count_by}
use Rattle.std.specs.Option.{is_none}
use Rattle.numbered_list.specs.declared.change.Change.{Change}
use Rattle.numbered_list.specs.Numbered.{Rise, IsAt, find, set_at}

-- a number with what is to stand there
abbrev pub change_to : {X : Type 0} → ℕ → Option X → Change X
change_to n new = record { number = n; content = new }

-- the number whose content changes
abbrev pub changed_number : {X : Type 0} → Change X → ℕ
changed_number change = change.number

module _ {X : Type 0} (number_of : X → ℕ) where
  -- changes in the order of their numbers, each content with the number at which it is to stand
  pub record AreChanges (changes : List (Change X)) : Type 0 where
    pub rising : Rise changed_number changes
    pub own : All (λ change. IsAt number_of change.number change.content) changes

  -- the list after the changes, one after the other
  abbrev pub set_all : List (Change X) → List X → List X
  set_all [] xs = xs
  set_all (change ∷ changes) xs = set_all changes (set_at number_of change.number change.content xs)

  -- the change to what stands at the same number
  abbrev pub old : List X → Change X → Change X
  old xs change = record { number = change.number; content = find number_of change.number xs }

  -- for each change its number with what stands there
  abbrev pub olds : List (Change X) → List X → List (Change X)
  olds changes xs = map (old xs) changes

  -- how many changes put an item where none stands
  abbrev pub added : List (Change X) → List X → ℕ
  added changes xs =
      count_by (λ change. is_some change.content && is_none (find number_of change.number xs))
      changes
