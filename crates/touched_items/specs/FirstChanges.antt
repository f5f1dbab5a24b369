-- What several undos list, one after another: the first change of each number counts.
--     AreFirst            of some changes the first of each number, in the order of numbers
--     first_objective     the first objective
--     stood_at            what stood at a number
use Rattle.std.specs.Prelude.{◌≡◌, ◌≤◌, ℕ, List, [], ◌∷◌, Option, None, length}
use Rattle.std.specs.Option.{option_map_or, option_or}
use Rattle.numbered_list.specs.declared.change.Change.{Change}
use Rattle.numbered_list.specs.Changes.{changed_number}
use Rattle.numbered_list.specs.Numbered.{Rise, find}
use Rattle.user_model.specs.declared.objective.Objective.{Objective}
use Rattle.user_model.specs.declared.undo.Undo.{Undo}

abbrev pub first_objective : List Undo → Option Objective
first_objective [] = None
first_objective (undo ∷ undos) = option_or undo.objective (first_objective undos)

module _ {X : Type 0} where
  pub record AreFirst (changes listed : List (Change X)) : Type 0 where
    pub rising : Rise changed_number listed
    pub first : (n : ℕ) → find changed_number n listed ≡ find changed_number n changes
    pub few : length listed ≤ length changes

  -- what is listed of a number, or else what stands there now
  abbrev pub stood_at : (ℕ → Option X) → List (Change X) → ℕ → Option X
  stood_at now listed n =
      option_map_or (λ (c : Change X). c.content) (find changed_number n listed) (now n)
