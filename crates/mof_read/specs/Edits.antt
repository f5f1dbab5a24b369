-- The edits that make a file's model from an empty one: groups, rows, the objective.
use Rattle.std.specs.Prelude.{ℕ, ◌+◌, List, [], ◌∷◌, ◌++◌, length, Option, Some, Ok, if◌then◌else◌}
use Rattle.user_model.specs.declared.edit.Edit.{Edit}
use Rattle.user_model.specs.declared.edit.Edit.TheVariants.{AddGroup, AddRow, Objective}
use Rattle.mof_values.specs.Walked.{Walked, ◌>>=◌}
use Rattle.mof_file.specs.declared.constraints.FileConstraint.{FileConstraint}
use Rattle.mof_file.specs.declared.objectives.FileObjective.{FileObjective}
use Rattle.mof_file.specs.declared.objectives.FileObjective.TheVariants.{Feasibility, Optimize}
use Rattle.mof_file.specs.File.{FileValue, file_in}
use Rattle.mof_read.specs.declared.sorting.Sorting.{Sorting}
use Rattle.mof_read.specs.Groups.{Owners, becomes_group, in_order, plain_names, with_owners}
use Rattle.mof_read.specs.Names.{all_names, row_name, with_own_names}

-- what is made of constraints so far
pub record Sorted : Type 0 where
  pub groups : List (Option Edit)
  pub owners : Owners
  pub rows : List Edit

abbrev pub nothing : Sorted
nothing = record { groups = []; owners = []; rows = [] }

abbrev pub with_group : Sorted → FileConstraint → Sorted
with_group s c = record {
  groups = s.groups ++ Some (AddGroup (plain_names c.func) c.set) ∷ [];
  owners = with_owners s.owners (plain_names c.func) (length s.groups);
  rows = s.rows;
}

abbrev pub with_row : List (List ℕ) → ℕ → ℕ → Sorted → FileConstraint → Sorted
with_row taken count k s c = record s {
  rows = s.rows ++ AddRow (row_name taken count k c.name) c.func c.set ∷ [];
}

-- with the k-th constraint of n
unfoldable pub with_constraint : List (List ℕ) → ℕ → ℕ → Sorted → FileConstraint → Sorted
with_constraint taken count k s c =
    if becomes_group s.owners c.func c.set then with_group s c else with_row taken count k s c

-- with the constraints after the k-th
abbrev pub with_constraints : List (List ℕ) → ℕ → ℕ → Sorted → List FileConstraint → Sorted
with_constraints taken count k s [] = s
with_constraints taken count k s (c ∷ cs) =
    with_constraints taken count (k + 1) (with_constraint taken count (k + 1) s c) cs

abbrev pub sorted_in : List (List ℕ) → List FileConstraint → Sorted
sorted_in taken cs = with_constraints taken (length cs) 0 nothing cs

unfoldable pub sorted_of : List FileConstraint → Sorted
sorted_of cs = sorted_in (all_names [] cs) (with_own_names [] cs)

-- the groups in the order of the file's variables, and then the rows
abbrev pub sorted_edits : Sorted → List (List ℕ) → List Edit
sorted_edits s variables = in_order s.owners s.groups variables ++ s.rows

abbrev pub objective_edits : FileObjective → List Edit
objective_edits Feasibility = []
objective_edits (Optimize sense func) = Objective sense func ∷ []

unfoldable pub edits_of : FileValue → List Edit
edits_of file =
    in_order (sorted_of file.constraints).owners (sorted_of file.constraints).groups file.variables
    ++ (sorted_of file.constraints).rows ++ objective_edits file.objective

-- the edits of a file's text, or the first fault
unfoldable pub edits_in : List ℕ → Walked (List Edit)
edits_in text = do
  file ← file_in text
  Ok (edits_of file)

abbrev pub sorted_so_far : Sorting → Sorted
sorted_so_far s = record { groups = s.groups.items; owners = s.owners.entries; rows = s.rows.items }
