-- The form that rows of numbers stand for.
use Rattle.std.specs.Prelude.{ℕ, ◌+◌, Bool, false, ◌&&◌, not, List, [], Option, Some, None, length, flat_map, map, replicate, slice_index_or, take, if◌then◌else◌, ◌==◌}
use Rattle.std.specs.List.{list_all}
use Rattle.ratio_core.specs.Rational.{Rational, zero_ℚ}
use Rattle.simplex_core.specs.declared.form.StdForm.{StdForm}
use Rattle.simplex_form.specs.Turns.{is_below}
use Rattle.tableau_core.specs.Row.{cell}
use Rattle.bland_run.specs.declared.size.Size.{Size}

-- the right side of a row of c columns
abbrev pub right_of : ℕ → List Rational → Rational
right_of c row = cell row c

-- a number for each column, and then a right side that isn't below 0
abbrev pub is_row : ℕ → List Rational → Bool
is_row c row = (length row == c + 1) && not (is_below (right_of c row) zero_ℚ)

-- the row of costs, after those of the form
abbrev pub costs_of : ℕ → List (List Rational) → List Rational
costs_of m rows = slice_index_or rows m []

-- as many rows as the size says, and a row of costs
abbrev pub is_shaped : Size → List (List Rational) → Bool
is_shaped size rows = (length rows == size.m + 1) && list_all (is_row size.c) (take size.m rows)
    && (length (costs_of size.m rows) == size.c)

-- the form with the rows' numbers as its matrix and the last of each as its right side
abbrev pub form_with : Size → List (List Rational) → StdForm
form_with size rows = record {
  m = size.m;
  c = size.c;
  matrix = flat_map (take size.c) (take size.m rows);
  right = map (right_of size.c) (take size.m rows);
  costs = costs_of size.m rows;
  flips = replicate size.m false;
}

abbrev pub form_from : Size → List (List Rational) → Option StdForm
form_from size rows = if is_shaped size rows then Some (form_with size rows) else None
