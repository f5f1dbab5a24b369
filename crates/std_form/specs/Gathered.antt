-- Rows that are gathered from their columns.
use Rattle.std.specs.Prelude.{ℕ, ◌<◌, List, length, map}
use Rattle.ratio_core.specs.Rational.{Rational}
use Rattle.sparse_lists.specs.Across.{IsStartOf, list_at}
use Rattle.aff_core.specs.Function.{coefficient}
use Rattle.solver_store.specs.declared.leaf.LeafVar.{LeafVar}
use Rattle.tableau_core.specs.Row.{cell}
use Rattle.equality_form.specs.Columns.{signs}
use Rattle.equality_form.specs.Equations.{flipped, is_flipped}
use Rattle.std_form.specs.Indexed.{SolverEquation}

-- an index's coefficients in the equations
abbrev pub column_of : List SolverEquation → ℕ → List Rational
column_of es b = map (λ e. flipped (is_flipped e) (coefficient e.function b)) es

-- the b-th list has those of index b, but for zeros at the end
abbrev pub AreColumns : List SolverEquation → List (List Rational) → Type 0
AreColumns es columns =
    (b : ℕ) → b < length columns → IsStartOf (list_at columns b) (column_of es b)

-- a variable's numbers in row r
abbrev pub cells_at : List (List Rational) → ℕ → ℕ × LeafVar → List Rational
cells_at columns r var =
    map (λ negated. flipped negated (cell (list_at columns var.0) r)) (signs var.1)
