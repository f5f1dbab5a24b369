-- The equality form of a leaf model, by addresses alone: the matrix row by row, the right sides,
-- the costs, and which equations are flipped.
use Rattle.std.specs.Prelude.{ℕ, suc, ◌+◌, ◌*◌, Bool, List, [], ◌∷◌, ◌++◌, length, map}
use Rattle.std.specs.FinMap as finite
use Rattle.std.specs.declared.cmp.Ordering.{Ordering}
use Rattle.ratio_core.specs.Rational.{Rational, zero_ℚ}
use Rattle.aff_core.specs.Address.{Address}
use Rattle.aff_core.specs.Function.{Function, FunctionOver, coefficient, constant_function, negated, variable}
use Rattle.aff_core.specs.declared.sense.Sense.TheVariants.{Min, Max}
use Rattle.item_core.specs.declared.item.Body.{Body}
use Rattle.item_core.specs.declared.item.Body.TheVariants.{PlainObj, AffineObj}
use Rattle.leaf_model.specs.LeafModel.{LeafModel}
use Rattle.simplex_core.specs.declared.form.StdForm.{StdForm}
use Rattle.simplex_form.specs.BoundedSums.{delta}
use Rattle.solver_store.specs.declared.leaf.LeafVar.{LeafVar}
use Rattle.equality_form.specs.Columns.{parts, parts_among, slacks, slacks_from}
use Rattle.equality_form.specs.Equations.{EquationOver, equations, flipped, is_flipped, right_of}

-- ---- costs

-- what an objective costs: its function, negated where it is to be greatest
abbrev pub cost_of : Body → Function
cost_of (PlainObj Min var) = variable var
cost_of (PlainObj Max var) = negated (variable var)
cost_of (AffineObj Min func) = func
cost_of (AffineObj Max func) = negated func
cost_of _ = constant_function zero_ℚ

-- without an objective nothing costs
abbrev pub cost_among : List (Address × Body) → Function
cost_among [] = constant_function zero_ℚ
cost_among (objective ∷ others) = cost_of objective.1

abbrev pub cost : LeafModel → Function
cost leaves = cost_among (finite.entries leaves.objective)

-- ---- cells

-- a function's numbers at the variables' columns
abbrev pub numbers_at : {K : Type 0} → List (K × Bool) → (K → Rational) → List Rational
numbers_at parts number = map (λ part. flipped part.1 (number part.0)) parts

-- the numbers of the i-th equation at the slacks' columns
abbrev pub unit_at : List (ℕ × Bool) → ℕ → List Rational
unit_at slacks i = map (λ slack. flipped slack.1 (delta slack.0 i)) slacks

module _ {K : Type 0} {R : K → K → Ordering} where
  module _ (parts : List (K × Bool)) (slacks : List (ℕ × Bool)) where
    abbrev pub row_cells : ℕ → EquationOver R → List Rational
    row_cells i e =
        map (flipped (is_flipped e)) (numbers_at parts (coefficient e.function) ++ unit_at slacks i)

    -- of equations that are numbered from i on
    abbrev pub cells_from : ℕ → List (EquationOver R) → List Rational
    cells_from i [] = []
    cells_from i (e ∷ es) = row_cells i e ++ cells_from (suc i) es

  abbrev pub right_sides : List (EquationOver R) → List Rational
  right_sides es = map (λ e. flipped (is_flipped e) (right_of e)) es

  -- a slack costs nothing
  abbrev pub costs_at : List (K × Bool) → List (ℕ × Bool) → FunctionOver R → List Rational
  costs_at parts slacks cost = numbers_at parts (coefficient cost) ++ map (λ slack. zero_ℚ) slacks

  -- ---- the form

  -- of variables, equations and a cost
  abbrev pub form_from : List (K × LeafVar) → List (EquationOver R) → FunctionOver R → StdForm
  form_from vars es cost = record {
    m = length es;
    c = length (parts_among vars) + length (slacks_from 0 es);
    matrix = cells_from (parts_among vars) (slacks_from 0 es) 0 es;
    right = right_sides es;
    costs = costs_at (parts_among vars) (slacks_from 0 es) cost;
    flips = map is_flipped es;
  }

  -- the cells of its board: the columns, as many artificial ones as rows, and the right sides
  abbrev pub cells_of : List (K × LeafVar) → List (EquationOver R) → ℕ
  cells_of vars es =
      length es * (length (parts_among vars) + length (slacks_from 0 es) + length es + 1)

abbrev pub form_of_leaves : LeafModel → StdForm
form_of_leaves leaves = form_from (finite.entries leaves.variables) (equations leaves) (cost leaves)

abbrev pub cell_count : LeafModel → ℕ
cell_count leaves = cells_of (finite.entries leaves.variables) (equations leaves)

abbrev pub column_count : LeafModel → ℕ
column_count leaves = length (parts leaves) + length (slacks leaves)

abbrev pub column_costs : LeafModel → List Rational
column_costs leaves = costs_at (parts leaves) (slacks leaves) (cost leaves)
