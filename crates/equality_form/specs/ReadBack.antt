-- An answer of the equality form, read back as one of the leaf model.
use Rattle.std.specs.Prelude.{List, [], ◌∷◌, cond, drop, length, take, ℕ, Bool, map}
use Rattle.std.specs.FinMap as finite
use Rattle.ratio_core.specs.Rational.{Rational, SumFits, neg_ℚ, zero_ℚ, ◌-ℚ◌}
use Rattle.aff_core.specs.Address.{Address, address_eq}
use Rattle.item_core.specs.declared.item.Body.{Body}
use Rattle.item_core.specs.Item.{functions_of}
use Rattle.leaf_model.specs.LeafModel.{LeafModel}
use Rattle.simplex_core.specs.declared.answer.SolverAnswer.{SolverAnswer}
use Rattle.simplex_core.specs.declared.answer.SolverAnswer.TheVariants as solver
use Rattle.solver_store.specs.declared.leaf.LeafVar.{LeafVar}
use Rattle.solver_store.specs.declared.leaf.LeafVar.TheVariants.{Free, Nonneg}
use Rattle.tableau_core.specs.Row.{cell}
use Rattle.equality_form.specs.Columns.{signs}
use Rattle.equality_form.specs.Equations.{equations, flipped, is_flipped}

-- a number for each variable, and a list of duals for each row
pub data AnswerByAddress : Type 0 where
  optimal : (Address → Rational) → (Address → List Rational) → AnswerByAddress
  infeasible : (Address → List Rational) → AnswerByAddress
  unbounded : (Address → Rational) → (Address → Rational) → AnswerByAddress

-- what is listed for an address, one after the other, and `none` for each other address
abbrev pub listed_at : {X : Type 0} → X → List Address → List X → Address → X
listed_at none [] xs at = none
listed_at none (a ∷ addresses) [] at = none
listed_at none (a ∷ addresses) (x ∷ xs) at =
    cond (address_eq at a) x (listed_at none addresses xs at)

-- ---- points

-- the number of a variable whose columns are the first ones
abbrev pub value_in : LeafVar → List Rational → Rational
value_in Free x = cell x 0 -ℚ cell x 1
value_in Nonneg x = cell x 0

abbrev pub LeafValueFits : LeafVar → List Rational → Type 0
LeafValueFits Free x = SumFits (cell x 0) (neg_ℚ (cell x 1))
LeafValueFits Nonneg x = Unit {0}

-- the numbers of the other columns
abbrev pub after : LeafVar → List Rational → List Rational
after var x = drop (length (signs var)) x

module _ {K : Type 0} where
  abbrev pub values_in : List (K × LeafVar) → List Rational → List Rational
  values_in [] x = []
  values_in (var ∷ vars) x = value_in var.1 x ∷ values_in vars (after var.1 x)

  abbrev pub ValuesFit : List (K × LeafVar) → List Rational → Type 0
  ValuesFit [] x = Unit {0}
  ValuesFit (var ∷ vars) x = LeafValueFits var.1 x × ValuesFit vars (after var.1 x)

-- ---- duals

-- the multipliers of the equations as they were before some were flipped
abbrev pub unflipped : List Bool → List Rational → List Rational
unflipped [] y = []
unflipped (flip ∷ flips) y = flipped flip (cell y 0) ∷ unflipped flips (drop 1 y)

-- the list in parts of these lengths
abbrev pub in_parts : List ℕ → List Rational → List (List Rational)
in_parts [] w = []
in_parts (n ∷ lengths) w = take n w ∷ in_parts lengths (drop n w)

-- a part for each row, as long as the row has components
abbrev pub by_rows : List (Address × Body) → List Rational → List (List Rational)
by_rows rows w = in_parts (map (λ row. length (functions_of row.1)) rows) w

-- ---- answers

module _ (leaves : LeafModel) where
  abbrev pub point_in : List Rational → Address → Rational
  point_in x =
      listed_at zero_ℚ (finite.keys leaves.variables)
      (values_in (finite.entries leaves.variables) x)

  abbrev pub duals_in : List Rational → Address → List Rational
  duals_in y =
      listed_at [] (finite.keys leaves.rows)
      (by_rows (finite.entries leaves.rows) (unflipped (map is_flipped (equations leaves)) y))

  abbrev pub LeafPointFits : List Rational → Type 0
  LeafPointFits x = ValuesFit (finite.entries leaves.variables) x

  abbrev pub read_back : SolverAnswer → AnswerByAddress
  read_back (solver.Optimal x y basis) = optimal (point_in x) (duals_in y)
  read_back (solver.Infeasible y basis) = infeasible (duals_in y)
  read_back (solver.Unbounded x d basis) = unbounded (point_in x) (point_in d)

  -- each difference of a free variable's columns fits
  abbrev pub AnswerFits : SolverAnswer → Type 0
  AnswerFits (solver.Optimal x y basis) = LeafPointFits x
  AnswerFits (solver.Infeasible y basis) = Unit {0}
  AnswerFits (solver.Unbounded x d basis) = LeafPointFits x × LeafPointFits d
