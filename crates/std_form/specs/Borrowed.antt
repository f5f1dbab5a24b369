-- What borrowed functions, equations and rows are.
use Rattle.std.specs.Prelude.{ℕ}
use denote.Ref.{Bor}
use Rattle.ratio_core.specs.Rational.{zero_ℚ}
use Rattle.aff_core.specs.Function.{constant_function, variable}
use Rattle.solver_store.specs.SolverFunction.{SolverFunction}
use Rattle.solver_store.specs.declared.leaf.LeafRow.{LeafRow}
use Rattle.std_form.specs.declared.equation.Equation.{Equation}
use Rattle.std_form.specs.declared.equation.Function.{Function}
use Rattle.std_form.specs.declared.equation.Function.TheVariants.{Zero, Variable, Affine}
use Rattle.std_form.specs.Indexed.{SolverEquation}

abbrev pub function_in : Function → SolverFunction
function_in Zero = constant_function zero_ℚ
function_in (Variable var) = variable var
function_in (Affine func) = func.now

abbrev pub equation_in : Equation → SolverEquation
equation_in e = record { function = function_in e.function; set = e.set.now }

abbrev pub row_in : ℕ × Bor LeafRow → ℕ × LeafRow
row_in row = (row.0, row.1.now)
