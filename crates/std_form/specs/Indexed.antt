-- A solver's model in the order of the addresses that a map gives, by its indices: variables, rows,
-- equations and cost, and the form of these.
use Rattle.std.specs.Prelude.{ℕ, Bool, true, false, cond, List, [], ◌∷◌, Option, Some, None, filter_map, flat_map}
use Rattle.std.specs.FinMap as finite
use Rattle.std.specs.FinMap.{FinMap}
use Rattle.std.specs.Option.{option_map}
use Rattle.std.specs.Ordering.{nat_cmp}
use Rattle.ratio_core.specs.Rational.{zero_ℚ}
use Rattle.address_map.specs.AddressMap.{AddressMap}
use Rattle.address_map.specs.Places.{Indices}
use Rattle.aff_core.specs.Address.{Address}
use Rattle.aff_core.specs.Function.{constant_function, negated, variable}
use Rattle.aff_core.specs.declared.sense.Sense.{Sense}
use Rattle.aff_core.specs.declared.sense.Sense.TheVariants.{Min, Max}
use Rattle.equality_form.specs.EqualityForm.{form_from}
use Rattle.equality_form.specs.Equations.{EquationOver, equations_for}
use Rattle.simplex_core.specs.declared.form.StdForm.{StdForm}
use Rattle.solver_store.specs.SolverFunction.{SolverFunction}
use Rattle.solver_store.specs.SolverModel.{Leaves}
use Rattle.solver_store.specs.declared.leaf.LeafObjective.{LeafObjective}
use Rattle.solver_store.specs.declared.leaf.LeafObjective.TheVariants as objective
use Rattle.solver_store.specs.declared.leaf.LeafRow.{LeafRow}
use Rattle.solver_store.specs.declared.leaf.LeafRow.TheVariants as row
use Rattle.solver_store.specs.declared.leaf.LeafVar.{LeafVar}

-- what stands at the index of an entry, under the index
abbrev pub leaf_at : {X : Type 0} → FinMap nat_cmp X → Address × ℕ → Option (ℕ × X)
leaf_at leaves e = option_map (λ x. (e.1, x)) (finite.get leaves e.1)

-- in the order of addresses
abbrev pub leaves_at : {X : Type 0} → Indices → FinMap nat_cmp X → List (ℕ × X)
leaves_at indices leaves = filter_map (leaf_at leaves) (finite.entries indices)

abbrev pub SolverEquation : Type 0
SolverEquation = EquationOver nat_cmp

abbrev pub is_max : Sense → Bool
is_max Min = false
is_max Max = true

abbrev pub equations_in : LeafRow → List SolverEquation
equations_in (row.Plain var set) = equations_for set (variable var ∷ [])
equations_in (row.Affine func set) = equations_for set (func ∷ [])
equations_in (row.AffineVec func set) = equations_for set func

-- an objective's function, which is 0 where there is none
abbrev pub objective_in : Option LeafObjective → SolverFunction
objective_in None = constant_function zero_ℚ
objective_in (Some (objective.Plain sense var)) = variable var
objective_in (Some (objective.Affine sense func)) = func

abbrev pub is_greatest : Option LeafObjective → Bool
is_greatest None = false
is_greatest (Some (objective.Plain sense var)) = is_max sense
is_greatest (Some (objective.Affine sense func)) = is_max sense

-- what is to be least
abbrev pub cost_in : Option LeafObjective → SolverFunction
cost_in o = cond (is_greatest o) (negated (objective_in o)) (objective_in o)

-- ---- of a model

module _ (map : AddressMap) (leaves : Leaves) where
  abbrev pub variables_of : List (ℕ × LeafVar)
  variables_of = leaves_at map.vars.indices leaves.vars

  abbrev pub rows_of : List (ℕ × LeafRow)
  rows_of = leaves_at map.rows.indices leaves.rows

  abbrev pub equations_of : List SolverEquation
  equations_of = flat_map (λ row. equations_in row.1) rows_of

  abbrev pub form_of : StdForm
  form_of = form_from variables_of equations_of (cost_in leaves.objective)
