-- A leaf answer by the addresses of its leaves, and what is read back by index.
use Rattle.std.specs.Prelude.{ℕ, Bool, List, [], ◌∷◌, length, map, unwrap_or}
use Rattle.std.specs.FinMap as finite
use Rattle.std.specs.FinMap.{FinMap}
use Rattle.std.specs.Option.{option_map_or}
use Rattle.std.specs.Ordering.{nat_cmp}
use Rattle.ratio_core.specs.Rational.{Rational, zero_ℚ}
use Rattle.address_map.specs.AddressMap.{AddressMap}
use Rattle.address_map.specs.Places.{Indices}
use Rattle.aff_core.specs.Address.{Address}
use Rattle.equality_form.specs.ReadBack.{AnswerByAddress, ValuesFit, in_parts, infeasible, optimal, unbounded, unflipped, values_in}
use Rattle.simplex_core.specs.declared.answer.SolverAnswer.{SolverAnswer}
use Rattle.simplex_core.specs.declared.answer.SolverAnswer.TheVariants as solver
use Rattle.solver_store.specs.SolverModel.{Leaves}
use Rattle.solver_store.specs.declared.answer.LeafAnswer.{LeafAnswer}
use Rattle.solver_store.specs.declared.answer.LeafAnswer.TheVariants as leaf
use Rattle.solver_store.specs.declared.leaf.LeafRow.{LeafRow}
use Rattle.solver_store.specs.declared.leaf.LeafVar.{LeafVar}
use Rattle.std_form.specs.Indexed.{equations_in, rows_of, variables_of}

-- what stands at the index of an address, and `none` elsewhere
abbrev pub at_address : {X : Type 0} → X → Indices → FinMap nat_cmp X → Address → X
at_address none indices m at =
    option_map_or (λ i. unwrap_or (finite.get m i) none) (finite.get indices at) none

abbrev pub answer_of : AddressMap → LeafAnswer → AnswerByAddress
answer_of map (leaf.Optimal x y) =
    optimal (at_address zero_ℚ map.vars.indices x) (at_address [] map.rows.indices y)
answer_of map (leaf.Infeasible y) = infeasible (at_address [] map.rows.indices y)
answer_of map (leaf.Unbounded x d) =
    unbounded (at_address zero_ℚ map.vars.indices x) (at_address zero_ℚ map.vars.indices d)

-- ---- by index

-- values under the indices of some leaves, one after the other
abbrev pub under : {V X : Type 0} → List (ℕ × V) → List X → List (ℕ × X)
under [] xs = []
under (leaf ∷ leaves) [] = []
under (leaf ∷ leaves) (x ∷ xs) = (leaf.0, x) ∷ under leaves xs

abbrev pub points : List (ℕ × LeafVar) → List Rational → List (ℕ × Rational)
points vars x = under vars (values_in vars x)

abbrev pub row_lengths : List (ℕ × LeafRow) → List ℕ
row_lengths rows = map (λ row. length (equations_in row.1)) rows

abbrev pub dual_lists : List (ℕ × LeafRow) → List Rational → List (ℕ × List Rational)
dual_lists rows w = under rows (in_parts (row_lengths rows) w)

-- what the variables and rows are answered, of the flips of the form's rows
abbrev pub answer_by : List (ℕ × LeafVar) → List (ℕ × LeafRow) → List Bool → SolverAnswer
    → LeafAnswer
answer_by vars rows flips (solver.Optimal x y basis) =
    leaf.Optimal (finite.from_entries (points vars x))
    (finite.from_entries (dual_lists rows (unflipped flips y)))
answer_by vars rows flips (solver.Infeasible y basis) =
    leaf.Infeasible (finite.from_entries (dual_lists rows (unflipped flips y)))
answer_by vars rows flips (solver.Unbounded x d basis) =
    leaf.Unbounded (finite.from_entries (points vars x)) (finite.from_entries (points vars d))

-- each difference of a free variable's columns fits
abbrev pub FitBy : List (ℕ × LeafVar) → SolverAnswer → Type 0
FitBy vars (solver.Optimal x y basis) = ValuesFit vars x
FitBy vars (solver.Infeasible y basis) = Unit {0}
FitBy vars (solver.Unbounded x d basis) = ValuesFit vars x × ValuesFit vars d

module _ (map : AddressMap) (leaves : Leaves) where
  abbrev pub read_by_index : List Bool → SolverAnswer → LeafAnswer
  read_by_index flips a = answer_by (variables_of map leaves) (rows_of map leaves) flips a

  abbrev pub FitByIndex : SolverAnswer → Type 0
  FitByIndex a = FitBy (variables_of map leaves) a
