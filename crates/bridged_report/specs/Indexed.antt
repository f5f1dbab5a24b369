-- The same text, of a solver's model by its indices and the map of their addresses.
use Rattle.std.specs.Prelude.{ℕ, ◌==◌, List, [], ◌++◌, Option, codes, filter_map, find, map}
use Rattle.std.specs.FinMap as finite
use Rattle.std.specs.Option.{option_map, option_map_or}
use Rattle.ratio_core.specs.Rational.{Rational}
use Rattle.address_map.specs.AddressMap.{AddressMap}
use Rattle.address_map.specs.Places.{Indices}
use Rattle.aff_core.specs.Address.{Address}
use Rattle.aff_core.specs.Function.{Function, gathered, terms_of}
use Rattle.solver_store.specs.SolverFunction.{SolverFunction}
use Rattle.solver_store.specs.SolverModel.{Leaves}
use Rattle.solver_store.specs.declared.leaf.LeafObjective.{LeafObjective}
use Rattle.solver_store.specs.declared.leaf.LeafObjective.TheVariants as objective
use Rattle.solver_store.specs.declared.leaf.LeafRow.{LeafRow}
use Rattle.solver_store.specs.declared.leaf.LeafRow.TheVariants as row
use Rattle.report_core.specs.Words.{newline}
use Rattle.user_model.specs.Model.{ModelValue}
use Rattle.bridged_report.specs.Addresses.{address_text}
use Rattle.bridged_report.specs.Functions.{components_text, function_text}
use Rattle.bridged_report.specs.Lines.{LeafLine, in_order, joined, sense_text, variable_text}
use Rattle.bridged_report.specs.Sets.{set_text}

-- ---- functions

-- the address that has the index
abbrev pub address_of : Indices → ℕ → Option Address
address_of indices i = option_map (λ e. e.0) (find (λ e. e.1 == i) (finite.entries indices))

abbrev pub term_in : Indices → ℕ × Rational → Option (Address × Rational)
term_in indices t = option_map (λ at. (at, t.1)) (address_of indices t.0)

-- the function of the addresses that have its indices
abbrev pub function_in : Indices → SolverFunction → Function
function_in indices f = gathered (filter_map (term_in indices) (terms_of f)) f.constant

module _ (model : ModelValue) (indices : Indices) where
  abbrev pub index_text : ℕ → List ℕ
  index_text i = option_map_or (address_text model) (address_of indices i) []

  abbrev pub function_text_in : SolverFunction → List ℕ
  function_text_in f = function_text model (function_in indices f)

  -- ---- what stands of a leaf after its address

  abbrev pub row_text_in : LeafRow → List ℕ
  row_text_in (row.Plain var set) = set_text set ++ codes " : 1*" ++ index_text var
  row_text_in (row.Affine f set) = set_text set ++ codes " : " ++ function_text_in f
  row_text_in (row.AffineVec fs set) =
      set_text set ++ codes " : " ++ components_text (map function_text_in fs)

  abbrev pub objective_text_in : LeafObjective → List ℕ
  objective_text_in (objective.Plain sense var) = sense_text sense ++ codes " 1*" ++ index_text var
  objective_text_in (objective.Affine sense f) =
      sense_text sense ++ codes " " ++ function_text_in f

  abbrev pub row_text_at : Address → LeafRow → List ℕ
  row_text_at at row =
      codes "row " ++ address_text model at ++ codes " " ++ row_text_in row ++ newline

  abbrev pub objective_line_in : Option LeafObjective → List ℕ
  objective_line_in o = option_map_or (λ o. objective_text_in o ++ newline) o []

  -- ---- the lines of entries, without text where nothing has the index

  module _ (leaves : Leaves) where
    abbrev pub variable_line_in : Address × ℕ → LeafLine
    variable_line_in e =
        (e.0, option_map_or (variable_text model e.0) (finite.get leaves.vars e.1) [])

    abbrev pub row_line_in : Address × ℕ → LeafLine
    row_line_in e = (e.0, option_map_or (row_text_at e.0) (finite.get leaves.rows e.1) [])

-- ---- the text

unfoldable pub text_in : ModelValue → AddressMap → Leaves → List ℕ
text_in model places leaves =
    let vars = places.vars.indices in
    joined (in_order (map (variable_line_in model vars leaves) (finite.entries vars)
    ++ map (row_line_in model vars leaves) (finite.entries places.rows.indices)))
    ++ objective_line_in model vars leaves.objective
