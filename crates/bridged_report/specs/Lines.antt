-- A solver's model as text: a line for each leaf, in the order of the addresses. The objective is
-- the last: no root is above its own, and it is the last child wherever it is one.
--     bridged_text model leaves      the text, with the names of the user's model
use Rattle.std.specs.Prelude.{ℕ, List, [], ◌∷◌, ◌++◌, codes, flat_map, if◌then◌else◌, map}
use Rattle.std.specs.FinMap.{entries}
use Rattle.std.specs.Ordering.{is_le}
use Rattle.aff_core.specs.Address.{Address, address_cmp}
use Rattle.aff_core.specs.declared.sense.Sense.{Sense}
use Rattle.aff_core.specs.declared.sense.Sense.TheVariants.{Min, Max}
use Rattle.item_core.specs.declared.item.Body.{Body}
use Rattle.item_core.specs.declared.item.Body.TheVariants.{Plain, Affine, AffineVec, PlainObj, AffineObj}
use Rattle.leaf_model.specs.LeafModel.{LeafModel}
use Rattle.solver_store.specs.declared.leaf.LeafVar.{LeafVar}
use Rattle.solver_store.specs.declared.leaf.LeafVar.TheVariants.{Free, Nonneg}
use Rattle.report_core.specs.Words.{newline}
use Rattle.user_model.specs.Model.{ModelValue}
use Rattle.bridged_report.specs.Addresses.{address_text}
use Rattle.bridged_report.specs.Functions.{components_text, function_text}
use Rattle.bridged_report.specs.Sets.{set_text}

-- ---- what stands of a leaf after its address

abbrev pub var_text : LeafVar → List ℕ
var_text Free = codes "free"
var_text Nonneg = codes "nonneg"

abbrev pub sense_text : Sense → List ℕ
sense_text Min = codes "min"
sense_text Max = codes "max"

-- a row or an objective; no leaf has another body
abbrev pub body_text : ModelValue → Body → List ℕ
body_text model (Plain var set) = set_text set ++ codes " : 1*" ++ address_text model var
body_text model (Affine f set) = set_text set ++ codes " : " ++ function_text model f
body_text model (AffineVec fs set) =
    set_text set ++ codes " : " ++ components_text (map (function_text model) fs)
body_text model (PlainObj sense var) = sense_text sense ++ codes " 1*" ++ address_text model var
body_text model (AffineObj sense f) = sense_text sense ++ codes " " ++ function_text model f
body_text model _ = []

-- ---- lines in the order of addresses

-- a line, and the address of its leaf
abbrev pub LeafLine : Type 0
LeafLine = Address × List ℕ

-- the line before the first of those whose addresses are no lower
abbrev pub put_before : LeafLine → List LeafLine → List LeafLine
put_before line [] = line ∷ []
put_before line (other ∷ others) =
    if is_le (address_cmp line.0 other.0) then line ∷ other ∷ others
    else other ∷ put_before line others

-- the lines in the order of their addresses; of those with one address the first stays first
abbrev pub in_order : List LeafLine → List LeafLine
in_order [] = []
in_order (line ∷ lines) = put_before line (in_order lines)

abbrev pub joined : List LeafLine → List ℕ
joined lines = flat_map (λ line. line.1) lines

-- ---- the text

abbrev pub variable_text : ModelValue → Address → LeafVar → List ℕ
variable_text model at var =
    codes "var " ++ address_text model at ++ codes " " ++ var_text var ++ newline

abbrev pub variable_line : ModelValue → Address × LeafVar → LeafLine
variable_line model e = (e.0, variable_text model e.0 e.1)

abbrev pub row_line : ModelValue → Address × Body → LeafLine
row_line model e =
    (e.0, codes "row " ++ address_text model e.0 ++ codes " " ++ body_text model e.1 ++ newline)

abbrev pub objective_line : ModelValue → Address × Body → LeafLine
objective_line model e = (e.0, body_text model e.1 ++ newline)

unfoldable pub bridged_text : ModelValue → LeafModel → List ℕ
bridged_text model leaves =
    joined (in_order (map (variable_line model) (entries leaves.variables)
    ++ map (row_line model) (entries leaves.rows)))
    ++ joined (map (objective_line model) (entries leaves.objective))
