-- Which variables of plain functions are kept, by the marks of a map of addresses.
use Rattle.std.specs.Prelude.{◌≡◌, cond, List, [], ◌∷◌, flat_map}
use Rattle.std.specs.FinMap.{FinMap}
use Rattle.std.specs.Prelude.{Bool}
use Rattle.address_map.specs.AddressMap.{AddressMap}
use Rattle.aff_core.specs.Address.{Address, address_cmp}
use Rattle.leaf_update.specs.Others.{among}
use Rattle.model_bridging.specs.Kinds.{told}
use Rattle.found_plan.specs.Read.{is_marked}
use Rattle.user_model.specs.declared.function.UserFunc.{UserFunc}
use Rattle.user_model.specs.declared.function.UserFunc.TheVariants.{Plain, Affine, PlainVec, AffineVec}
use Rattle.user_model.specs.declared.objective.Objective.{Objective}
use Rattle.user_model.specs.declared.objective.Objective.TheVariants as objective
use Rattle.user_model.specs.declared.row.Row.{Row}

-- the variables of a plain function
abbrev pub plain_in_row : UserFunc → List Address
plain_in_row (Plain var) = var ∷ []
plain_in_row (Affine f) = []
plain_in_row (PlainVec vars) = vars
plain_in_row (AffineVec fs) = []

abbrev pub plain_in_objective : Objective → List Address
plain_in_objective objective.Feasibility = []
plain_in_objective (objective.Plain sense var) = var ∷ []
plain_in_objective (objective.Affine sense f) = []

abbrev pub plain_in : List Row → List Address
plain_in rows = flat_map (λ (r : Row). plain_in_row r.func) rows

-- these variables have their marks, and others what they had
abbrev pub TellsMarks : AddressMap → List Address → FinMap address_cmp Bool
    → FinMap address_cmp Bool → Type 0
TellsMarks places vars old new =
    (v : Address) → told new v ≡ cond (among vars v) (is_marked places v) (told old v)
