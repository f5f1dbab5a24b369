-- Components of groups with the expressions that stand for them, and what stands for a variable, a
-- function and an item where they are put in.
use Rattle.std.specs.Prelude.{Bool, true, false, List, [], ◌∷◌, map, find}
use Rattle.std.specs.List.{list_all}
use Rattle.std.specs.Option.{option_map_or}
use Rattle.set_core.specs.declared.set.Set.{Set}
use Rattle.aff_core.specs.Address.{Address, address_eq}
use Rattle.aff_core.specs.Arithmetic.{composed}
use Rattle.aff_core.specs.Function.{Function}
use Rattle.aff_core.specs.declared.sense.Sense.{Sense}
use Rattle.item_core.specs.declared.image.Expression.{Expression}
use Rattle.item_core.specs.declared.image.Expression.TheVariants.{Kept, Bridged}
use Rattle.item_core.specs.declared.item.Body.{Body}
use Rattle.item_core.specs.declared.item.Body.TheVariants.{Group, Free, Plain, Affine, PlainVec, AffineVec, PlainObj, AffineObj}
use Rattle.item_core.specs.declared.item.Item.{Item}
use Rattle.bridge_face.specs.Law.{expressed}
use Rattle.fresh_bridging.specs.FitTests.{substitution_fits}

pub record Entry : Type 0 where
  pub component : Address
  pub expression : Expression

-- the expression of a variable: a variable that no entry is of stands for itself
abbrev pub expression_in : List Entry → Address → Expression
expression_in entries var =
    option_map_or (λ e. e.expression) (find (λ e. address_eq e.component var) entries) (Kept var)

abbrev pub function_in : List Entry → Address → Function
function_in entries var = expressed (expression_in entries var)

-- the variable that an expression keeps
abbrev pub is_kept : Expression → Bool
is_kept (Kept var) = true
is_kept (Bridged func) = false

-- ---- put in

-- an expression of variables that themselves have expressions
abbrev pub put_into : List Entry → Expression → Expression
put_into entries (Kept var) = expression_in entries var
put_into entries (Bridged func) = Bridged (composed (function_in entries) func)

-- a plain function that names a bridged variable is an affine one
abbrev pub plain_or_affine : Expression → Set → Body
plain_or_affine (Kept var) set = Plain var set
plain_or_affine (Bridged func) set = Affine func set

abbrev pub objective_by : Sense → Expression → Body
objective_by sense (Kept var) = PlainObj sense var
objective_by sense (Bridged func) = AffineObj sense func

-- the variables that are kept
unfoldable pub kept_in : List Expression → List Address
kept_in [] = []
kept_in (Kept var ∷ es) = var ∷ kept_in es
kept_in (Bridged func ∷ es) = kept_in es

unfoldable pub vector_by : Bool → List Expression → Set → Body
vector_by true es set = PlainVec (kept_in es) set
vector_by false es set = AffineVec (map expressed es) set

-- groups have variables of their own, for which nothing is put in
unfoldable pub put_in_body : List Entry → Body → Body
put_in_body entries (Group set vars) = Group set vars
put_in_body entries (Free vars) = Free vars
put_in_body entries (Plain var set) = plain_or_affine (expression_in entries var) set
put_in_body entries (Affine func set) = Affine (composed (function_in entries) func) set
put_in_body entries (PlainVec vars set) =
    let es = map (expression_in entries) vars in vector_by (list_all is_kept es) es set
put_in_body entries (AffineVec funcs set) =
    AffineVec (map (composed (function_in entries)) funcs) set
put_in_body entries (PlainObj sense var) = objective_by sense (expression_in entries var)
put_in_body entries (AffineObj sense func) = AffineObj sense (composed (function_in entries) func)

abbrev pub put_in : List Entry → Item → Item
put_in entries item = record item { body = put_in_body entries item.body }

-- ---- and whether its numbers fit

abbrev pub put_into_fits : List Entry → Expression → Bool
put_into_fits entries (Kept var) = true
put_into_fits entries (Bridged func) = substitution_fits (function_in entries) func

abbrev pub put_in_body_fits : List Entry → Body → Bool
put_in_body_fits entries (Affine func set) = substitution_fits (function_in entries) func
put_in_body_fits entries (AffineVec funcs set) =
    list_all (substitution_fits (function_in entries)) funcs
put_in_body_fits entries (AffineObj sense func) = substitution_fits (function_in entries) func
put_in_body_fits entries _ = true

abbrev pub put_in_fits : List Entry → Item → Bool
put_in_fits entries item = put_in_body_fits entries item.body
