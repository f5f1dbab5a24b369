-- Groups of variables with their creation sets.
use Rattle.std.specs.Prelude.{ℕ, Bool, true, false, not, ◌&&◌, nat_lt, List, [], ◌∷◌, ◌++◌, length, Option, Some, None, option_and_then, option_to_list, bytes_eq, is_none, slice_get, slice_set}
use Rattle.std.specs.List.{list_all, list_any}
use Rattle.std.specs.Map.{lookup}
use Rattle.indexmap.specs.IndexMap.{insert_entry}
use Rattle.set_core.specs.declared.set.Set.{Set}
use Rattle.set_core.specs.declared.set.Set.TheVariants.{Reals}
use Rattle.set_core.specs.Shapes.{is_scalar}
use Rattle.user_model.specs.declared.edit.Edit.{Edit}
use Rattle.user_model.specs.declared.edit.Edit.TheVariants.{AddGroup}
use Rattle.user_model.specs.declared.edit.NamedFunc.{NamedFunc}
use Rattle.user_model.specs.declared.edit.NamedFunc.TheVariants.{Plain, PlainVec}

-- grouped variables, each with its group's number
abbrev pub Owners : Type 0
Owners = List (List ℕ × ℕ)

-- ---- which constraints are creation sets

abbrev pub is_free : Owners → List ℕ → Bool
is_free owners name = is_none (lookup (bytes_eq name) owners)

-- none of them is among those seen, or stands twice
abbrev pub are_new : List (List ℕ) → List (List ℕ) → Bool
are_new seen [] = true
are_new seen (name ∷ names) =
    not (list_any (bytes_eq name) seen) && are_new (seen ++ name ∷ []) names

-- a set of numbers for an ungrouped variable, or a set of vectors for distinct ungrouped variables
abbrev pub becomes_group : Owners → NamedFunc → Set → Bool
becomes_group owners (Plain var) set = is_scalar set && is_free owners var
becomes_group owners (PlainVec vars) set =
    not (is_scalar set) && nat_lt 0 (length vars)
    && list_all (is_free owners) vars && are_new [] vars
becomes_group owners _ set = false

-- the variables of a function without coefficients
abbrev pub plain_names : NamedFunc → List (List ℕ)
plain_names (Plain var) = var ∷ []
plain_names (PlainVec vars) = vars
plain_names _ = []

-- the owners, with these variables in that group
abbrev pub with_owners : Owners → List (List ℕ) → ℕ → Owners
with_owners owners [] g = owners
with_owners owners (name ∷ names) g = with_owners (insert_entry bytes_eq owners name g) names g

-- ---- the groups in the order of the file

-- the group of a variable that is in no creation set
abbrev pub free_group : List ℕ → Edit
free_group name = AddGroup (name ∷ []) (Reals 1)

-- the group that comes at a variable: its own, unless it came before
abbrev pub group_at : List (Option Edit) → Option ℕ → List ℕ → Option Edit
group_at left None name = Some (free_group name)
group_at left (Some g) name = option_and_then (λ group. group) (slice_get left g)

abbrev pub left_after : List (Option Edit) → Option ℕ → List (Option Edit)
left_after left None = left
left_after left (Some g) = slice_set left g None

-- the groups, each at the first of its variables
abbrev pub in_order : Owners → List (Option Edit) → List (List ℕ) → List Edit
in_order owners left [] = []
in_order owners left (name ∷ names) =
    option_to_list (group_at left (lookup (bytes_eq name) owners) name)
    ++ in_order owners (left_after left (lookup (bytes_eq name) owners)) names
