-- The rows and variables that an edit needs are there, where no name is unknown.
use Rattle.std.specs.Prelude.{◌≡◌, ℕ, zero, suc, Bool, true, false, not, List, [], ◌∷◌, Some, IsSome, slice_get, refl}
use Rattle.std.specs.List.{list_any}
use Rattle.std.specs.Option.{option_map_or}
use Rattle.std.proofs.Common.{sym, subst, ◌∙◌}
use Rattle.std.proofs.lemmas.Bool.{both_ways, not-false, or_parts}
use Rattle.std.proofs.lemmas.Option.{same_Some}
use Rattle.std.proofs.lemmas.List.Folds.{list_any-append}
use Rattle.named_aff.specs.declared.aff.NamedAff.{NamedAff}
use Rattle.user_model.specs.declared.edit.Edit.{Edit}
use Rattle.user_model.specs.declared.edit.NamedFunc.{NamedFunc}
use Rattle.user_model.specs.declared.edit.NamedFunc.TheVariants as named
use Rattle.user_model.specs.declared.row.Row.{Row}
use Rattle.user_model.specs.Model.{ModelValue, group_of, is_variable, row_named, variable_named}
use Rattle.user_model.specs.Functions.{mentioned, names_of}
use Rattle.user_model.specs.Edited.{located}
use Rattle.user_model.specs.Refusals.{IsKnown, has_row_named, has_variable_named, meets_unknown_name, needed_row, needed_variables}
use Rattle.model_laws.specs.Found.{something}
use Rattle.model_laws.specs.Located.{address_stands}

module _ (model : ModelValue) where
  -- no variable has the name
  abbrev pub unknown : List ℕ → Bool
  unknown name = not (has_variable_named model name)

  first_known : (name : List ℕ) (names : List (List ℕ)) → list_any unknown (name ∷ names) ≡ false
      → (n : ℕ) × (variable_named model name ≡ Some n)
  first_known name names e = something (variable_named model name)
      (not-false (has_variable_named model name) (or_parts (unknown name) (list_any unknown names)
      e).0)

  -- the first variable that the edit needs
  pub needed_variable : (e : Edit) (name : List ℕ) (names : List (List ℕ))
      → needed_variables e ≡ name ∷ names → meets_unknown_name model e ≡ false
      → (n : ℕ) × (variable_named model name ≡ Some n)
  needed_variable e name names is known =
      first_known name names (subst (λ ns. list_any unknown ns ≡ false) is
      (or_parts (list_any unknown (needed_variables e))
      (option_map_or (λ name. not (has_row_named model name)) (needed_row e) false) known).0)

  -- the row that the edit needs
  pub needed_row_there : (e : Edit) (name : List ℕ) → needed_row e ≡ Some name
      → meets_unknown_name model e ≡ false → (row : Row) × (row_named model name ≡ Some row)
  needed_row_there e name is known =
      something (row_named model name) (not-false (has_row_named model name)
      (subst (λ o. option_map_or (λ name. not (has_row_named model name)) o false ≡ false) is
      (or_parts (list_any unknown (needed_variables e))
      (option_map_or (λ name. not (has_row_named model name)) (needed_row e) false) known).1))

  -- a function by name is on no variable that doesn't stand
  pub located_stands : (func : NamedFunc) → list_any unknown (mentioned func) ≡ false → (n : ℕ)
      → is_variable n (located model func) ≡ true → IsSome (group_of model n)
  located_stands (named.Plain var) known n e =
      let at = first_known var [] known in address_stands model var at.0 n at.1 e
  located_stands _ known n e = absurd (both_ways false refl e)

  -- the function of an edit that isn't refused is of names that stand
  pub known_function : (e : Edit) (func : NamedFunc) → needed_variables e ≡ mentioned func
      → meets_unknown_name model e ≡ false → IsKnown model func
  known_function e func is known =
      record {
        known = subst (λ names. list_any unknown names ≡ false) is
            (or_parts (list_any unknown (needed_variables e))
            (option_map_or (λ name. not (has_row_named model name)) (needed_row e) false) known).0;
      }

  -- so are the first component, and the others
  known_parts : (g : NamedAff) (fs : List NamedAff)
      → list_any unknown (mentioned (named.AffineVec (g ∷ fs))) ≡ false
      → (list_any unknown (names_of g) ≡ false)
      × (list_any unknown (mentioned (named.AffineVec fs)) ≡ false)
  known_parts g fs known =
      or_parts (list_any unknown (names_of g)) (list_any unknown (mentioned (named.AffineVec fs)))
      (sym (list_any-append unknown (names_of g) (mentioned (named.AffineVec fs))) ∙ known)

  -- so is each component
  pub known_component : (fs : List NamedAff) (i : ℕ) (f : NamedAff)
      → IsKnown model (named.AffineVec fs) → slice_get fs i ≡ Some f
      → IsKnown model (named.Affine f)
  known_component [] i f h e = cc
  known_component (g ∷ fs) zero f h e =
      let same : g ≡ f = same_Some g f e in
      record {
        known = subst (λ f. list_any unknown (names_of f) ≡ false) same
            (known_parts g fs h.known).0;
      }
  known_component (g ∷ fs) (suc i) f h e =
      known_component fs i f (record { known = (known_parts g fs h.known).1 }) e
