-- A function of a model by the names of its variables is located as it was in any model with the same
-- groups.
use Rattle.std.specs.Prelude.{◌≡◌, List, Some, bytes_eq, find, flat_map, option_map, unwrap_or}
use Rattle.std.proofs.Common.{ap, ◌∙◌}
use Rattle.std.proofs.lemmas.List.{map-id}
use Rattle.aff_core.specs.Address.{Address}
use Rattle.aff_core.specs.Function.{Function, gathered, terms_of}
use Rattle.aff_core.specs.FunctionLaws.{function_of-terms, terms_rise}
use Rattle.mof_laws.specs.ReadBack.{named_affine, named_function, named_term}
use Rattle.mof_laws.specs.VariableLaws.{HasVariableAt}
use Rattle.mof_round_trip_laws.specs.Functions.{HasTerms, HasVariable, IsPlaced, gathered_is}
use Rattle.mof_round_trip_laws.specs.Renumbered.{found_variable, made_as}
use Rattle.mof_write.specs.Written.{naming}
use Rattle.user_model.specs.Consistent.{IsConsistent}
use Rattle.user_model.specs.Edited.{affine, located}
use Rattle.user_model.specs.Model.{ModelValue, address_named, variable_address, variable_named}
use Rattle.user_model.specs.declared.function.UserFunc.{UserFunc}
use Rattle.user_model.specs.declared.function.UserFunc.TheVariants.{Affine, AffineVec, Plain, PlainVec}
use Rattle.user_model.specs.declared.group.Group.{Group}

module _ (model : ModelValue) (consistent : IsConsistent model) (other : ModelValue)
    (same : other.groups ≡ model.groups) where
  number_there : (at : Address) (h : HasVariableAt model at)
      → variable_named other (naming model at) ≡ Some h.var.number
  number_there at h =
      ap (variable_named other) h.name
      ∙ ap (λ (gs : List Group). option_map (λ v. v.number)
      (find (λ v. bytes_eq v.name h.var.name) (flat_map (λ g. g.vars) gs))) same
      ∙ ap (option_map (λ v. v.number)) (found_variable model consistent h.var h.there)

  address_there : (at : Address) → HasVariableAt model at
      → address_named other (naming model at) ≡ at
  address_there at h =
      ap (λ o. variable_address (unwrap_or o 0)) (number_there at h) ∙ h.address

  located_affine : (f : Function) → HasTerms model f
      → affine other (named_affine (naming model) f) ≡ f
  located_affine f h =
      ap (λ ts. gathered ts f.constant)
      (made_as (named_term (naming model)) (HasVariable model)
      (λ t. (address_named other t.variable, t.coefficient)) (λ t. t)
      (λ t there. ap (λ at. (at, t.1)) (address_there t.0 there)) (terms_of f) h
      ∙ map-id (terms_of f))
      ∙ gathered_is (terms_of f) f.constant (terms_rise f) ∙ function_of-terms f

  pub located_again : (func : UserFunc) → IsPlaced model func
      → located other (named_function (naming model) func) ≡ func
  located_again (Plain var) h = ap Plain (address_there var h)
  located_again (Affine f) h = ap Affine (located_affine f h)
  located_again (PlainVec vars) h =
      ap PlainVec (made_as (naming model) (HasVariableAt model) (address_named other) (λ at. at)
      address_there vars h ∙ map-id vars)
  located_again (AffineVec fs) h =
      ap AffineVec (made_as (named_affine (naming model)) (HasTerms model) (affine other)
      (λ f. f) located_affine fs h ∙ map-id fs)
