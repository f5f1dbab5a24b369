-- Edits, one after another, that pass each test but those of limits, and the model that they lead to.
use Rattle.std.specs.Prelude.{◌≡◌, false, List, [], ◌∷◌}
use Rattle.user_model.specs.Edited.{edited}
use Rattle.user_model.specs.Model.{ModelValue, has_lower_bound, has_upper_bound}
use Rattle.user_model.specs.Refusals.{meets_bad_dimension, meets_bad_interval, meets_bound_already_set, meets_delete_not_allowed, meets_function_shape, meets_name_taken, meets_output_index, meets_set_type_mismatch, meets_unknown_name}
use Rattle.user_model.specs.Sets.{sets_lower, sets_upper}
use Rattle.user_model.specs.declared.edit.Edit.{Edit}

-- the edit passes each test but those of limits
pub record PassesTests (m : ModelValue) (e : Edit) : Type 0 where
  pub known : meets_unknown_name m e ≡ false
  pub free : meets_name_taken m e ≡ false
  pub shaped : meets_function_shape m e ≡ false
  pub dimension : meets_bad_dimension m e ≡ false
  pub output : meets_output_index m e ≡ false
  pub interval : meets_bad_interval e ≡ false
  pub lower : meets_bound_already_set sets_lower has_lower_bound m e ≡ false
  pub upper : meets_bound_already_set sets_upper has_upper_bound m e ≡ false
  pub of_type : meets_set_type_mismatch m e ≡ false
  pub deletable : meets_delete_not_allowed m e ≡ false

-- each of the edits does, on the model that those before it make
abbrev pub AllPass : ModelValue → List Edit → Type 0
AllPass m [] = Unit {0}
AllPass m (e ∷ es) = PassesTests m e × AllPass (edited m e) es

-- what edits make of a model, none of them refused
abbrev pub all_edited : ModelValue → List Edit → ModelValue
all_edited model [] = model
all_edited model (e ∷ es) = all_edited (edited model e) es

-- the edits lead to this model, unless a limit is passed
pub record Leads (from : ModelValue) (edits : List Edit) (to : ModelValue) : Type 0 where
  pub passes : AllPass from edits
  pub is : all_edited from edits ≡ to
