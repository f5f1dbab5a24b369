-- The edits that are read of a written text are those that make the model from an empty one.
use Rattle.std.specs.Prelude.{◌≡◌, ◌≢◌, ℕ, suc, All, AllPairs, false, refl, List, [], ◌∷◌, ◌++◌, length, map, Ok, bytes_eq, slice_index_or}
use Rattle.std.proofs.Common.{ap, arith, sym, ◌∙◌}
use Rattle.std.proofs.lemmas.Bool.{and_parts, false_from_ne_true}
use Rattle.std.proofs.lemmas.Slice.Eq.{bytes_eq-Decides}
use Rattle.set_core.specs.ShapeLaws.{scalar_one}
use Rattle.aff_core.specs.Address.{Address}
use Rattle.user_model.specs.declared.function.UserFunc.{UserFunc}
use Rattle.user_model.specs.declared.function.UserFunc.TheVariants.{Plain, Affine, PlainVec, AffineVec}
use Rattle.user_model.specs.declared.group.GroupVar.{GroupVar}
use Rattle.user_model.specs.declared.row.Row.{Row}
use Rattle.user_model.specs.Model.{ModelValue, variables}
use Rattle.user_model.specs.Valid.{IsValid}
use Rattle.name_index.specs.Name.{is_name}
use Rattle.mof_values.specs.Walked.{◌>>=◌}
use Rattle.mof_read.specs.Edits.{edits_in, edits_of, objective_edits, sorted_in, sorted_of}
use Rattle.mof_read.specs.Groups.{in_order}
use Rattle.mof_read.specs.Names.{all_names}
use Rattle.mof_write.specs.Written.{IsTextOf, Naming, model_data, naming}
use Rattle.mof_laws.specs.EditLaws.{IsOwned, IsOwnedFunc, IsOwnedRow, all_groups, all_rows, edits_for, in_order_is, own_groups, own_rows, row_edit, some_components, some_edit, sorted_with}
use Rattle.mof_laws.specs.FileLaws.{IsReadableFunc}
use Rattle.mof_laws.specs.FunctionLaws.{ApartBy, IsNameKnown}
use Rattle.mof_laws.specs.ModelLaws.{readable_row}
use Rattle.mof_laws.specs.OwnerLaws.{Other, all_owned, known_owned, owned}
use Rattle.mof_laws.specs.VariableLaws.{names_in}
use Rattle.mof_write.specs.Sayable.{IsSayable}
use Rattle.mof_laws.specs.ReadBack.{group_constraint, row_constraint, said_objective, said_of, var_names}
use Rattle.mof_laws.specs.WrittenLaws.{found_in, text_back}

-- items with distinct names
from_pairs : {X : Type 0} (name_of : X → List ℕ) (xs : List X)
    → AllPairs {X = X} (λ x y. name_of x ≢ name_of y) xs
    → ApartBy {X = X} (λ x y. bytes_eq (name_of y) (name_of x) ≡ false) xs
from_pairs name_of [] h = tt
from_pairs name_of (x ∷ xs) h = (
  (λ k d within. false_from_ne_true _ (λ e. h 0 (suc k) d (omega arith) (omega arith)
      (sym ((bytes_eq-Decides (name_of (slice_index_or xs k d)) (name_of x)).0 e)))),
  from_pairs name_of xs (λ i j d below within. h (suc i) (suc j) d (omega arith) (omega arith)),
)

module _ (model : ModelValue) (valid : IsValid model) (say : IsSayable model) where
  abbrev name : Naming
  name = naming model

  abbrev owners : List (List ℕ × ℕ)
  owners = owned 0 model.groups

  named_owned : (at : Address) → IsNameKnown name (var_names (variables model)) at
      → IsOwned name owners at
  named_owned at h = known_owned (name at) model.groups (and_parts (is_name (name at)) _ h).1

  func_owned : (func : UserFunc) → IsReadableFunc name (var_names (variables model)) func
      → IsOwnedFunc name owners func
  func_owned (Plain var) h = named_owned var h
  func_owned (Affine f) h = tt
  func_owned (PlainVec vars) h = λ k d within. named_owned (slice_index_or vars k d) (h k d within)
  func_owned (AffineVec fs) h = tt

  rows_owned : All (IsOwnedRow name owners) model.rows
  rows_owned = λ k d within.
      let r = slice_index_or model.rows k d in
      func_owned r.func (readable_row model valid.consistent (names_in model.groups say.names) r
      (valid.parts.valid_rows k d within) (say.rows k d within).function)

  variables_apart : ApartBy Other (variables model)
  variables_apart =
      from_pairs {X = GroupVar} (λ v. v.name) (variables model) valid.consistent.variable_names

  sorted_is : sorted_of (map group_constraint model.groups ++ map (row_constraint name) model.rows)
      ≡ sorted_with (map some_edit model.groups) owners (map (row_edit name) model.rows)
  unfolding sorted_of
  sorted_is =
      let cs = map group_constraint model.groups ++ map (row_constraint name) model.rows in
      ap (sorted_in (all_names [] cs))
      (own_groups [] model.groups (map (row_constraint name) model.rows)
      ∙ ap (λ ds. map group_constraint model.groups ++ ds)
      (own_rows name [] model.rows (λ k d within. refl)
      (from_pairs {X = Row} (λ r. r.name) model.rows valid.consistent.row_names)))
      ∙ all_groups (all_names [] cs) (length cs) (map (row_constraint name) model.rows)
      (sorted_with (map some_edit model.groups) owners (map (row_edit name) model.rows)) 0 [] []
      model.groups
      valid.parts.valid_groups
      (λ k d within is. sym ((valid.parts.valid_groups k d within).set.dimension)
      ∙ scalar_one (slice_index_or model.groups k d).set is)
      (λ k d within. refl) variables_apart
      (λ j. all_rows name owners (all_names [] cs) (length cs) j
      (map some_edit model.groups) [] model.rows rows_owned)

  edits_are : edits_of (said_of model) ≡ edits_for model
  unfolding edits_of said_of edits_for
  edits_are =
      ap (λ s. in_order s.owners s.groups (var_names (variables model)) ++ s.rows
      ++ objective_edits (said_objective name model.objective)) sorted_is
      ∙ ap (λ es. es ++ map (row_edit name) model.rows ++ objective_edits
      (said_objective name model.objective))
      (in_order_is owners [] model.groups
      (λ k d within. some_components (slice_index_or model.groups k d).set
      (length (slice_index_or model.groups k d).vars)
      (valid.parts.valid_groups k d within).set)
      (all_owned [] 0 model.groups (λ k d within. refl) variables_apart))

  -- a text of the model's value gives the model's edits
  pub reads_back : (text : List ℕ) → IsTextOf text (model_data model)
      → edits_in text ≡ Ok (edits_for model)
  unfolding edits_in
  reads_back text h =
      ap (λ w. w >>= (λ file. Ok (edits_of file)))
      (text_back model valid say text (found_in text (model_data model) h))
      ∙ ap Ok edits_are
