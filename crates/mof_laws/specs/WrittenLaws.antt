-- What is read of the text of a valid model is what the model says.
use Rattle.std.specs.Prelude.{◌≡◌, ◌≢◌, ℕ, All, AllPairs, Bool, true, false, List, [], ◌∷◌, ◌++◌, length, map, Option, Some, None, Ok, bytes_eq, codes, is_some, slice_index_or, refl}
use Rattle.std.specs.List.{list_any}
use Rattle.std.specs.Str.{is_utf8}
use Rattle.std.proofs.Common.{ap, arith, cond, sym, ◌∙◌}
use Rattle.std.proofs.lemmas.Bool.{cond-false, cond-true, false_from_ne_true, or_from}
use Rattle.std.proofs.lemmas.List.{length-map}
use Rattle.std.proofs.lemmas.List.Elements.{All-head, All-tail, Contains-get_or}
use Rattle.std.proofs.lemmas.List.Folds.{list_any-append}
use Rattle.std.proofs.lemmas.Slice.Eq.{bytes_eq-Decides}
use Rattle.std.proofs.lemmas.Str.{is_utf8-from_IsUtf8}
use Rattle.name_index.specs.Name.{IsName, is_name}
use Rattle.set_core.specs.Shapes.{dimension_of, is_scalar}
use Rattle.set_core.specs.declared.set.Set.{Set}
use Rattle.set_core.specs.ShapeLaws.{scalar_one}
use Rattle.user_model.specs.declared.edit.NamedFunc.{NamedFunc}
use Rattle.user_model.specs.declared.function.UserFunc.{UserFunc}
use Rattle.user_model.specs.declared.function.UserFunc.TheVariants.{Plain, Affine, PlainVec, AffineVec}
use Rattle.user_model.specs.declared.group.Group.{Group}
use Rattle.user_model.specs.declared.group.GroupVar.{GroupVar}
use Rattle.user_model.specs.declared.row.Row.{Row}
use Rattle.user_model.specs.Functions.{components, named_components}
use Rattle.user_model.specs.Model.{ModelValue, variables}
use Rattle.user_model.specs.Valid.{IsValid, IsValidGroup, IsValidRow}
use Rattle.map_laws.specs.PairLaws.{AllPairs-head, AllPairs-tail}
use Rattle.model_laws.specs.Located.{stands_in_joined}
use Rattle.serde_json.specs.Data.{Data, string}
use Rattle.serde_json.specs.Find.{as_object, get}
use Rattle.serde_json.specs.Read.{read}
use Rattle.mof_values.specs.declared.fault.MofFault.TheVariants.{NotJson, Shape}
use Rattle.mof_values.specs.Values.{a_name, a_text, an_array, an_integer, an_object, field, field_at, index_in, name_of, number_of, walk_at}
use Rattle.mof_values.specs.Walked.{◌>>=◌, here, or_fault}
use Rattle.name_index.proofs.NameLemmas.{is_name-from_IsName}
use Rattle.ratio_core.specs.Rational.{whole_ℚ}
use Rattle.mof_file.specs.declared.constraints.FileConstraint.{FileConstraint}
use Rattle.mof_file.specs.declared.objectives.FileObjective.{FileObjective}
use Rattle.mof_file.specs.declared.objectives.FileObjective.TheVariants as file
use Rattle.mof_file.specs.File.{FileValue, add_constraint, add_name, add_variable, constraint_of, constraints_of, file_in, file_of, function_in_set_of, json_of, major_of, members_of, named_constraint_of, objective_of, optional, parts_of, row_name_of, set_for, variables_of, version_of, whole, with_name}
use Rattle.mof_file.specs.Functions.{Known, function_of_any, is_known}
use Rattle.mof_write.specs.Values.{array_of, list_of, set_data}
use Rattle.mof_write.specs.Written.{IsTextOf, Naming, function_data, group_data, model_data, naming, objective_data, row_data, variable_entry, version_data}
use Rattle.mof_write.specs.Written as written
use Rattle.mof_laws.specs.FileLaws.{IsReadableFunc, function_back, objective_back, one_back, set_for_back, several_back}
use Rattle.mof_laws.specs.ModelLaws.{readable_objective, readable_row}
use Rattle.mof_write.specs.Sayable.{HasName, IsSayable, SetFits}
use Rattle.mof_laws.specs.ReadBack.{group_constraint, group_function, named_affine, named_function, row_constraint, said_objective, said_of, var_names}
use Rattle.mof_laws.specs.VariableLaws.{name_known, names_in}
use Rattle.mof_laws.specs.WalkLaws.{AllGood, always_good, each_appends, each_then, field_back, found_back, object_then}

-- ---- the text

-- a reader of files finds the value in its text
pub found_in : (text : List ℕ) (d : Data) → IsTextOf text d → json_of text ≡ Some d
unfolding json_of
found_in text d h =
    ap (λ t. cond (is_utf8 t) (read t) None) h.exact
    ∙ cond-true (is_utf8 text) (read text) None (is_utf8-from_IsUtf8 text h.utf8)
    ∙ h.value

-- ---- the version

version_back : version_of version_data ≡ Ok tt
unfolding version_of major_of an_integer number_of index_in whole_ℚ an_object walk_at field_at
version_back = refl

-- ---- variables

-- a variable behind others
abbrev GoodVariable : List (List ℕ) → GroupVar → Type 0
GoodVariable s v = IsName v.name × (list_any (bytes_eq v.name) s ≡ false)

name_is : (n : List ℕ) → IsName n → name_of n ≡ Some n
name_is n h = cond-true (is_name n) (Some n) None (is_name-from_IsName n h)

name_back : (n : List ℕ) → IsName n → a_name (string n) ≡ Ok n
unfolding a_name a_text
name_back n is = ap (or_fault (Shape here)) (name_is n is)

variable_step : (s : List (List ℕ)) (v : GroupVar) → GoodVariable s v
    → add_variable s (variable_entry v) ≡ Ok (s ++ v.name ∷ [])
unfolding add_variable add_name an_object
variable_step s v h =
    ap (λ w. w >>= (λ n. with_name s n))
    (field_back a_name (codes "name") (variable_entry v) (string v.name) v.name refl
    (name_back v.name h.0))
    ∙ cond-false _ _ _ h.1

good_variables : (s : List (List ℕ)) (vs : List GroupVar) → All HasName vs
    → All {X = GroupVar} (λ v. list_any (bytes_eq v.name) s ≡ false) vs
    → AllPairs {X = GroupVar} (λ v w. v.name ≢ w.name) vs
    → AllGood {X = GroupVar} (λ v. v.name) GoodVariable s vs
good_variables s [] names absent apart = tt
good_variables s (v ∷ vs) names absent apart = (
  (All-head HasName v vs names, All-head (λ v. list_any (bytes_eq v.name) s ≡ false) v vs absent),
  good_variables (s ++ v.name ∷ []) vs (All-tail HasName v vs names)
      (λ k d within. still (slice_index_or vs k d)
      (All-tail (λ v. list_any (bytes_eq v.name) s ≡ false) v vs absent k d within)
      (AllPairs-head (λ v w. v.name ≢ w.name) v vs apart k d within))
      (AllPairs-tail (λ v w. v.name ≢ w.name) v vs apart),
)
  where
    still : (u : GroupVar) → list_any (bytes_eq u.name) s ≡ false → v.name ≢ u.name
        → list_any (bytes_eq u.name) (s ++ v.name ∷ []) ≡ false
    still u before other =
        list_any-append (bytes_eq u.name) s (v.name ∷ [])
        ∙ or_from _ _ before (or_from _ _
        (false_from_ne_true _ (λ e. other (sym ((bytes_eq-Decides u.name v.name).0 e)))) refl)

variables_back : (vs : List GroupVar) → All HasName vs
    → AllPairs {X = GroupVar} (λ v w. v.name ≢ w.name) vs
    → variables_of (array_of variable_entry vs) ≡ Ok (var_names vs)
unfolding variables_of an_array
variables_back vs names apart =
    each_appends add_variable variable_entry (λ v. v.name) GoodVariable variable_step 0 [] vs
    (good_variables [] vs names (λ k d within. refl) apart)

-- ---- constraints

abbrev constraint_with : Option (List ℕ) → NamedFunc → Set → FileConstraint
constraint_with name func set = record { name = name; func = func; set = set }

constraint_from : (known : Known) (d f s : Data) (func : NamedFunc) (set : Set)
    (name : Option (List ℕ))
    → is_some (as_object d) ≡ true
    → get (codes "function") d ≡ Some f → function_of_any known f ≡ Ok func
    → get (codes "set") d ≡ Some s → set_for func s ≡ Ok set
    → optional None row_name_of "name" d ≡ Ok name
    → constraint_of known d ≡ Ok (constraint_with name func set)
unfolding constraint_of function_in_set_of named_constraint_of
constraint_from known d f s func set name object at_function read at_set in_set called =
    object_then d (function_in_set_of known d) object
    ∙ ap (λ w. w >>= (λ func. field (set_for func) "set" d
    >>= (λ set. named_constraint_of func set d)))
    (field_back (function_of_any known) (codes "function") d f func at_function read)
    ∙ ap (λ w. w >>= (λ set. named_constraint_of func set d))
    (field_back (set_for func) (codes "set") d s set at_set in_set)
    ∙ ap (λ w. w >>= (λ n. Ok (constraint_with n func set))) called

-- a name that a row has
named_back : (row : Row) (name : Naming) → IsName row.name
    → optional None row_name_of "name" (row_data name row) ≡ Ok (Some row.name)
unfolding row_data row_name_of a_text
named_back row name is =
    found_back row_name_of (codes "name") (row_data name row) (string row.name) (Some row.name) refl
    (ap Ok (name_is row.name is)) None

module _ (known : Known) where
  -- the variables of a group
  members_back : (scalar : Bool) (vars : List GroupVar)
      → All {X = GroupVar} (λ v. is_known known v.name ≡ true) vars
      → function_of_any known (written.variables_of scalar vars) ≡ Ok (group_function scalar vars)
  members_back true [] h = several_back {X = GroupVar} known (λ v. v.name) [] h
  members_back true (v ∷ vs) h =
      one_back known v.name (All-head (λ w. is_known known w.name ≡ true) v vs h)
  members_back false vars h = several_back {X = GroupVar} known (λ v. v.name) vars h

  group_size : (scalar : Bool) (vars : List GroupVar) (n : ℕ) → n ≡ length vars
      → (scalar ≡ true → n ≡ 1)
      → named_components (group_function scalar vars) ≡ n
  group_size true [] n e one = e'
    where
      e' : 0 ≡ n
      e' = sym e
  group_size true (v ∷ vs) n e one = sym (one refl)
  group_size false vars n e one = length-map vars (λ v. v.name) ∙ sym e

  group_back : (g : Group) → IsValidGroup g → SetFits g.set
      → All {X = GroupVar} (λ v. is_known known v.name ≡ true) g.vars
      → constraint_of known (group_data g) ≡ Ok (group_constraint g)
  unfolding group_data
  group_back g h fits names =
      constraint_from known (group_data g) (written.variables_of (is_scalar g.set) g.vars)
      (set_data g.set)
      (group_function (is_scalar g.set) g.vars) g.set None refl refl
      (members_back (is_scalar g.set) g.vars names) refl
      (set_for_back (group_function (is_scalar g.set) g.vars) g.set fits
      (omega (arith, h.limit, h.set.dimension))
      (group_size (is_scalar g.set) g.vars (dimension_of g.set) h.set.dimension (scalar_one g.set)))
      refl

module _ (name : Naming) (known : Known) where
  pub function_size : (func : UserFunc)
      → named_components (named_function name func) ≡ components func
  function_size (Plain var) = refl
  function_size (Affine f) = refl
  function_size (PlainVec vars) = length-map vars name
  function_size (AffineVec fs) = length-map fs (named_affine name)

  row_back : {groups : List Group} (row : Row) → IsValidRow groups row → SetFits row.set
      → IsName row.name
      → IsReadableFunc name known row.func
      → constraint_of known (row_data name row) ≡ Ok (row_constraint name row)
  unfolding row_data
  row_back row h fits is readable =
      constraint_from known (row_data name row) (function_data name row.func) (set_data row.set)
      (named_function name row.func) row.set (Some row.name) refl refl
      (function_back name known row.func readable) refl
      (set_for_back (named_function name row.func) row.set fits
      (omega (arith, h.limit, h.set.dimension))
      (function_size row.func ∙ sym h.set.dimension))
      (named_back row name is)

module _ {X : Type 0} (known : Known) (f : X → Data) (g : X → FileConstraint) where
  -- one constraint more
  constraint_step : (s : List FileConstraint) (x : X) → constraint_of known (f x) ≡ Ok (g x)
      → add_constraint known s (f x) ≡ Ok (s ++ g x ∷ [])
  unfolding add_constraint
  constraint_step s x e = ap (λ w. w >>= (λ c. Ok (s ++ c ∷ []))) e

module _ (model : ModelValue) (valid : IsValid model) (say : IsSayable model) where
  abbrev name : Naming
  name = naming model

  abbrev known : Known
  known = var_names (variables model)

  groups_good : All {X = Group}
      (λ g. constraint_of known (group_data g) ≡ Ok (group_constraint g)) model.groups
  groups_good = λ k d within.
      let g = slice_index_or model.groups k d in
      group_back known g (valid.parts.valid_groups k d within) (say.groups k d within)
      (λ j v inside. name_known (variables model) (slice_index_or g.vars j v)
      (stands_in_joined (λ g. g.vars) model.groups g (slice_index_or g.vars j v)
      (Contains-get_or model.groups k d within) (Contains-get_or g.vars j v inside))
      (say.names k d within j v inside))

  rows_good : All {X = Row}
      (λ r. constraint_of known (row_data name r) ≡ Ok (row_constraint name r)) model.rows
  rows_good = λ k d within.
      let r = slice_index_or model.rows k d in
      row_back name known r (valid.parts.valid_rows k d within) (say.rows k d within).set
      (say.rows k d within).name
      (readable_row model valid.consistent (names_in model.groups say.names) r
      (valid.parts.valid_rows k d within) (say.rows k d within).function)

  constraints_back : constraints_of known
      (list_of (map group_data model.groups ++ map (row_data name) model.rows))
      ≡ Ok (map group_constraint model.groups ++ map (row_constraint name) model.rows)
  unfolding constraints_of an_array
  constraints_back =
      each_then (add_constraint known) group_data group_constraint
      (λ _ g. constraint_of known (group_data g) ≡ Ok (group_constraint g))
      (constraint_step known group_data group_constraint) (map (row_data name) model.rows)
      (Ok (map group_constraint model.groups ++ map (row_constraint name) model.rows)) []
      model.groups
      (always_good group_constraint
      (λ g. constraint_of known (group_data g)
      ≡ Ok (group_constraint g)) [] model.groups groups_good)
      (λ j. each_appends (add_constraint known) (row_data name) (row_constraint name)
      (λ _ r. constraint_of known (row_data name r) ≡ Ok (row_constraint name r))
      (constraint_step known (row_data name) (row_constraint name)) j
      (map group_constraint model.groups) model.rows
      (always_good (row_constraint name)
      (λ r. constraint_of known (row_data name r) ≡ Ok (row_constraint name r))
      (map group_constraint model.groups) model.rows rows_good)) 0

  abbrev value_with : FileObjective → List FileConstraint → FileValue
  value_with o cs = record { variables = known; objective = o; constraints = cs }

  parts_back : parts_of known (model_data model) ≡ Ok (said_of model)
  unfolding parts_of model_data said_of
  parts_back =
      ap (λ w. w >>= (λ o. optional [] (constraints_of known) "constraints" (model_data model)
      >>= (λ cs. Ok (value_with o cs))))
      (found_back (objective_of known) (codes "objective") (model_data model)
      (objective_data name model.objective)
      (said_objective name model.objective) refl
      (objective_back name known model.objective
      (readable_objective model valid.consistent
      (names_in model.groups say.names) model.objective valid.parts.valid_objective say.objective))
      file.Feasibility)
      ∙ ap (λ w. w >>= (λ cs. Ok (value_with (said_objective name model.objective) cs)))
      (found_back (constraints_of known) (codes "constraints") (model_data model)
      (list_of (map group_data model.groups ++ map (row_data name) model.rows))
      (map group_constraint model.groups ++ map (row_constraint name) model.rows) refl
      constraints_back [])

  pub file_back : file_of (model_data model) ≡ Ok (said_of model)
  unfolding file_of members_of model_data
  file_back =
      ap (λ w. w >>= (λ _. field variables_of "variables" (model_data model)
      >>= (λ known. parts_of known (model_data model))))
      (field_back version_of (codes "version") (model_data model) version_data tt refl version_back)
      ∙ ap (λ w. w >>= (λ known. parts_of known (model_data model)))
      (field_back variables_of (codes "variables") (model_data model)
      (array_of variable_entry (variables model)) known refl
      (variables_back (variables model)
      (names_in model.groups say.names) valid.consistent.variable_names))
      ∙ parts_back

  -- a text in which the model's value is found says the model
  pub text_back : (text : List ℕ) → json_of text ≡ Some (model_data model)
      → file_in text ≡ Ok (said_of model)
  unfolding file_in
  text_back text e = ap (λ o. or_fault (NotJson whole) o >>= (λ d. file_of d)) e ∙ file_back
