-- A file as its JSON value says it: version, variables, objective and constraints, in this order.
use Rattle.std.specs.Prelude.{ℕ, Bool, not, ◌&&◌, ◌==◌, List, [], ◌∷◌, ◌++◌, Option, Some, None, Ok, Err, bytes_eq, codes, is_some, if◌then◌else◌, ⊤}
use Prim.Native.String.{String}
use Rattle.std.specs.List.{list_any}
use Rattle.std.specs.Str.{is_utf8}
use Rattle.aff_core.specs.declared.sense.Sense.{Sense}
use Rattle.aff_core.specs.declared.sense.Sense.TheVariants.{Min, Max}
use Rattle.set_core.specs.declared.set.Set.{Set}
use Rattle.set_core.specs.Shapes.{dimension_of, is_scalar}
use Rattle.user_model.specs.declared.edit.NamedFunc.{NamedFunc}
use Rattle.user_model.specs.Functions.{is_scalar_named, named_components}
use Rattle.serde_json.specs.Data.{Data}
use Rattle.serde_json.specs.Find.{as_object, get}
use Rattle.serde_json.specs.Read.{read}
use Rattle.mof_text.specs.Rewritten.{rewritten}
use Rattle.mof_values.specs.declared.fault.MofFault.TheVariants.{Dimension, DuplicateName, NotJson, Shape, Version}
use Rattle.mof_values.specs.Sets.{is, set_of}
use Rattle.mof_values.specs.Values.{a_name, a_text, an_integer, an_object, each_in, field, name_of}
use Rattle.mof_values.specs.Walked.{Walked, ◌>>=◌, at, here, key, or_fault}
use Rattle.mof_file.specs.declared.constraints.FileConstraint.{FileConstraint}
use Rattle.mof_file.specs.declared.file.MofFile.{MofFile}
use Rattle.mof_file.specs.declared.objectives.FileObjective.{FileObjective}
use Rattle.mof_file.specs.declared.objectives.FileObjective.TheVariants.{Feasibility, Optimize}
use Rattle.mof_file.specs.Functions.{Known, function_of_any, objective_function_of}

-- what a file says
pub record FileValue : Type 0 where
  pub variables : Known
  pub objective : FileObjective
  pub constraints : List FileConstraint

-- what a walk gives of what stands at a key, if that is there
abbrev pub walk_found : {A : Type 0} → A → (Data → Walked A) → List ℕ → Option Data → Walked A
walk_found missing walk part (Some e) = at part (walk e)
walk_found missing walk part None = Ok missing

abbrev pub optional : {A : Type 0} → A → (Data → Walked A) → String → Data → Walked A
optional missing walk name d = walk_found missing walk (key name) (get (codes name) d)

-- ---- the version

unfoldable pub major_of : Data → Walked ⊤
major_of d = do
  major ← an_integer d
  if major == 1 then Ok tt else Err (Version here)

unfoldable pub version_of : Data → Walked ⊤
version_of d = do
  _ ← an_object d
  _ ← field major_of "major" d
  _ ← field an_integer "minor" d
  Ok tt

-- ---- variables

-- one name more, which no variable has
abbrev pub with_name : Known → List ℕ → Walked Known
with_name known name =
    if list_any (bytes_eq name) known then at (key "name") (Err (DuplicateName here))
    else Ok (known ++ name ∷ [])

unfoldable pub add_name : Known → Data → Walked Known
add_name known d = do
  name ← field a_name "name" d
  with_name known name

unfoldable pub add_variable : Known → Data → Walked Known
add_variable known d = do
  _ ← an_object d
  add_name known d

unfoldable pub variables_of : Data → Walked Known
variables_of d = each_in add_variable [] d

-- ---- the objective

-- a sense, and none for feasibility
unfoldable pub sense_named : List ℕ → Option (Option Sense)
sense_named text =
    if is "feasibility" text then Some None
    else (if is "min" text then Some (Some Min)
    else (if is "max" text then Some (Some Max)
    else None))

unfoldable pub sense_of : Data → Walked (Option Sense)
sense_of d = do
  text ← a_text d
  or_fault (Shape here) (sense_named text)

unfoldable pub sensed_of : Known → Option Sense → Data → Walked FileObjective
sensed_of known None d = Ok Feasibility
sensed_of known (Some sense) d = do
  func ← field (objective_function_of known) "function" d
  Ok (Optimize sense func)

unfoldable pub objective_of : Known → Data → Walked FileObjective
objective_of known d = do
  _ ← an_object d
  sense ← field sense_of "sense" d
  sensed_of known sense d

-- ---- constraints

-- a vector function has as many components as its vector set's dimension
abbrev pub is_unequal : NamedFunc → Set → Bool
is_unequal func set =
    not (is_scalar_named func) && not (is_scalar set)
    && not (named_components func == dimension_of set)

unfoldable pub set_for : NamedFunc → Data → Walked Set
set_for func d = do
  set ← set_of d
  if is_unequal func set then at (key "dimension") (Err (Dimension here)) else Ok set

-- the name, where a row can have it
unfoldable pub row_name_of : Data → Walked (Option (List ℕ))
row_name_of d = do
  text ← a_text d
  Ok (name_of text)

unfoldable pub named_constraint_of : NamedFunc → Set → Data → Walked FileConstraint
named_constraint_of func set d = do
  name ← optional None row_name_of "name" d
  Ok (record { name = name; func = func; set = set })

unfoldable pub function_in_set_of : Known → Data → Walked FileConstraint
function_in_set_of known d = do
  func ← field (function_of_any known) "function" d
  set ← field (set_for func) "set" d
  named_constraint_of func set d

unfoldable pub constraint_of : Known → Data → Walked FileConstraint
constraint_of known d = do
  _ ← an_object d
  function_in_set_of known d

unfoldable pub add_constraint : Known → List FileConstraint → Data → Walked (List FileConstraint)
add_constraint known cs d = do
  c ← constraint_of known d
  Ok (cs ++ c ∷ [])

unfoldable pub constraints_of : Known → Data → Walked (List FileConstraint)
constraints_of known d = each_in (add_constraint known) [] d

-- ---- the file

unfoldable pub parts_of : Known → Data → Walked FileValue
parts_of known d = do
  objective ← optional Feasibility (objective_of known) "objective" d
  constraints ← optional [] (constraints_of known) "constraints" d
  Ok (record { variables = known; objective = objective; constraints = constraints })

unfoldable pub members_of : Data → Walked FileValue
members_of d = do
  _ ← field version_of "version" d
  known ← field variables_of "variables" d
  parts_of known d

-- the place of a text that is no object
abbrev pub whole : List ℕ
whole = codes "-"

unfoldable pub file_of : Data → Walked FileValue
file_of d = if is_some (as_object d) then members_of d else Err (Shape whole)

-- the JSON value of a text, whose numerals are exact
unfoldable pub json_of : List ℕ → Option Data
json_of text = if is_utf8 (rewritten text) then read (rewritten text) else None

unfoldable pub file_in : List ℕ → Walked FileValue
file_in text = do
  d ← or_fault (NotJson whole) (json_of text)
  file_of d

-- a file as it is kept
abbrev pub seen : MofFile → FileValue
seen file = record {
  variables = file.variables.keys;
  objective = file.objective;
  constraints = file.constraints.items;
}
