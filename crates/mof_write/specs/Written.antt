-- A model as a JSON value.
use Rattle.std.specs.Prelude.{◌≡◌, ℕ, ◌+◌, Bool, Some, true, List, [], ◌∷◌, ◌++◌, map, unwrap_or}
use Rattle.ratio_core.specs.Rational.{Rational}
use Rattle.aff_core.specs.Address.{Address}
use Rattle.aff_core.specs.Function.{Function, terms_of}
use Rattle.aff_core.specs.declared.sense.Sense.{Sense}
use Rattle.aff_core.specs.declared.sense.Sense.TheVariants.{Min, Max}
use Rattle.set_core.specs.Shapes.{is_scalar}
use Rattle.user_model.specs.declared.function.UserFunc.{UserFunc}
use Rattle.user_model.specs.declared.function.UserFunc.TheVariants.{Plain, Affine, PlainVec, AffineVec}
use Rattle.user_model.specs.declared.group.Group.{Group}
use Rattle.user_model.specs.declared.group.GroupVar.{GroupVar}
use Rattle.user_model.specs.declared.objective.Objective.{Objective}
use Rattle.user_model.specs.declared.objective.Objective.TheVariants as objective
use Rattle.user_model.specs.declared.row.Row.{Row}
use Rattle.user_model.specs.Model.{ModelValue, name_at, variables}
use Rattle.serde_json.specs.Data.{Data, string}
use Rattle.std.specs.Str.{IsUtf8}
use Rattle.mof_text.specs.Rewritten.{rewritten}
use Rattle.serde_json.specs.Read.{read}
use Rattle.serde_json.specs.Written.{compact_text}
use Rattle.mof_write.specs.Values.{array_of, count_data, list_of, number_data, object_of, set_data, word}

-- the names of addresses
abbrev pub Naming : Type 0
Naming = Address → List ℕ

-- the name of a variable that stands in the model
abbrev pub naming : ModelValue → Naming
naming model at = unwrap_or (name_at model at) []

abbrev pub address_data : Naming → Address → Data
address_data name at = string (name at)

-- ---- functions

abbrev pub variable_data : List ℕ → Data
variable_data name = object_of (("name", string name) ∷ ("type", word "Variable") ∷ [])

abbrev pub variables_data : List Data → Data
variables_data names =
    object_of (("type", word "VectorOfVariables") ∷ ("variables", list_of names) ∷ [])

abbrev pub term_data : Naming → Address × Rational → Data
term_data name t =
    object_of (("coefficient", number_data t.1) ∷ ("variable", address_data name t.0) ∷ [])

unfoldable pub affine_data : Naming → Function → Data
affine_data name f = object_of (
    ("constant", number_data f.constant)
    ∷ ("terms", array_of (term_data name) (terms_of f))
    ∷ ("type", word "ScalarAffineFunction")
    ∷ [])

-- a term of the k-th component
abbrev pub vector_term_data : Naming → ℕ → Address × Rational → Data
vector_term_data name k t =
    object_of (("output_index", count_data k) ∷ ("scalar_term", term_data name t) ∷ [])

-- the terms of the components after the k-th
abbrev pub vector_terms : Naming → ℕ → List Function → List Data
vector_terms name k [] = []
vector_terms name k (f ∷ fs) =
    map (vector_term_data name (k + 1)) (terms_of f) ++ vector_terms name (k + 1) fs

unfoldable pub vector_affine_data : Naming → List Function → Data
vector_affine_data name fs = object_of (
    ("constants", array_of (λ f. number_data f.constant) fs)
    ∷ ("terms", list_of (vector_terms name 0 fs))
    ∷ ("type", word "VectorAffineFunction")
    ∷ [])

unfoldable pub function_data : Naming → UserFunc → Data
function_data name (Plain var) = variable_data (name var)
function_data name (Affine f) = affine_data name f
function_data name (PlainVec vars) = variables_data (map (address_data name) vars)
function_data name (AffineVec fs) = vector_affine_data name fs

-- ---- constraints

-- the variables of a group with a set of vectors, and the only one of a group with a set of numbers
abbrev pub variables_of : Bool → List GroupVar → Data
variables_of true (v ∷ vs) = variable_data v.name
variables_of scalar vars = variables_data (map (λ v. string v.name) vars)

unfoldable pub group_data : Group → Data
group_data g = object_of (
    ("function", variables_of (is_scalar g.set) g.vars)
    ∷ ("set", set_data g.set)
    ∷ [])

unfoldable pub row_data : Naming → Row → Data
row_data name row = object_of (
    ("function", function_data name row.func)
    ∷ ("name", string row.name)
    ∷ ("set", set_data row.set)
    ∷ [])

-- ---- the model

abbrev pub sense_data : Sense → Data
sense_data Min = word "min"
sense_data Max = word "max"

abbrev pub sought_data : Data → Sense → Data
sought_data func sense = object_of (("function", func) ∷ ("sense", sense_data sense) ∷ [])

unfoldable pub objective_data : Naming → Objective → Data
objective_data name objective.Feasibility = object_of (("sense", word "feasibility") ∷ [])
objective_data name (objective.Plain sense var) = sought_data (variable_data (name var)) sense
objective_data name (objective.Affine sense f) = sought_data (affine_data name f) sense

abbrev pub variable_entry : GroupVar → Data
variable_entry v = object_of (("name", string v.name) ∷ [])

abbrev pub version_data : Data
version_data = object_of (("major", count_data 1) ∷ ("minor", count_data 0) ∷ [])

unfoldable pub model_data : ModelValue → Data
model_data model = object_of ((
  "constraints",
  list_of
      (map group_data model.groups ++ map (row_data (naming model)) model.rows),
)
    ∷ ("objective", objective_data (naming model) model.objective)
    ∷ ("variables", array_of variable_entry (variables model))
    ∷ ("version", version_data)
    ∷ [])

-- the text is one of the value: a reader of JSON finds it there, and no numeral of the text is
-- replaced before it is read
pub record IsTextOf (text : List ℕ) (d : Data) : Type 0 where
  pub utf8 : IsUtf8 text
  pub exact : rewritten text ≡ text
  pub value : read text ≡ Some d

-- the text of a model
unfoldable pub written : ModelValue → List ℕ
written model = compact_text (model_data model)
