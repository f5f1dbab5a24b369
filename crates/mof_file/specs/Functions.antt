-- Functions of a file, over the names of its variables.
use Rattle.std.specs.Prelude.{ℕ, ◌-◌, Bool, ◌&&◌, List, [], ◌∷◌, ◌++◌, length, Option, Ok, Err, nat_le, nat_lt, slice_get, slice_set, bytes_eq, option_and_then, option_map, if◌then◌else◌}
use Rattle.std.specs.List.{list_any}
use Rattle.name_index.specs.Name.{is_name}
use Rattle.named_aff.specs.declared.aff.NamedAff.{NamedAff}
use Rattle.named_aff.specs.declared.terms.NamedTerm.{NamedTerm}
use Rattle.named_aff.specs.Sums.{plus_term, with_term}
use Rattle.user_model.specs.declared.edit.NamedFunc.{NamedFunc}
use Rattle.user_model.specs.declared.edit.NamedFunc.TheVariants as named
use Rattle.serde_json.specs.Data.{Data}
use Rattle.mof_values.specs.declared.fault.MofFault.TheVariants.{BadNumber, Shape, UnknownName}
use Rattle.mof_values.specs.Sets.{by_kind, is, kind_fault}
use Rattle.mof_values.specs.Values.{a_number, a_text, an_integer, an_object, each_in, field}
use Rattle.mof_values.specs.Walked.{Walked, ◌>>=◌, here, mapped, or_fault}

-- the names of the file's variables
abbrev pub Known : Type 0
Known = List (List ℕ)

-- the text is the name of one of them
abbrev pub is_known : Known → List ℕ → Bool
is_known known text = is_name text && list_any (bytes_eq text) known

unfoldable pub variable_of : Known → Data → Walked (List ℕ)
variable_of known d = do
  text ← a_text d
  if is_known known text then Ok text else Err (UnknownName here)

-- ---- terms

unfoldable pub linear_term_of : Known → Data → Walked NamedTerm
linear_term_of known d = do
  coefficient ← field a_number "coefficient" d
  variable ← field (variable_of known) "variable" d
  Ok (record { variable = variable; coefficient = coefficient })

unfoldable pub term_of : Known → Data → Walked NamedTerm
term_of known d = do
  _ ← an_object d
  linear_term_of known d

-- the terms with one more, which is added to the term of its variable
unfoldable pub add_term : Known → List NamedTerm → Data → Walked (List NamedTerm)
add_term known terms d = do
  term ← term_of known d
  or_fault (BadNumber here) (with_term terms term)

-- ---- functions of numbers

unfoldable pub terms_of : Known → Data → Walked (List NamedTerm)
terms_of known d = each_in (add_term known) [] d

unfoldable pub affine_of : Known → Data → Walked NamedAff
affine_of known d = do
  terms ← field (terms_of known) "terms" d
  constant ← field a_number "constant" d
  Ok (record { terms = terms; constant = constant })

-- ---- functions of vectors

unfoldable pub add_variable : Known → List (List ℕ) → Data → Walked (List (List ℕ))
add_variable known names d = do
  name ← variable_of known d
  Ok (names ++ name ∷ [])

unfoldable pub variables_of : Known → Data → Walked (List (List ℕ))
variables_of known d = each_in (add_variable known) [] d

unfoldable pub add_component : List NamedAff → Data → Walked (List NamedAff)
add_component fs d = do
  constant ← a_number d
  Ok (fs ++ record { terms = []; constant = constant } ∷ [])

unfoldable pub constants_of : Data → Walked (List NamedAff)
constants_of d = each_in add_component [] d

-- the components with one term more in that at this place
abbrev pub with_term_at : List NamedAff → ℕ → NamedTerm → Option (List NamedAff)
with_term_at fs n term =
    option_and_then (λ f. option_map (λ sum. slice_set fs n sum) (plus_term f term))
    (slice_get fs n)

-- the place of the output, which are counted from 1
unfoldable pub output_of : List NamedAff → Data → Walked ℕ
output_of fs d = do
  output ← an_integer d
  if nat_lt 0 output && nat_le output (length fs) then Ok (output - 1) else Err (Shape here)

unfoldable pub add_scalar_term : Known → List NamedAff → ℕ → Data → Walked (List NamedAff)
add_scalar_term known fs n d = do
  term ← field (term_of known) "scalar_term" d
  or_fault (BadNumber here) (with_term_at fs n term)

unfoldable pub add_to_output : Known → List NamedAff → Data → Walked (List NamedAff)
add_to_output known fs d = do
  n ← field (output_of fs) "output_index" d
  add_scalar_term known fs n d

unfoldable pub add_vector_term : Known → List NamedAff → Data → Walked (List NamedAff)
add_vector_term known fs d = do
  _ ← an_object d
  add_to_output known fs d

unfoldable pub vector_terms_of : Known → List NamedAff → Data → Walked (List NamedAff)
vector_terms_of known fs d = each_in (add_vector_term known) fs d

unfoldable pub vector_affine_of : Known → Data → Walked (List NamedAff)
vector_affine_of known d = do
  constants ← field constants_of "constants" d
  field (vector_terms_of known constants) "terms" d

-- ---- functions by their types

unfoldable pub scalar_function_of : Known → List ℕ → Data → Walked NamedFunc
scalar_function_of known type d =
    if is "Variable" type
    then mapped named.Plain (field (variable_of known) "name" d)
    else (if is "ScalarAffineFunction" type
    then mapped named.Affine (affine_of known d)
    else Err kind_fault)

unfoldable pub typed_function_of : Known → List ℕ → Data → Walked NamedFunc
typed_function_of known type d =
    if is "VectorOfVariables" type
    then mapped named.PlainVec (field (variables_of known) "variables" d)
    else (if is "VectorAffineFunction" type
    then mapped named.AffineVec (vector_affine_of known d)
    else scalar_function_of known type d)

-- a function of numbers
unfoldable pub objective_function_of : Known → Data → Walked NamedFunc
objective_function_of known d = by_kind (scalar_function_of known) d

-- a function of any type
unfoldable pub function_of_any : Known → Data → Walked NamedFunc
function_of_any known d = by_kind (typed_function_of known) d
