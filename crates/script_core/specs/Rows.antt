-- Lines that add rows or replace the objective, by the tokens that follow their first word.
use Rattle.std.specs.Prelude.{[], ◌∷◌, length, Option, None}
use Rattle.aff_core.specs.declared.sense.Sense.{Sense}
use Rattle.name_index.specs.Name.{name_of_token}
use Rattle.user_model.specs.declared.edit.NamedFunc.TheVariants.{Plain, Affine, PlainVec, AffineVec}
use Rattle.user_model.specs.declared.edit.Edit.TheVariants.{AddRow, Objective}
use Rattle.script_core.specs.declared.reading.LineReading.{LineReading}
use Rattle.script_core.specs.Names.{names_of, last_name_of}
use Rattle.script_core.specs.Reading.{TokenList, makes, makes_with}
use Rattle.script_core.specs.Sets.{relation_of, last_named_relation_of, vector_set_of}
use Rattle.script_core.specs.Sums.{function_of, functions_of}
use Rattle.script_core.specs.Terms.{terms_of, function_terms_of, component_terms_of}
use Rattle.script_tokens.specs.Each.{◌>>=◌}

-- bound R X REL
unfoldable pub bound_form : TokenList → Option LineReading
bound_form (row ∷ tokens) = do
  name ← name_of_token row
  variable ← last_named_relation_of tokens
  makes (AddRow name (Plain variable.0) variable.1)
bound_form [] = None

-- row R REL : TERMS
unfoldable pub row_form : TokenList → Option LineReading
row_form (row ∷ word ∷ tokens) = do
  name ← name_of_token row
  relation ← relation_of word tokens
  terms ← function_terms_of relation.1
  makes_with (λ f. AddRow name (Affine f) relation.0) (function_of terms)
row_form _ = None

-- vbound R SET NAMES
unfoldable pub vector_bound_form : TokenList → Option LineReading
vector_bound_form (row ∷ word ∷ variables) = do
  name ← name_of_token row
  vars ← names_of variables
  set ← vector_set_of word (length vars)
  makes (AddRow name (PlainVec vars) set)
vector_bound_form _ = None

-- vrow R SET : TERMS, with `;` between the components
unfoldable pub vector_row_form : TokenList → Option LineReading
vector_row_form (row ∷ word ∷ tokens) = do
  name ← name_of_token row
  components ← component_terms_of tokens
  set ← vector_set_of word (length components)
  makes_with (λ fs. AddRow name (AffineVec fs) set) (functions_of components)
vector_row_form _ = None

-- min TERMS, max TERMS
unfoldable pub objective_form : Sense → TokenList → Option LineReading
objective_form sense tokens = do
  terms ← terms_of tokens
  makes_with (λ f. Objective sense (Affine f)) (function_of terms)

-- minvar X, maxvar X
unfoldable pub objective_variable_form : Sense → TokenList → Option LineReading
objective_variable_form sense tokens = do
  var ← last_name_of tokens
  makes (Objective sense (Plain var))
