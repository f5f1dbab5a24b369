-- Lines that change what stands, by the tokens that follow their first word.
use Rattle.std.specs.Prelude.{[], ◌∷◌, Option, None}
use Rattle.name_index.specs.Name.{name_of_token}
use Rattle.ratio_core.specs.Text.{rational_of}
use Rattle.user_model.specs.declared.edit.Edit.TheVariants.{Coef, VecCoef, Constant, VecConstant, ObjCoef, ObjConstant, RowSet, Reset, FreeGroup, DeleteVariable, DeleteRow, RenameVariable, RenameRow}
use Rattle.script_core.specs.declared.reading.LineReading.{LineReading}
use Rattle.script_core.specs.Names.{last_name_of, last_named_number_of, last_two_names_of}
use Rattle.script_core.specs.Reading.{TokenList, makes}
use Rattle.script_core.specs.Sets.{last_named_relation_of}
use Rattle.script_tokens.specs.Each.{◌>>=◌}
use Rattle.script_tokens.specs.Number.{number_of}

-- coef R X Q
unfoldable pub coefficient_form : TokenList → Option LineReading
coefficient_form (row ∷ tokens) = do
  name ← name_of_token row
  term ← last_named_number_of tokens
  makes (Coef name term.0 term.1)
coefficient_form [] = None

-- vcoef R I X Q
unfoldable pub vector_coefficient_form : TokenList → Option LineReading
vector_coefficient_form (row ∷ number ∷ tokens) = do
  name ← name_of_token row
  output ← number_of number
  term ← last_named_number_of tokens
  makes (VecCoef name output term.0 term.1)
vector_coefficient_form _ = None

-- const R Q
unfoldable pub constant_form : TokenList → Option LineReading
constant_form tokens = do
  constant ← last_named_number_of tokens
  makes (Constant constant.0 constant.1)

-- vconst R I Q
unfoldable pub vector_constant_form : TokenList → Option LineReading
vector_constant_form (row ∷ number ∷ constant ∷ []) = do
  name ← name_of_token row
  output ← number_of number
  value ← rational_of constant
  makes (VecConstant name output value)
vector_constant_form _ = None

-- objcoef X Q
unfoldable pub objective_coefficient_form : TokenList → Option LineReading
objective_coefficient_form tokens = do
  term ← last_named_number_of tokens
  makes (ObjCoef term.0 term.1)

-- objconst Q
unfoldable pub objective_constant_form : TokenList → Option LineReading
objective_constant_form (constant ∷ []) = do
  value ← rational_of constant
  makes (ObjConstant value)
objective_constant_form _ = None

-- set R REL
unfoldable pub row_set_form : TokenList → Option LineReading
row_set_form tokens = do
  row ← last_named_relation_of tokens
  makes (RowSet row.0 row.1)

-- reset X REL
unfoldable pub reset_form : TokenList → Option LineReading
reset_form tokens = do
  variable ← last_named_relation_of tokens
  makes (Reset variable.0 variable.1)

-- free X
unfoldable pub free_form : TokenList → Option LineReading
free_form tokens = do
  var ← last_name_of tokens
  makes (FreeGroup var)

-- delvar X
unfoldable pub delete_variable_form : TokenList → Option LineReading
delete_variable_form tokens = do
  var ← last_name_of tokens
  makes (DeleteVariable var)

-- delrow R
unfoldable pub delete_row_form : TokenList → Option LineReading
delete_row_form tokens = do
  row ← last_name_of tokens
  makes (DeleteRow row)

-- renvar X Y
unfoldable pub rename_variable_form : TokenList → Option LineReading
rename_variable_form tokens = do
  names ← last_two_names_of tokens
  makes (RenameVariable names.0 names.1)

-- renrow R S
unfoldable pub rename_row_form : TokenList → Option LineReading
rename_row_form tokens = do
  names ← last_two_names_of tokens
  makes (RenameRow names.0 names.1)
