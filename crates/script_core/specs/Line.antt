-- The grammar of a line, and what reading a line answers.
use Rattle.std.specs.Prelude.{◌≡◌, ℕ, true, false, List, [], ◌∷◌, Option, Some, None, Result, Ok, Err, codes, nat_eq, if◌then◌else◌}
use Rattle.std.specs.List.{list_all, starts_with}
use Rattle.aff_core.specs.declared.sense.Sense.TheVariants.{Min, Max}
use Rattle.user_model.specs.declared.edit.Edit.TheVariants.{Feasibility}
use Rattle.script_core.specs.declared.command.Command.{Command}
use Rattle.script_core.specs.declared.command.Command.TheVariants as command
use Rattle.script_core.specs.declared.fault.LineFault.{LineFault}
use Rattle.script_core.specs.declared.fault.LineFault.TheVariants as fault
use Rattle.script_core.specs.declared.keyword.Keyword.{Keyword}
use Rattle.script_core.specs.declared.keyword.Keyword.TheVariants as word
use Rattle.script_core.specs.declared.reading.LineReading.{LineReading}
use Rattle.script_core.specs.declared.reading.LineReading.TheVariants as reading
use Rattle.script_core.specs.Changes.{coefficient_form, vector_coefficient_form, constant_form, vector_constant_form, objective_coefficient_form, objective_constant_form, row_set_form, reset_form, free_form, delete_variable_form, delete_row_form, rename_variable_form, rename_row_form}
use Rattle.script_core.specs.Keyword.{keyword_of}
use Rattle.script_core.specs.Reading.{TokenList, says, alone}
use Rattle.script_core.specs.Rows.{bound_form, row_form, vector_bound_form, vector_row_form, objective_form, objective_variable_form}
use Rattle.script_core.specs.Solver.{optimize_form, load_form}
use Rattle.script_core.specs.Tables.{target_form, support_form, cost_form, switch_form}
use Rattle.script_core.specs.Variables.{variable_form, group_form}
use Rattle.script_tokens.specs.Each.{◌>>=◌}
use Rattle.script_tokens.specs.Tokens.{is_line_byte, tokens_of}

-- a word alone
abbrev pub word_alone : Command → TokenList → Option LineReading
word_alone command tokens = alone (reading.Says command) tokens

-- the form that a keyword names, of the tokens that follow it
unfoldable pub form_of : Keyword → TokenList → Option LineReading
form_of word.Var tokens = variable_form tokens
form_of word.Vars tokens = group_form tokens
form_of word.Bound tokens = bound_form tokens
form_of word.Row tokens = row_form tokens
form_of word.Vbound tokens = vector_bound_form tokens
form_of word.Vrow tokens = vector_row_form tokens
form_of word.Min tokens = objective_form Min tokens
form_of word.Max tokens = objective_form Max tokens
form_of word.Minvar tokens = objective_variable_form Min tokens
form_of word.Maxvar tokens = objective_variable_form Max tokens
form_of word.Feasibility tokens = word_alone (command.Edit Feasibility) tokens
form_of word.Coef tokens = coefficient_form tokens
form_of word.Vcoef tokens = vector_coefficient_form tokens
form_of word.Const tokens = constant_form tokens
form_of word.Vconst tokens = vector_constant_form tokens
form_of word.Objcoef tokens = objective_coefficient_form tokens
form_of word.Objconst tokens = objective_constant_form tokens
form_of word.Set tokens = row_set_form tokens
form_of word.Reset tokens = reset_form tokens
form_of word.Free tokens = free_form tokens
form_of word.Delvar tokens = delete_variable_form tokens
form_of word.Delrow tokens = delete_row_form tokens
form_of word.Renvar tokens = rename_variable_form tokens
form_of word.Renrow tokens = rename_row_form tokens
form_of word.Target tokens = target_form tokens
form_of word.Support tokens = support_form true tokens
form_of word.Unsupport tokens = support_form false tokens
form_of word.Cost tokens = cost_form tokens
form_of word.On tokens = switch_form true tokens
form_of word.Off tokens = switch_form false tokens
form_of word.Attach tokens = word_alone command.Attach tokens
form_of word.Detach tokens = word_alone command.Detach tokens
form_of word.Begin tokens = word_alone command.Begin tokens
form_of word.Commit tokens = word_alone command.Commit tokens
form_of word.Abandon tokens = word_alone command.Abandon tokens
form_of word.Optimize tokens = optimize_form tokens
form_of word.Bridged tokens = word_alone command.Bridged tokens
form_of word.Plan tokens = word_alone command.Plan tokens
form_of word.Write tokens = word_alone command.Write tokens
form_of word.Load tokens = load_form tokens
form_of word.Quit tokens = word_alone command.Quit tokens

-- a line without tokens and a remark are silent
unfoldable pub line_form : TokenList → Option LineReading
line_form [] = says command.Silent
line_form (first ∷ tokens) =
    if starts_with nat_eq first (codes "#") then says command.Silent
    else (do
      keyword ← keyword_of first
      form_of keyword tokens)

-- what a line is read as, where it is in the grammar
unfoldable pub reading_of : List ℕ → Option LineReading
reading_of line = if list_all is_line_byte line then line_form (tokens_of line) else None

-- what is answered to a reading
abbrev pub answer_of : Option LineReading → Result Command LineFault
answer_of None = Err fault.BadLine
answer_of (Some reading.Overflow) = Err fault.Overflow
answer_of (Some (reading.Says command)) = Ok command

-- what a line says, or why it says nothing
unfoldable pub line_said : List ℕ → Result Command LineFault
line_said line = answer_of (reading_of line)

-- the answer is this, but where memory ran out
abbrev pub IsParsedAs : Result Command LineFault → Result Command LineFault → Type 0
IsParsedAs said (Err fault.Memory) = Unit {0}
IsParsedAs said answer = answer ≡ said
