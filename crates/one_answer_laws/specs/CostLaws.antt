-- A line that names the cost of an edge names one of at least 1: by the form of each keyword.
use Rattle.std.specs.Prelude.{◌≡◌, ◌≤◌, ℕ, Bool, true, false, List, [], ◌∷◌, Option, Some, None, Result, Ok, codes, length, nat_eq, nat_le, if◌then◌else◌, refl}
use Rattle.std.specs.List.{list_all, starts_with}
use Rattle.std.proofs.Common.{arith}
use Rattle.std.proofs.lemmas.Bool.Decides.{nat_tests}
use Rattle.aff_core.specs.declared.sense.Sense.{Sense}
use Rattle.aff_core.specs.declared.sense.Sense.TheVariants.{Max, Min}
use Rattle.bridge_graph.specs.Hypergraph.{is_edge_cost}
use Rattle.fresh_bridging.specs.TableLaws.{and_first}
use Rattle.name_index.specs.Name.{name_of_token}
use Rattle.ratio_core.specs.Text.{rational_of}
use Rattle.user_model.specs.declared.edit.Edit.{Edit}
use Rattle.user_model.specs.declared.edit.Edit.TheVariants.{AddGroup, AddRow, Coef, Constant, DeleteRow, DeleteVariable, Feasibility, FreeGroup, ObjCoef, ObjConstant, Objective, RenameRow, RenameVariable, Reset, RowSet, VecCoef, VecConstant}
use Rattle.user_model.specs.declared.edit.NamedFunc.TheVariants.{Affine, AffineVec, Plain, PlainVec}
use Rattle.script_core.specs.Changes.{coefficient_form, constant_form, delete_row_form, delete_variable_form, free_form, objective_coefficient_form, objective_constant_form, rename_row_form, rename_variable_form, reset_form, row_set_form, vector_coefficient_form, vector_constant_form}
use Rattle.script_core.specs.Line.{answer_of, form_of, line_form, line_said, reading_of, word_alone}
use Rattle.script_core.specs.Keyword.{keyword_of}
use Rattle.script_core.specs.Names.{last_name_of, last_named_number_of, last_two_names_of, names_of}
use Rattle.script_core.specs.Reading.{TokenList, makes, makes_with, says}
use Rattle.script_core.specs.Rows.{bound_form, objective_form, objective_variable_form, row_form, vector_bound_form, vector_row_form}
use Rattle.script_core.specs.Sets.{last_named_relation_of, relation_of, vector_set_of}
use Rattle.script_core.specs.Solver.{load_form, optimize_form}
use Rattle.script_core.specs.Sums.{function_of, functions_of}
use Rattle.script_core.specs.Tables.{cost_form, cost_of, support_form, switch_form, target_form}
use Rattle.script_core.specs.Terms.{component_terms_of, function_terms_of, terms_of}
use Rattle.script_core.specs.Variables.{creation_set_of, group_form, variable_form}
use Rattle.script_core.specs.declared.command.Command.{Command}
use Rattle.script_core.specs.declared.command.Command.TheVariants as command
use Rattle.script_core.specs.declared.fault.LineFault.{LineFault}
use Rattle.script_core.specs.declared.keyword.Keyword.{Keyword}
use Rattle.script_core.specs.declared.keyword.Keyword.TheVariants as word
use Rattle.script_core.specs.declared.reading.LineReading.{LineReading}
use Rattle.script_core.specs.declared.reading.LineReading.TheVariants as reading
use Rattle.script_tokens.specs.Each.{◌>>=◌}
use Rattle.script_tokens.specs.Family.{family_of}
use Rattle.script_tokens.specs.Number.{number_of}
use Rattle.script_tokens.specs.Table.{edge_numbered, native_kind_of, target_of}
use Rattle.script_tokens.specs.Tokens.{is_line_byte, tokens_of}

-- what a line says costs something, where it is a cost
abbrev pub CostsSome : Result Command LineFault → Type 0
CostsSome (Ok (command.Cost edge cost)) = 1 ≤ cost
CostsSome said = Unit {0}

abbrev ReadsSome : Option LineReading → Type 0
ReadsSome (Some (reading.Says (command.Cost edge cost))) = 1 ≤ cost
ReadsSome read = Unit {0}

-- what follows a part that may be missing
followed : {A : Type 0} (o : Option A) (f : A → Option LineReading) → ((a : A) → ReadsSome (f a))
    → ReadsSome (o >>= f)
followed None f h = tt
followed (Some a) f h = h a

-- an edit by what is read is no cost
made : {A : Type 0} (o : Option A) (edit : A → Edit) → ReadsSome (o >>= (λ a. makes (edit a)))
made None edit = tt
made (Some a) edit = tt

-- nor is one with a function
with_function : {X : Type 0} (edit : X → Edit) (o : Option X) → ReadsSome (makes_with edit o)
with_function edit None = tt
with_function edit (Some f) = tt

no_cost : (c : Command) (tokens : TokenList) → ReadsSome (Some (reading.Says c))
    → ReadsSome (word_alone c tokens)
no_cost c [] h = h
no_cost c (_ ∷ _) h = tt

-- ---- forms of edits

variable_some : (tokens : TokenList) → ReadsSome (variable_form tokens)
unfolding variable_form
variable_some [] = tt
variable_some (variable ∷ tokens) =
    followed (name_of_token variable)
    (λ name. creation_set_of tokens >>= (λ set. makes (AddGroup (name ∷ []) set)))
    (λ name. made (creation_set_of tokens) (λ set. AddGroup (name ∷ []) set))

group_some : (tokens : TokenList) → ReadsSome (group_form tokens)
unfolding group_form
group_some [] = tt
group_some (word ∷ variables) =
    followed (names_of variables)
    (λ names. vector_set_of word (length names) >>= (λ set. makes (AddGroup names set)))
    (λ names. made (vector_set_of word (length names)) (λ set. AddGroup names set))

bound_some : (tokens : TokenList) → ReadsSome (bound_form tokens)
unfolding bound_form
bound_some [] = tt
bound_some (row ∷ tokens) =
    followed (name_of_token row)
    (λ name. last_named_relation_of tokens
    >>= (λ variable. makes (AddRow name (Plain variable.0) variable.1)))
    (λ name. made (last_named_relation_of tokens)
    (λ variable. AddRow name (Plain variable.0) variable.1))

row_some : (tokens : TokenList) → ReadsSome (row_form tokens)
unfolding row_form
row_some (row ∷ word ∷ tokens) =
    followed (name_of_token row)
    (λ name. relation_of word tokens >>= (λ relation. function_terms_of relation.1
    >>= (λ terms. makes_with (λ f. AddRow name (Affine f) relation.0) (function_of terms))))
    (λ name. followed (relation_of word tokens)
    (λ relation. function_terms_of relation.1
    >>= (λ terms. makes_with (λ f. AddRow name (Affine f) relation.0) (function_of terms)))
    (λ relation. followed (function_terms_of relation.1)
    (λ terms. makes_with (λ f. AddRow name (Affine f) relation.0) (function_of terms))
    (λ terms. with_function (λ f. AddRow name (Affine f) relation.0) (function_of terms))))
row_some _ = tt

vector_bound_some : (tokens : TokenList) → ReadsSome (vector_bound_form tokens)
unfolding vector_bound_form
vector_bound_some (row ∷ word ∷ variables) =
    followed (name_of_token row)
    (λ name. names_of variables >>= (λ vars. vector_set_of word (length vars)
    >>= (λ set. makes (AddRow name (PlainVec vars) set))))
    (λ name. followed (names_of variables)
    (λ vars. vector_set_of word (length vars)
    >>= (λ set. makes (AddRow name (PlainVec vars) set)))
    (λ vars. made (vector_set_of word (length vars)) (λ set. AddRow name (PlainVec vars) set)))
vector_bound_some _ = tt

vector_row_some : (tokens : TokenList) → ReadsSome (vector_row_form tokens)
unfolding vector_row_form
vector_row_some (row ∷ word ∷ tokens) =
    followed (name_of_token row)
    (λ name. component_terms_of tokens >>= (λ components. vector_set_of word (length components)
    >>= (λ set. makes_with (λ fs. AddRow name (AffineVec fs) set) (functions_of components))))
    (λ name. followed (component_terms_of tokens)
    (λ components. vector_set_of word (length components)
    >>= (λ set. makes_with (λ fs. AddRow name (AffineVec fs) set) (functions_of components)))
    (λ components. followed (vector_set_of word (length components))
    (λ set. makes_with (λ fs. AddRow name (AffineVec fs) set) (functions_of components))
    (λ set. with_function (λ fs. AddRow name (AffineVec fs) set) (functions_of components))))
vector_row_some _ = tt

objective_some : (sense : Sense) (tokens : TokenList) → ReadsSome (objective_form sense tokens)
unfolding objective_form
objective_some sense tokens =
    followed (terms_of tokens)
    (λ terms. makes_with (λ f. Objective sense (Affine f)) (function_of terms))
    (λ terms. with_function (λ f. Objective sense (Affine f)) (function_of terms))

objective_variable_some : (sense : Sense) (tokens : TokenList)
    → ReadsSome (objective_variable_form sense tokens)
unfolding objective_variable_form
objective_variable_some sense tokens =
    made (last_name_of tokens) (λ var. Objective sense (Plain var))

coefficient_some : (tokens : TokenList) → ReadsSome (coefficient_form tokens)
unfolding coefficient_form
coefficient_some [] = tt
coefficient_some (row ∷ tokens) =
    followed (name_of_token row)
    (λ name. last_named_number_of tokens >>= (λ term. makes (Coef name term.0 term.1)))
    (λ name. made (last_named_number_of tokens) (λ term. Coef name term.0 term.1))

vector_coefficient_some : (tokens : TokenList) → ReadsSome (vector_coefficient_form tokens)
unfolding vector_coefficient_form
vector_coefficient_some (row ∷ number ∷ tokens) =
    followed (name_of_token row)
    (λ name. number_of number >>= (λ output. last_named_number_of tokens
    >>= (λ term. makes (VecCoef name output term.0 term.1))))
    (λ name. followed (number_of number)
    (λ output. last_named_number_of tokens
    >>= (λ term. makes (VecCoef name output term.0 term.1)))
    (λ output. made (last_named_number_of tokens) (λ term. VecCoef name output term.0 term.1)))
vector_coefficient_some _ = tt

constant_some : (tokens : TokenList) → ReadsSome (constant_form tokens)
unfolding constant_form
constant_some tokens = made (last_named_number_of tokens) (λ constant. Constant constant.0 constant.1)

vector_constant_some : (tokens : TokenList) → ReadsSome (vector_constant_form tokens)
unfolding vector_constant_form
vector_constant_some (row ∷ number ∷ constant ∷ []) =
    followed (name_of_token row)
    (λ name. number_of number >>= (λ output. rational_of constant
    >>= (λ value. makes (VecConstant name output value))))
    (λ name. followed (number_of number)
    (λ output. rational_of constant >>= (λ value. makes (VecConstant name output value)))
    (λ output. made (rational_of constant) (λ value. VecConstant name output value)))
vector_constant_some _ = tt

objective_coefficient_some : (tokens : TokenList) → ReadsSome (objective_coefficient_form tokens)
unfolding objective_coefficient_form
objective_coefficient_some tokens =
    made (last_named_number_of tokens) (λ term. ObjCoef term.0 term.1)

objective_constant_some : (tokens : TokenList) → ReadsSome (objective_constant_form tokens)
unfolding objective_constant_form
objective_constant_some (constant ∷ []) = made (rational_of constant) (λ value. ObjConstant value)
objective_constant_some _ = tt

row_set_some : (tokens : TokenList) → ReadsSome (row_set_form tokens)
unfolding row_set_form
row_set_some tokens = made (last_named_relation_of tokens) (λ row. RowSet row.0 row.1)

reset_some : (tokens : TokenList) → ReadsSome (reset_form tokens)
unfolding reset_form
reset_some tokens = made (last_named_relation_of tokens) (λ variable. Reset variable.0 variable.1)

free_some : (tokens : TokenList) → ReadsSome (free_form tokens)
unfolding free_form
free_some tokens = made (last_name_of tokens) (λ var. FreeGroup var)

delete_variable_some : (tokens : TokenList) → ReadsSome (delete_variable_form tokens)
unfolding delete_variable_form
delete_variable_some tokens = made (last_name_of tokens) (λ var. DeleteVariable var)

delete_row_some : (tokens : TokenList) → ReadsSome (delete_row_form tokens)
unfolding delete_row_form
delete_row_some tokens = made (last_name_of tokens) (λ row. DeleteRow row)

rename_variable_some : (tokens : TokenList) → ReadsSome (rename_variable_form tokens)
unfolding rename_variable_form
rename_variable_some tokens =
    made (last_two_names_of tokens) (λ names. RenameVariable names.0 names.1)

rename_row_some : (tokens : TokenList) → ReadsSome (rename_row_form tokens)
unfolding rename_row_form
rename_row_some tokens = made (last_two_names_of tokens) (λ names. RenameRow names.0 names.1)

-- ---- forms of the other lines

target_some : (tokens : TokenList) → ReadsSome (target_form tokens)
unfolding target_form
target_some (word ∷ []) =
    followed (target_of word) (λ target. says (command.Target target)) (λ target. tt)
target_some _ = tt

support_some : (value : Bool) (tokens : TokenList) → ReadsSome (support_form value tokens)
unfolding support_form
support_some value (word ∷ []) =
    followed (native_kind_of word) (λ kind. says (command.Support kind value)) (λ kind. tt)
support_some value _ = tt

switch_some : (value : Bool) (tokens : TokenList) → ReadsSome (switch_form value tokens)
unfolding switch_form
switch_some value (word ∷ []) =
    followed (family_of word) (λ family. says (command.Switch family value)) (λ family. tt)
switch_some value _ = tt

optimize_some : (tokens : TokenList) → ReadsSome (optimize_form tokens)
unfolding optimize_form
optimize_some [] = tt
optimize_some (number ∷ []) =
    followed (number_of number) (λ pivots. says (command.Optimize (Some pivots))) (λ pivots. tt)
optimize_some _ = tt

load_some : (tokens : TokenList) → ReadsSome (load_form tokens)
unfolding load_form
load_some tokens = followed (last_name_of tokens) (λ file. says (command.Load file)) (λ file. tt)

-- a cost that is read is at least 1
within_cost : (cost : ℕ) (f : ℕ → Option LineReading) → ((c : ℕ) → 1 ≤ c → ReadsSome (f c))
    → (test : Bool) → is_edge_cost cost ≡ test
    → ReadsSome ((if test then Some cost else None) >>= f)
within_cost cost f h false e = tt
within_cost cost f h true e =
    let some : 1 ≤ cost =
    grind (arith, nat_tests, and_first (nat_le 1 cost) (nat_le cost 1000) e) in
    h cost some

followed_cost : (token : List ℕ) (f : ℕ → Option LineReading)
    → ((c : ℕ) → 1 ≤ c → ReadsSome (f c)) → ReadsSome (cost_of token >>= f)
unfolding cost_of
followed_cost token f h = by (number_of token)
  where
    by : (o : Option ℕ)
        → ReadsSome ((o >>= (λ cost. if is_edge_cost cost then Some cost else None)) >>= f)
    by None = tt
    by (Some cost) = within_cost cost f h (is_edge_cost cost) refl

cost_some : (tokens : TokenList) → ReadsSome (cost_form tokens)
unfolding cost_form
cost_some (token ∷ number ∷ []) =
    followed (number_of token)
    (λ place. edge_numbered place >>= (λ edge. cost_of number
    >>= (λ cost. says (command.Cost edge cost))))
    (λ place. followed (edge_numbered place)
    (λ edge. cost_of number >>= (λ cost. says (command.Cost edge cost)))
    (λ edge. followed_cost number (λ cost. says (command.Cost edge cost)) (λ cost some. some)))
cost_some _ = tt

-- ---- a line

form_some : (keyword : Keyword) (tokens : TokenList) → ReadsSome (form_of keyword tokens)
unfolding form_of
form_some word.Var tokens = variable_some tokens
form_some word.Vars tokens = group_some tokens
form_some word.Bound tokens = bound_some tokens
form_some word.Row tokens = row_some tokens
form_some word.Vbound tokens = vector_bound_some tokens
form_some word.Vrow tokens = vector_row_some tokens
form_some word.Min tokens = objective_some Min tokens
form_some word.Max tokens = objective_some Max tokens
form_some word.Minvar tokens = objective_variable_some Min tokens
form_some word.Maxvar tokens = objective_variable_some Max tokens
form_some word.Feasibility tokens = no_cost (command.Edit Feasibility) tokens tt
form_some word.Coef tokens = coefficient_some tokens
form_some word.Vcoef tokens = vector_coefficient_some tokens
form_some word.Const tokens = constant_some tokens
form_some word.Vconst tokens = vector_constant_some tokens
form_some word.Objcoef tokens = objective_coefficient_some tokens
form_some word.Objconst tokens = objective_constant_some tokens
form_some word.Set tokens = row_set_some tokens
form_some word.Reset tokens = reset_some tokens
form_some word.Free tokens = free_some tokens
form_some word.Delvar tokens = delete_variable_some tokens
form_some word.Delrow tokens = delete_row_some tokens
form_some word.Renvar tokens = rename_variable_some tokens
form_some word.Renrow tokens = rename_row_some tokens
form_some word.Target tokens = target_some tokens
form_some word.Support tokens = support_some true tokens
form_some word.Unsupport tokens = support_some false tokens
form_some word.Cost tokens = cost_some tokens
form_some word.On tokens = switch_some true tokens
form_some word.Off tokens = switch_some false tokens
form_some word.Attach tokens = no_cost command.Attach tokens tt
form_some word.Detach tokens = no_cost command.Detach tokens tt
form_some word.Begin tokens = no_cost command.Begin tokens tt
form_some word.Commit tokens = no_cost command.Commit tokens tt
form_some word.Abandon tokens = no_cost command.Abandon tokens tt
form_some word.Optimize tokens = optimize_some tokens
form_some word.Bridged tokens = no_cost command.Bridged tokens tt
form_some word.Plan tokens = no_cost command.Plan tokens tt
form_some word.Write tokens = no_cost command.Write tokens tt
form_some word.Load tokens = load_some tokens
form_some word.Quit tokens = no_cost command.Quit tokens tt

tokens_some : (tokens : TokenList) → ReadsSome (line_form tokens)
unfolding line_form
tokens_some [] = tt
tokens_some (first ∷ tokens) = by (starts_with nat_eq first (codes "#"))
  where
    by : (b : Bool) → ReadsSome (if b then Some (reading.Says command.Silent)
        else (keyword_of first >>= (λ keyword. form_of keyword tokens)))
    by true = tt
    by false =
        followed (keyword_of first) (λ keyword. form_of keyword tokens)
        (λ keyword. form_some keyword tokens)

reading_some : (line : List ℕ) → ReadsSome (reading_of line)
unfolding reading_of
reading_some line = by (list_all is_line_byte line)
  where
    by : (b : Bool) → ReadsSome (if b then line_form (tokens_of line) else None)
    by true = tokens_some (tokens_of line)
    by false = tt

answer_some : (o : Option LineReading) → ReadsSome o → CostsSome (answer_of o)
answer_some None h = tt
answer_some (Some reading.Overflow) h = tt
answer_some (Some (reading.Says (command.Cost edge cost))) h = h
answer_some (Some (reading.Says command)) h = tt

pub line_some : (line : List ℕ) → CostsSome (line_said line)
unfolding line_said
line_some line = answer_some (reading_of line) (reading_some line)
