-- No line of a generated script asks for a file.
use Rattle.std.proofs.Common.{◌≡◌, ℕ, zero, suc, ◌+◌, ◌-◌, ◌%◌, Bool, true, false, List, [], ◌∷◌, ◌++◌, refl, Option, Some, None}
use Rattle.std.specs.Prelude.{codes, cond, decimal, flat_map, nat_eq, nat_lt, option_and_then}
use Rattle.std.specs.List.{list_all, range_with_len}
use Rattle.aff_core.specs.declared.sense.Sense.{Sense}
use Rattle.aff_core.specs.declared.sense.Sense.TheVariants.{Min}
use Rattle.edit_engine.specs.Lines.{is_load, says_load}
use Rattle.generated_script.specs.Generator.{after, draw, step}
use Rattle.generated_script.specs.ScriptNumbers.{ScriptNumbers}
use Rattle.generated_script.specs.Parts.{part_at}
use Rattle.generated_script.specs.Script.{bounded, cost_term, drawn_term, objective_line, text_of}
use Rattle.name_index.specs.Name.{name_of_token}
use Rattle.script_core.specs.Changes.{row_set_form}
use Rattle.script_core.specs.Keyword.{keyword_of}
use Rattle.script_core.specs.Line.{answer_of, form_of, line_form, line_said, reading_of}
use Rattle.script_core.specs.Reading.{TokenList, makes_with}
use Rattle.script_core.specs.Rows.{objective_form, row_form}
use Rattle.script_core.specs.Sets.{last_named_relation_of, relation_of}
use Rattle.script_core.specs.Solver.{optimize_form}
use Rattle.script_core.specs.Sums.{function_of}
use Rattle.script_core.specs.Terms.{function_terms_of, terms_of}
use Rattle.script_core.specs.Variables.{creation_set_of, variable_form}
use Rattle.script_core.specs.declared.reading.LineReading.{LineReading}
use Rattle.script_tokens.specs.Tokens.{is_line_byte, tokens_of}
use Rattle.user_model.specs.declared.edit.Edit.{Edit}

-- ---- what is read asks for no file

abbrev IsQuiet : Option LineReading → Type 0
IsQuiet read = is_load (answer_of read) ≡ false

quiet_behind : {A : Type 0} (o : Option A) (f : A → Option LineReading)
    → ((a : A) → IsQuiet (f a)) → IsQuiet (option_and_then f o)
quiet_behind None f h = refl
quiet_behind (Some a) f h = h a

quiet_if : (b : Bool) (read : Option LineReading) → IsQuiet read → IsQuiet (cond b read None)
quiet_if true read h = h
quiet_if false read h = refl

quiet_edit : {X : Type 0} (edit : X → Edit) (function : Option X) → IsQuiet (makes_with edit function)
quiet_edit edit None = refl
quiet_edit edit (Some function) = refl

-- ---- by the first word

quiet_var : (tokens : TokenList) → IsQuiet (variable_form tokens)
unfolding variable_form
quiet_var [] = refl
quiet_var (variable ∷ tokens) =
    quiet_behind (name_of_token variable) _
    (λ name. quiet_behind (creation_set_of tokens) _ (λ set. refl))

quiet_row : (tokens : TokenList) → IsQuiet (row_form tokens)
unfolding row_form
quiet_row [] = refl
quiet_row (row ∷ []) = refl
quiet_row (row ∷ word ∷ tokens) =
    quiet_behind (name_of_token row) _
    (λ name. quiet_behind (relation_of word tokens) _
    (λ relation. quiet_behind (function_terms_of relation.1) _
    (λ terms. quiet_edit _ (function_of terms))))

quiet_objective : (sense : Sense) (tokens : TokenList) → IsQuiet (objective_form sense tokens)
unfolding objective_form
quiet_objective sense tokens =
    quiet_behind (terms_of tokens) _ (λ terms. quiet_edit _ (function_of terms))

quiet_set : (tokens : TokenList) → IsQuiet (row_set_form tokens)
unfolding row_set_form
quiet_set tokens = quiet_behind (last_named_relation_of tokens) _ (λ row. refl)

-- ---- the lines

var_line : (rest : List ℕ) → says_load (codes "var " ++ rest) ≡ false
unfolding says_load line_said reading_of line_form form_of keyword_of tokens_of
var_line rest = quiet_if (list_all is_line_byte (codes "var " ++ rest)) _ (quiet_var _)

row_line_quiet : (rest : List ℕ) → says_load (codes "row " ++ rest) ≡ false
unfolding says_load line_said reading_of line_form form_of keyword_of tokens_of
row_line_quiet rest = quiet_if (list_all is_line_byte (codes "row " ++ rest)) _ (quiet_row _)

min_line : (rest : List ℕ) → says_load (codes "min " ++ rest) ≡ false
unfolding says_load line_said reading_of line_form form_of keyword_of tokens_of
min_line rest =
    quiet_if (list_all is_line_byte (codes "min " ++ rest)) _ (quiet_objective Min _)

min_alone : says_load (codes "min") ≡ false
unfolding says_load line_said reading_of line_form form_of keyword_of tokens_of
min_alone = quiet_if (list_all is_line_byte (codes "min")) _ (quiet_objective Min [])

set_line : (rest : List ℕ) → says_load (codes "set " ++ rest) ≡ false
unfolding says_load line_said reading_of line_form form_of keyword_of tokens_of
set_line rest = quiet_if (list_all is_line_byte (codes "set " ++ rest)) _ (quiet_set _)

attach_line : says_load (codes "attach") ≡ false
unfolding says_load line_said reading_of line_form form_of keyword_of tokens_of
attach_line = refl

optimize_line : says_load (codes "optimize") ≡ false
unfolding says_load line_said reading_of line_form form_of keyword_of tokens_of optimize_form
optimize_line = refl

quiet_costs : (vars s : ℕ) → says_load (objective_line vars s) ≡ false
quiet_costs zero s = min_alone
quiet_costs (suc more) s =
    min_line (decimal (1 + draw (after 0 s) % 9) ++ codes "*x" ++ decimal (0 + 1)
    ++ flat_map (cost_term s) (range_with_len 1 more))

either : {A : Type 0} (b : Bool) (P : A → Type 0) (x y : A) → P x → P y → P (cond b x y)
either true P x y h k = h
either false P x y h k = k

pub line_loads_nothing : (n : ScriptNumbers) (k s : ℕ)
    → says_load (text_of n (part_at n k) s) ≡ false
unfolding text_of part_at
line_loads_nothing n k s =
    either (nat_lt k n.vars) (λ part. says_load (text_of n part s) ≡ false) _ _
    (var_line (codes "x" ++ decimal (k + 1) ++ codes " >= 0"))
    (either (nat_lt k (n.vars + n.rows)) (λ part. says_load (text_of n part s) ≡ false) _ _
    (row_line_quiet (bounded (codes "r") (k - n.vars + 1) (draw (after 6 s) % 20) ++ codes " :"
    ++ drawn_term n.vars s ++ drawn_term n.vars (after 2 s) ++ drawn_term n.vars (after 4 s)))
    (either (nat_eq (k - (n.vars + n.rows)) 0) (λ part. says_load (text_of n part s) ≡ false) _ _
    (quiet_costs n.vars s)
    (either (nat_eq (k - (n.vars + n.rows)) 1) (λ part. says_load (text_of n part s) ≡ false) _ _
    attach_line
    (either (nat_lt (k - (n.vars + n.rows)) (n.edits + 2))
    (λ part. says_load (text_of n part s) ≡ false) _ _
    (set_line (bounded (codes "r") (draw s % n.rows + 1) (draw (step s) % 20)))
    optimize_line))))
