-- The generated script: each line is a function of the four numbers and its own number. A variable
-- and a coefficient that are drawn make a term; s is the generator's state before a line, or before
-- a term.
--
--     var xI >= 0                          for each variable
--     row rJ >= Q : C*xI C*xI C*xI         for each row
--     min C*x1 C*x2 ..                     with each variable
--     attach
--     set rJ >= Q                          for each edit
--     optimize
use Rattle.std.specs.Prelude.{ℕ, ◌+◌, ◌%◌, List, ◌++◌, Option, Some, None, codes, decimal, flat_map, map, nat_lt, refl, if◌then◌else◌}
use Rattle.std.specs.Coded.{Coded, code_by, coded×, coded_ℕ}
use Rattle.std.specs.List.{range_with_len}
use Rattle.generated_script.specs.Generator.{after, draw, step}
use Rattle.generated_script.specs.ScriptNumbers.{ScriptNumbers, numbers_code}
use Rattle.generated_script.specs.Parts.{draws_before, line_count, part_at}
use Rattle.generated_script.specs.declared.parts.Part.{Part}
use Rattle.generated_script.specs.declared.parts.Part.TheVariants.{Attach, Edit, Objective, Optimize, Row, Variable}

-- ` C*xI`, I being the variable of this place
abbrev pub term_text : ℕ → ℕ → List ℕ
term_text coefficient place =
    codes " " ++ decimal coefficient ++ codes "*x" ++ decimal (place + 1)

-- the term that two draws give: its variable first, then its coefficient
abbrev pub drawn_term : ℕ → ℕ → List ℕ
drawn_term vars s = term_text (1 + draw (step s) % 9) (draw s % vars)

-- the term of a variable that the draw of its place gives
abbrev pub cost_term : ℕ → ℕ → List ℕ
cost_term s place = term_text (1 + draw (after place s) % 9) place

abbrev pub variable_line : ℕ → List ℕ
variable_line i = codes "var x" ++ decimal (i + 1) ++ codes " >= 0"

-- some words, a row's number and its lower bound
abbrev pub bounded : List ℕ → ℕ → ℕ → List ℕ
bounded words row bound = words ++ decimal row ++ codes " >= " ++ decimal bound

abbrev pub row_line : ℕ → ℕ → ℕ → List ℕ
row_line vars j s =
    bounded (codes "row r") (j + 1) (draw (after 6 s) % 20) ++ codes " :" ++ drawn_term vars s
    ++ drawn_term vars (after 2 s) ++ drawn_term vars (after 4 s)

abbrev pub objective_line : ℕ → ℕ → List ℕ
objective_line vars s = codes "min" ++ flat_map (cost_term s) (range_with_len 0 vars)

abbrev pub edit_line : ℕ → ℕ → List ℕ
edit_line rows s = bounded (codes "set r") (draw s % rows + 1) (draw (step s) % 20)

-- a line, by the state before it
unfoldable pub text_of : ScriptNumbers → Part → ℕ → List ℕ
text_of n (Variable i) s = variable_line i
text_of n (Row j) s = row_line n.vars j s
text_of n Objective s = objective_line n.vars s
text_of n Attach s = codes "attach"
text_of n (Edit e) s = edit_line n.rows s
text_of n Optimize s = codes "optimize"

-- the state before line k
unfoldable pub state_before : ScriptNumbers → ℕ → ℕ
state_before n k = after (draws_before n (part_at n k)) n.seed

-- line k
abbrev pub line_at : ScriptNumbers → ℕ → List ℕ
line_at n k = text_of n (part_at n k) (state_before n k)

-- line k of the script, and nothing past its end
abbrev pub script_line : ScriptNumbers → ℕ → Option (List ℕ)
script_line n k = if nat_lt k (line_count n) then Some (line_at n k) else None

-- all lines
abbrev pub script : ScriptNumbers → List (List ℕ)
script n = map (line_at n) (range_with_len 0 (line_count n))

-- ---- one line after another

-- the numbers, and the number of the next line
pub record ScriptFrom : Type 0 where
  pub numbers : ScriptNumbers
  pub next : ℕ

abbrev pub script_from_code : Coded ScriptFrom
script_from_code =
    code_by (ScriptNumbers × ℕ) (coded× numbers_code coded_ℕ) (λ s. (s.numbers, s.next))
    (λ p. record { numbers = p.0; next = p.1 }) (λ _. refl)

-- from the line behind the next on, where there is a next
abbrev pub after_line : ScriptFrom → ScriptFrom
after_line s =
    if nat_lt s.next (line_count s.numbers) then record s { next = s.next + 1 } else s
