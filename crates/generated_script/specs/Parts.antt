-- The lines of a generated script, by their numbers from 0: the variables, the rows, the objective,
-- `attach`, the edits and `optimize`; and how many draws each takes.
use Rattle.std.specs.Prelude.{ℕ, ◌+◌, ◌-◌, ◌*◌, ◌<◌, nat_lt, nat_eq, if◌then◌else◌}
use Rattle.generated_script.specs.ScriptNumbers.{ScriptNumbers}
use Rattle.generated_script.specs.declared.parts.Part.{Part}
use Rattle.generated_script.specs.declared.parts.Part.TheVariants.{Attach, Edit, Objective, Optimize, Row, Variable}

abbrev pub line_count : ScriptNumbers → ℕ
line_count n = n.vars + n.rows + n.edits + 3

-- what line k behind the rows is
abbrev pub part_behind_rows : ScriptNumbers → ℕ → Part
part_behind_rows n k =
    if nat_eq k 0 then Objective
    else (if nat_eq k 1 then Attach
    else (if nat_lt k (n.edits + 2) then Edit (k - 2)
    else Optimize))

-- what line k is
unfoldable pub part_at : ScriptNumbers → ℕ → Part
part_at n k =
    if nat_lt k n.vars then Variable k
    else (if nat_lt k (n.vars + n.rows) then Row (k - n.vars)
    else part_behind_rows n (k - (n.vars + n.rows)))

-- the script has such a line
abbrev pub IsPartOf : ScriptNumbers → Part → Type 0
IsPartOf n (Variable i) = i < n.vars
IsPartOf n (Row j) = j < n.rows
IsPartOf n (Edit e) = e < n.edits
IsPartOf n part = Unit {0}

-- how many draws the line takes
abbrev pub draws_of : ScriptNumbers → Part → ℕ
draws_of n (Row j) = 7
draws_of n Objective = n.vars
draws_of n (Edit e) = 2
draws_of n part = 0

-- how many the lines before it take
abbrev pub draws_before : ScriptNumbers → Part → ℕ
draws_before n (Variable i) = 0
draws_before n (Row j) = 7 * j
draws_before n Objective = 7 * n.rows
draws_before n Attach = 7 * n.rows + n.vars
draws_before n (Edit e) = 7 * n.rows + n.vars + 2 * e
draws_before n Optimize = 7 * n.rows + n.vars + 2 * n.edits
