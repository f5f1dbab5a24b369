-- What is found, as text:
--     feasible                   a model with a feasible point
--     primal X V
--     conflict K                 rows that can't hold together
--     row R
--     infeasible GAP             their certificate
--     dual row R V ..
--     dual var X V
--     without R                  a point that meets all but this
--     primal X V
use Rattle.std.specs.Prelude.{ℕ, List, ◌++◌, codes, decimal, flat_map, length}
use Rattle.std.specs.List.{zip}
use Rattle.cert_text.specs.Text.{certificate_text}
use Rattle.certificates.specs.declared.certificate.Certificate.{Certificate}
use Rattle.file_command.specs.Numbers.{numbers_text}
use Rattle.model_conflict.specs.declared.found.Found.{Found}
use Rattle.model_conflict.specs.declared.found.Found.TheVariants.{Conflict, Feasible}
use Rattle.name_index.specs.Escape.{escaped}
use Rattle.ratio_core.specs.Rational.{Rational}
use Rattle.report_core.specs.Words.{newline}
use Rattle.user_model.specs.declared.group.GroupVar.{GroupVar}
use Rattle.user_model.specs.declared.row.Row.{Row}

-- a word and a name, in a line
abbrev pub named_line : List ℕ → List ℕ → List ℕ
named_line word name = word ++ escaped name ++ newline

-- how many rows there are, and a line for each
abbrev pub rows_text : List (List ℕ) → List ℕ
rows_text names =
    codes "conflict " ++ decimal (length names) ++ newline
    ++ flat_map (named_line (codes "row ")) names

-- a row's name, and the point that meets all others
abbrev pub without_text : List GroupVar → List ℕ × List Rational → List ℕ
without_text variables entry =
    named_line (codes "without ") entry.0 ++ numbers_text (codes "primal ") variables entry.1

abbrev pub feasible_text : List GroupVar → List Rational → List ℕ
feasible_text variables x =
    codes "feasible" ++ newline ++ numbers_text (codes "primal ") variables x

-- the rows by their names, their certificate, and for each the point that meets all others
abbrev pub conflict_text : List GroupVar → List Row → List (List ℕ) → Certificate
    → List (List Rational) → List ℕ
conflict_text variables rows names certificate points =
    rows_text names ++ certificate_text variables rows certificate
    ++ flat_map (without_text variables) (zip names points)

abbrev pub found_text : List GroupVar → List Row → Found → List ℕ
found_text variables rows (Feasible x) = feasible_text variables x
found_text variables rows (Conflict names certificate points) =
    conflict_text variables rows names certificate points
