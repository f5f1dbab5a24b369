-- The texts of the command's answers:
--
--     dual V                 the best duals: their objective,
--     dual row R V ..        the duals of each row
--     dual var X V           and the dual of each variable
--     dual none              no duals are right
--     dual unbounded         the dual has no best point
--
-- and the text of the dual as a file, in a line.
use Rattle.std.specs.Prelude.{ℕ, List, ◌∷◌, ◌++◌, codes}
use Rattle.cert_text.specs.Text.{dual_lines, number_line, text_of_lines}
use Rattle.certificates.specs.Points.{variables_of}
use Rattle.mof_write.specs.Written.{written}
use Rattle.ratio_core.specs.Rational.{Rational}
use Rattle.report_core.specs.Words.{newline}
use Rattle.user_model.specs.Model.{ModelValue}

abbrev pub duals_text : ModelValue → Rational → List (List Rational) → List Rational → List ℕ
duals_text model value rows vars =
    text_of_lines (number_line (codes "dual ") value
    ∷ dual_lines (variables_of model.groups) model.rows rows vars)

abbrev pub none_text : List ℕ
none_text = codes "dual none" ++ newline

abbrev pub unbounded_text : List ℕ
unbounded_text = codes "dual unbounded" ++ newline

abbrev pub file_line : ModelValue → List ℕ
file_line model = written model ++ newline
