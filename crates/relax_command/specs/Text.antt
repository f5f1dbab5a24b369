-- The texts of the command's answers:
--
--     relaxed V              the least total violation of the soft rows,
--     primal X V             a point that has it,
--     over R V               and the violation of each soft row
--     infeasible GAP         no point meets the hard rows: their certificate
--     dual row R V ..
--     dual var X V
use Rattle.std.specs.Prelude.{ℕ, List, ◌∷◌, ◌++◌, codes, map}
use Rattle.std.specs.List.{zip}
use Rattle.cert_text.specs.Text.{Line, certificate_text, number_line, text_of_lines, variable_lines}
use Rattle.certificates.specs.Points.{variables_of}
use Rattle.certificates.specs.declared.certificate.Certificate.TheVariants.{Infeasible}
use Rattle.name_index.specs.Escape.{escaped}
use Rattle.ratio_core.specs.Rational.{Rational}
use Rattle.relaxation.specs.declared.reading.Relaxation.{Relaxation}
use Rattle.relaxation.specs.declared.reading.Relaxation.TheVariants.{Hopeless, Least}
use Rattle.relaxed_model.specs.Relaxed.{hard_rows, soft_rows}
use Rattle.user_model.specs.declared.row.Row.{Row}
use Rattle.user_model.specs.Model.{ModelValue}

abbrev pub violation_line : Row × Rational → Line
violation_line entry = number_line (codes "over " ++ escaped entry.0.name ++ codes " ") entry.1

abbrev pub violation_lines : List Row → List Rational → List Line
violation_lines rows violations = map violation_line (zip rows violations)

abbrev pub relaxation_text : ModelValue → Relaxation → List ℕ
relaxation_text model (Least total x violations) =
    text_of_lines (number_line (codes "relaxed ") total
    ∷ variable_lines (codes "primal ") (variables_of model.groups) x
    ++ violation_lines (soft_rows model.rows) violations)
relaxation_text model (Hopeless gap rows vars) =
    certificate_text (variables_of model.groups) (hard_rows model.rows)
    (Infeasible gap rows vars)
