-- The text of a number for each variable: a line with a beginning, its name and the number.
use Rattle.std.specs.Prelude.{ℕ, List}
use Rattle.cert_text.specs.Text.{text_of_lines, variable_lines}
use Rattle.ratio_core.specs.Rational.{Rational}
use Rattle.user_model.specs.declared.group.GroupVar.{GroupVar}

abbrev pub numbers_text : List ℕ → List GroupVar → List Rational → List ℕ
numbers_text beginning variables numbers =
    text_of_lines (variable_lines beginning variables numbers)
