-- The text of a certificate, line by line:
--     optimal V, infeasible GAP or unbounded
--     primal X V, ray X V or dual var X V for each variable X
--     dual row R V .. for each row R, with the dual of each component
-- Names are escaped, numbers stand in lowest terms, and each line ends with a newline.
use Rattle.std.specs.Prelude.{ℕ, List, [], ◌∷◌, ◌++◌, codes, flat_map, map}
use Rattle.std.specs.List.{zip}
use Rattle.ratio_core.specs.Rational.{Rational}
use Rattle.ratio_core.specs.Text.{text_of}
use Rattle.name_index.specs.Escape.{escaped}
use Rattle.user_model.specs.declared.group.GroupVar.{GroupVar}
use Rattle.user_model.specs.declared.row.Row.{Row}
use Rattle.certificates.specs.declared.certificate.Certificate.{Certificate}
use Rattle.certificates.specs.declared.certificate.Certificate.TheVariants.{Optimal, Infeasible, Unbounded}

abbrev pub Line : Type 0
Line = List ℕ

-- ---- lines

abbrev pub number_line : List ℕ → Rational → Line
number_line word q = word ++ text_of q

-- what is said of a variable, before its number
abbrev pub variable_head : List ℕ → GroupVar → List ℕ
variable_head word var = word ++ escaped var.name ++ codes " "

abbrev pub variable_line : List ℕ → GroupVar × Rational → Line
variable_line word entry = number_line (variable_head word entry.0) entry.1

abbrev pub row_head : Row → List ℕ
row_head row = codes "dual row " ++ escaped row.name

-- each after a space
abbrev pub numbers_text : List Rational → List ℕ
numbers_text qs = flat_map (λ q. codes " " ++ text_of q) qs

abbrev pub row_line : Row × List Rational → Line
row_line entry = row_head entry.0 ++ numbers_text entry.1

-- ---- a certificate

abbrev pub variable_lines : List ℕ → List GroupVar → List Rational → List Line
variable_lines word variables x = map (variable_line word) (zip variables x)

abbrev pub row_lines : List Row → List (List Rational) → List Line
row_lines rows duals = map row_line (zip rows duals)

abbrev pub dual_lines : List GroupVar → List Row
    → List (List Rational) → List Rational → List Line
dual_lines variables rows duals vars =
    row_lines rows duals ++ variable_lines (codes "dual var ") variables vars

abbrev pub certificate_lines : List GroupVar → List Row → Certificate → List Line
certificate_lines variables rows (Optimal value x duals vars) =
    number_line (codes "optimal ") value ∷ variable_lines (codes "primal ") variables x
    ++ dual_lines variables rows duals vars
certificate_lines variables rows (Infeasible gap duals vars) =
    number_line (codes "infeasible ") gap ∷ dual_lines variables rows duals vars
certificate_lines variables rows (Unbounded x d) =
    codes "unbounded" ∷ variable_lines (codes "primal ") variables x
    ++ variable_lines (codes "ray ") variables d

abbrev pub ended : Line → List ℕ
ended line = line ++ 10 ∷ []

abbrev pub text_of_lines : List Line → List ℕ
text_of_lines lines = flat_map ended lines

unfoldable pub certificate_text : List GroupVar → List Row → Certificate → List ℕ
certificate_text variables rows certificate =
    text_of_lines (certificate_lines variables rows certificate)
