-- What a text is read as: a certificate where it has the lines of one for the model's variables and
-- rows, with any literals as its numbers, and nothing after them.
use Rattle.std.specs.Prelude.{ℕ, List, [], ◌∷◌, length, take, drop, Option, Some, None, option_map, bytes_eq, codes, ◌==◌, if◌then◌else◌}
use Rattle.std.specs.List.{slice_split}
use Rattle.std.specs.Option.{option_or}
use Rattle.ratio_core.specs.Rational.{Rational}
use Rattle.ratio_core.specs.Text.{rational_of}
use Rattle.user_model.specs.declared.group.GroupVar.{GroupVar}
use Rattle.user_model.specs.declared.row.Row.{Row}
use Rattle.certificates.specs.declared.certificate.Certificate.{Certificate}
use Rattle.certificates.specs.declared.certificate.Certificate.TheVariants as certificate
use Rattle.certificates.specs.Points.{functions_of}
use Rattle.script_tokens.specs.Each.{◌>>=◌, each}
use Rattle.cert_text.specs.declared.heading.Heading.{Heading}
use Rattle.cert_text.specs.declared.heading.Heading.TheVariants.{Optimal, Infeasible, Unbounded}
use Rattle.cert_text.specs.Text.{Line, row_head, variable_head}

-- the lines that are left
abbrev pub Lines : Type 0
Lines = List Line

-- ---- a line

-- what stands after a beginning
abbrev pub after : List ℕ → List ℕ → Option (List ℕ)
after beginning text =
    if bytes_eq (take (length beginning) text) beginning
    then Some (drop (length beginning) text) else None

-- the number that stands after a beginning
unfoldable pub number_after : List ℕ → List ℕ → Option Rational
number_after beginning line = do
  rest ← after beginning line
  rational_of rest

-- numbers, each after a space
abbrev pub numbers_in : List (List ℕ) → Option (List Rational)
numbers_in ([] ∷ words) = each rational_of words
numbers_in _ = None

unfoldable pub numbers_of : List ℕ → Option (List Rational)
numbers_of text = numbers_in (slice_split (λ b. b == 32) text)

-- the number of a variable
abbrev pub variable_number : List ℕ → GroupVar → Line → Option Rational
variable_number word var line = number_after (variable_head word var) line

-- the duals of a row, one for each component
unfoldable pub duals_of : Row → Line → Option (List Rational)
duals_of row line = do
  rest ← after (row_head row) line
  duals ← numbers_of rest
  if length duals == length (functions_of row.func) then Some duals else None

-- the first line
unfoldable pub heading_of : Line → Option Heading
heading_of line =
    option_or (option_map Optimal (number_after (codes "optimal ") line))
    (option_or (option_map Infeasible (number_after (codes "infeasible ") line))
    (if bytes_eq line (codes "unbounded") then Some Unbounded else None))

-- ---- lines

-- what f reads in the next lines, one for each item, and the lines after these
unfoldable pub each_line : {X Y : Type 0} → (X → Line → Option Y) → List X → Lines
    → Option (List Y × Lines)
each_line f [] lines = Some ([], lines)
each_line f (x ∷ xs) [] = None
each_line f (x ∷ xs) (line ∷ lines) = do
  y ← f x line
  rest ← each_line f xs lines
  Some (y ∷ rest.0, rest.1)

-- nothing stands after the last newline
abbrev pub at_end : {X : Type 0} → X → Lines → Option X
at_end x ([] ∷ []) = Some x
at_end x _ = None

-- a number for each variable
abbrev pub point_of : List GroupVar → List ℕ → Lines → Option (List Rational × Lines)
point_of variables word lines = each_line (variable_number word) variables lines

-- the duals of each row
abbrev pub row_duals_of : List Row → Lines → Option (List (List Rational) × Lines)
row_duals_of rows lines = each_line duals_of rows lines

-- ---- a certificate

unfoldable pub optimal_of : List GroupVar → List Row → Rational → Lines → Option Certificate
optimal_of variables rows value lines = do
  x ← point_of variables (codes "primal ") lines
  duals ← row_duals_of rows x.1
  vars ← point_of variables (codes "dual var ") duals.1
  at_end (certificate.Optimal value x.0 duals.0 vars.0) vars.1

unfoldable pub infeasible_of : List GroupVar → List Row → Rational → Lines → Option Certificate
infeasible_of variables rows gap lines = do
  duals ← row_duals_of rows lines
  vars ← point_of variables (codes "dual var ") duals.1
  at_end (certificate.Infeasible gap duals.0 vars.0) vars.1

unfoldable pub unbounded_of : List GroupVar → Lines → Option Certificate
unbounded_of variables lines = do
  x ← point_of variables (codes "primal ") lines
  d ← point_of variables (codes "ray ") x.1
  at_end (certificate.Unbounded x.0 d.0) d.1

-- what the lines after the first are read as
unfoldable pub body_of : List GroupVar → List Row → Heading → Lines → Option Certificate
body_of variables rows (Optimal value) lines = optimal_of variables rows value lines
body_of variables rows (Infeasible gap) lines = infeasible_of variables rows gap lines
body_of variables rows Unbounded lines = unbounded_of variables lines

unfoldable pub certificate_in : List GroupVar → List Row → Lines → Option Certificate
certificate_in variables rows [] = None
certificate_in variables rows (first ∷ lines) = do
  heading ← heading_of first
  body_of variables rows heading lines

unfoldable pub certificate_of : List GroupVar → List Row → List ℕ → Option Certificate
certificate_of variables rows text =
    certificate_in variables rows (slice_split (λ b. b == 10) text)
