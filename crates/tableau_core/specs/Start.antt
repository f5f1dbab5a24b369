-- The form that lists stand for.
use Rattle.std.specs.Prelude.{◌≡◌, ℕ, ◌+◌, ◌*◌, ◌<◌, List, length}
use Rattle.ratio_core.specs.Rational.{Rational}
use Rattle.tableau_core.specs.Row.{cell}
use Rattle.simplex_form.specs.Basis.{BasisState, start}
use Rattle.simplex_form.specs.Form.{Form}

-- the matrix is given row by row
abbrev pub form_of : ℕ → ℕ → List Rational → List Rational → List Rational → Form
form_of m c matrix right costs = record {
  rows = m;
  reals = c;
  matrix = λ i j. cell matrix (i * c + j);
  right = cell right;
  costs = cell costs;
}

-- the n numbers f 0, f 1, ..
pub record IsListOf (n : ℕ) (f : ℕ → Rational) (row : List Rational) : Type 0 where
  pub long : length row ≡ n
  pub cells : (j : ℕ) → j < n → cell row j ≡ f j

-- a fact of the start of each form with this matrix
abbrev pub AtEachStart : ℕ → ℕ → List Rational → (Form → BasisState → Type 0) → Type 0
AtEachStart m c matrix P =
    (right costs : List Rational) →
    P (form_of m c matrix right costs) (start (form_of m c matrix right costs))
