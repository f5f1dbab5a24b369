-- The form that a text writes: a line of its numbers of rows and columns, a line for each row with
-- its right side last, and a line of costs. A line's words are separated by single spaces, and
-- a newline ends each line.
use Rattle.std.specs.Prelude.{ℕ, ◌+◌, ◌-◌, ◌≤◌, List, [], ◌∷◌, Option, Some, None, length, slice_index, take, if◌then◌else◌, ◌==◌}
use Rattle.std.specs.List.{slice_split}
use Rattle.ratio_core.specs.Rational.{Rational}
use Rattle.ratio_core.specs.Text.{rational_of}
use Rattle.script_tokens.specs.Each.{each, ◌>>=◌}
use Rattle.simplex_core.specs.declared.form.StdForm.{StdForm}
use Rattle.simplex_core.specs.StdForm.{IsWellShaped}
use Rattle.bland_run.specs.Forms.{form_from}
use Rattle.bland_run.specs.Sizes.{size_in}

-- a text without its last byte, where that is a newline
unfoldable pub unended : List ℕ → Option (List ℕ)
unended text =
    if slice_index text (length text - 1) == 10 then Some (take (length text - 1) text) else None

-- the numbers of a line
abbrev pub numbers_in : List ℕ → Option (List Rational)
numbers_in line = each rational_of (slice_split (λ b. b == 32) line)

-- the form of lines; the first line has the size
unfoldable pub form_in_lines : List (List ℕ) → Option StdForm
form_in_lines [] = None
form_in_lines (first ∷ others) =
    size_in first >>= (λ size. each numbers_in others >>= (λ rows. form_from size rows))

-- the form that a text writes, or none
unfoldable pub form_in : List ℕ → Option StdForm
form_in text = unended text >>= (λ body. form_in_lines (slice_split (λ b. b == 10) body))

-- a form that can be solved with no allowance
pub record IsSmall (form : StdForm) : Type 0 where
  pub shape : IsWellShaped form
  pub small : form.c + form.m ≤ 61
