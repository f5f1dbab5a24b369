-- A JSON text in which exact text stands for each numeral that a reader of floats might round.
--     rewritten text       the text; strings stay as they are, and so does every other run
use Rattle.std.specs.Prelude.{ℕ, Bool, ◌||◌, List, [], ◌∷◌, ◌++◌, ◌==◌, if◌then◌else◌}
use Rattle.std.specs.Char.{is_ascii_digit}
use Rattle.mof_text.specs.Numeral.{replaced}

-- `0` to `9`, `+`, `-`, `.`, `e` and `E`
abbrev pub is_run_byte : ℕ → Bool
is_run_byte c = is_ascii_digit c || c == 43 || c == 45 || c == 46 || c == 101 || c == 69

-- where a byte stands: outside strings, straight after the bytes of a run; within a string; or
-- within a string, straight after its backslash
pub data BytePlace : Type 0 where
  outside : List ℕ → BytePlace
  in_string : BytePlace
  in_escape : BytePlace

-- where the next byte stands, after this byte, which is of no run
abbrev pub after_other : ℕ → BytePlace
after_other c = if c == 34 then in_string else outside []

-- the same within a string
abbrev pub after_in_string : ℕ → BytePlace
after_in_string c = if c == 34 then outside [] else (if c == 92 then in_escape else in_string)

abbrev pub rewritten_at : BytePlace → List ℕ → List ℕ
rewritten_at (outside run) [] = replaced run []
rewritten_at (outside run) (c ∷ cs) =
    if is_run_byte c then rewritten_at (outside (run ++ c ∷ [])) cs
    else replaced run (c ∷ cs) ++ c ∷ rewritten_at (after_other c) cs
rewritten_at in_string [] = []
rewritten_at in_string (c ∷ cs) = c ∷ rewritten_at (after_in_string c) cs
rewritten_at in_escape [] = []
rewritten_at in_escape (c ∷ cs) = c ∷ rewritten_at in_string cs

unfoldable pub rewritten : List ℕ → List ℕ
rewritten text = rewritten_at (outside []) text
