-- How a line of a script falls into tokens.
use Rattle.std.specs.Prelude.{ℕ, Bool, ◌&&◌, not, List, length, filter, ◌==◌, nat_le}
use Rattle.std.specs.List.{slice_split}

-- a byte that a line may have: the space, or one that prints
abbrev pub is_line_byte : ℕ → Bool
is_line_byte b = nat_le 32 b && nat_le b 126

-- the tokens of a line: its runs of bytes other than the space
unfoldable pub tokens_of : List ℕ → List (List ℕ)
tokens_of line = filter (λ run. not (length run == 0)) (slice_split (λ b. b == 32) line)
