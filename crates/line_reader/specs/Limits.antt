-- How long a script may be, in bytes.
use Rattle.std.specs.Prelude.{ℕ}

-- a line, without its newline and the one carriage return before it
abbrev pub line_limit : ℕ
line_limit = 65536

-- the input, up to its end or the line that ends the run
abbrev pub input_limit : ℕ
input_limit = 67108864
