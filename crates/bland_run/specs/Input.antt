-- How much of the input is read.
use Rattle.std.specs.Prelude.{ℕ}

-- the most bytes that the input has
abbrev pub input_limit : ℕ
input_limit = 65536
