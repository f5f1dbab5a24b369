-- How much a model may have.
use Rattle.std.specs.Prelude.{ℕ}

-- components of a group or of a vector function
abbrev pub COMPONENTS : ℕ
COMPONENTS = 4096

-- terms of a scalar function or of a component
abbrev pub TERMS : ℕ
TERMS = 4096

abbrev pub VARIABLES : ℕ
VARIABLES = 65535

abbrev pub ROWS : ℕ
ROWS = 65535

-- terms of all rows and of the objective
abbrev pub ALL_TERMS : ℕ
ALL_TERMS = 1048576

-- the last number that a group, a variable or a row is given
abbrev pub LAST_NUMBER : ℕ
LAST_NUMBER = 4294967294
