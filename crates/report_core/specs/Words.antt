-- Parts of printed lines. Each printed line ends with a newline.
use Rattle.std.specs.Prelude.{ℕ, List, [], ◌∷◌, ◌++◌, codes}

abbrev pub newline : List ℕ
newline = 10 ∷ []

-- after a space
abbrev pub spaced : List ℕ → List ℕ
spaced part = codes " " ++ part
