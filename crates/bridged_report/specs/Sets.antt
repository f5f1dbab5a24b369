-- Sets as the script writes them; how many components a set has, its row shows.
use Rattle.std.specs.Prelude.{ℕ, List, ◌++◌, codes}
use Rattle.ratio_core.specs.Text.{text_of}
use Rattle.set_core.specs.declared.set.Set.{Set}
use Rattle.set_core.specs.declared.set.Set.TheVariants.{LessThan, GreaterThan, EqualTo, Interval, Reals, Zeros, Nonnegatives, Nonpositives, NormInfinityCone, NormOneCone}

abbrev pub set_text : Set → List ℕ
set_text (LessThan u) = codes "<= " ++ text_of u
set_text (GreaterThan l) = codes ">= " ++ text_of l
set_text (EqualTo a) = codes "== " ++ text_of a
set_text (Interval l u) = codes "in " ++ text_of l ++ codes " " ++ text_of u
set_text (Reals n) = codes "reals"
set_text (Zeros n) = codes "zeros"
set_text (Nonnegatives n) = codes "nonneg"
set_text (Nonpositives n) = codes "nonpos"
set_text (NormInfinityCone n) = codes "norminf"
set_text (NormOneCone n) = codes "normone"
