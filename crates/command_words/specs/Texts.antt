-- Words as bytes.
use Rattle.std.specs.Prelude.{ℕ, List, map, string_bytes, String}
use Rattle.std.specs.declared.alloc.Global.{Global}

abbrev pub texts : List (String Global) → List (List ℕ)
texts words = map string_bytes words
