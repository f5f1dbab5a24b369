-- The replies to accepted lines.
use Rattle.std.specs.Prelude.{ℕ, List, ◌++◌, codes, decimal, Option, Some, None}
use Rattle.report_core.specs.Words.{newline}

-- `ok`, and while a solver is attached at how many addresses its model changed
unfoldable pub done_text : Option ℕ → List ℕ
done_text None = codes "ok" ++ newline
done_text (Some count) = codes "ok " ++ decimal count ++ newline

-- of an edit that an open group holds
abbrev pub held_text : List ℕ
held_text = codes "held" ++ newline
