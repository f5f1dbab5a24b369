-- Text cut at each separator.
use Rattle.std.specs.Prelude.{ℕ, List, [], Option, Some, None, ◌==◌}
use Rattle.std.specs.List.{slice_split}
use Rattle.std.specs.Borrow.{Bor}

-- the text that is left, cut at each separator
abbrev pub pieces_left : ℕ → Option (Bor (List ℕ)) → List (List ℕ)
pieces_left separator None = []
pieces_left separator (Some text) = slice_split (λ b. b == separator) text.now
