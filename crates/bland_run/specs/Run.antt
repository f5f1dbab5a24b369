-- When a run ends well.
use Rattle.std.specs.Prelude.{ℕ, ◌≤◌, List, Option, IfSome, IsSome, length}
use Rattle.bland_run.specs.Input.{input_limit}

-- the source tells an input that is within the limit
abbrev pub IsInputReadable : Option (List ℕ) → Type 0
IsInputReadable left = IsSome left × IfSome left (λ bytes. length bytes ≤ input_limit)
