use Rattle.std.proofs.Common.{◌≡◌, take, drop}
use Rattle.std.specs.List.{list_any}
use Rattle.std.specs.Str.{bytes_eq}
use Rattle.model_refusals.proofs.twins.stands_before.Given as goal

-- the name is none of those so far
abbrev pub invariant-loop-place : goal.invariant-loop-place
invariant-loop-place l =
    list_any (bytes_eq l.name) (drop l.place (take l.end l.names)) ≡ list_any (bytes_eq l.name)
    (take l.end l.names)
