use Rattle.std.proofs.Common.{◌≡◌, ◌+◌, take}
use Rattle.user_model.specs.Edited.{numbered_from}
use Rattle.model_plans.proofs.groups.numbered_vars.Given as goal

-- the names so far have their numbers, and the next number is the first that is left
abbrev pub invariant-loop-name : goal.invariant-loop-name
invariant-loop-name l =
    (l.number ≡ l.first + l.name-index) × (l.vars.items ≡ numbered_from l.first
    (take l.name-index l.names))
