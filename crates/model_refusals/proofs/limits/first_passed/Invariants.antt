use Rattle.std.proofs.Common.{◌≡◌, map, drop}
use Rattle.user_model.specs.Refusals.{first_of, full_at}
use Rattle.model_refusals.proofs.limits.first_passed.Given as goal

-- no count so far passes its limit
abbrev pub invariant-loop-count : goal.invariant-loop-count
invariant-loop-count l =
    first_of (map full_at (drop l.count-index l.counts)) ≡ first_of (map full_at l.counts)
