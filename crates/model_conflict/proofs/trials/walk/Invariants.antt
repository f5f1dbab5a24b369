use Rattle.cache_layer.specs.Cached.{state_of}
use Rattle.model_conflict.proofs.Walking.{WalkedSoFar}
use Rattle.model_conflict.proofs.trials.walk.Given as goal

abbrev pub invariant-loop : goal.invariant-loop
invariant-loop g l =
    WalkedSoFar (state_of l.fn.cache) l.pivots l.fn.duals l.counter (state_of l.cache) l.walked
