use Rattle.std.proofs.Common.{[], ◌∷◌}
use Rattle.std.specs.List.{zip}
use Rattle.bridges_norm.proofs.Loops.{LoweredFits, MadeBehind, lowered}
use Rattle.bridges_norm.proofs.duals.behind.Given as goal

abbrev pub invariant-loop-n : goal.invariant-loop-n
invariant-loop-n l =
    MadeBehind (l.fn.first ∷ []) lowered LoweredFits l.n (zip l.high l.low) l.numbers.items
