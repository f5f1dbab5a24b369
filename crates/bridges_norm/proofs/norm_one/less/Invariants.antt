use Rattle.std.proofs.Common.{[], ◌∷◌}
use Rattle.std.specs.List.{zip}
use Rattle.bridges_norm.proofs.Loops.{LessFits, MadeBehind, less_pair}
use Rattle.bridges_norm.proofs.norm_one.less.Given as goal

abbrev pub invariant-loop-n : goal.invariant-loop-n
invariant-loop-n l =
    MadeBehind (l.fn.rest ∷ []) less_pair LessFits l.n (zip l.vars l.others) l.less.items
