use Rattle.std.specs.List.{zip}
use Rattle.bridges_norm.proofs.Loops.{MadeBehind, MoreFits, more_pair}
use Rattle.bridges_norm.proofs.norm_one.more.Given as goal

abbrev pub invariant-loop-n : goal.invariant-loop-n
invariant-loop-n l =
    MadeBehind l.fn.less.items more_pair MoreFits l.n (zip l.vars l.others) l.both.items
