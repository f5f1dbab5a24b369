use Rattle.aff_core.specs.Arithmetic.{PlusFits, sum_of}
use Rattle.bridges_norm.proofs.Loops.{MadeBehind}
use Rattle.bridges_norm.proofs.norm_infinity.more.Given as goal

abbrev pub invariant-loop-other : goal.invariant-loop-other
invariant-loop-other l =
    MadeBehind l.fn.less.items (sum_of l.first) (PlusFits l.first) l.other-index
    l.others l.both.items
