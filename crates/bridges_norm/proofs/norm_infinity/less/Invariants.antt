use Rattle.std.proofs.Common.{[]}
use Rattle.aff_core.specs.Arithmetic.{PlusFits}
use Rattle.aff_core.specs.Function.{negated}
use Rattle.bridge_face.specs.Images.{difference}
use Rattle.bridges_norm.proofs.Loops.{MadeBehind}
use Rattle.bridges_norm.proofs.norm_infinity.less.Given as goal

abbrev pub invariant-loop-other : goal.invariant-loop-other
invariant-loop-other l =
    MadeBehind [] (difference l.first) (λ x. PlusFits l.first (negated x)) l.other-index
    l.others l.less.items
