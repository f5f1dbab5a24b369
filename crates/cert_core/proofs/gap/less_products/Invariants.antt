use Rattle.std.proofs.Common.{drop}
use Rattle.rational_laws.specs.Dot.{negated}
use Rattle.aff_core.specs.FunctionLists.{constants}
use Rattle.cert_core.specs.Folds.{products}
use Rattle.cert_core.proofs.Summed.{SummedAsAll}
use Rattle.cert_core.proofs.gap.less_products.Given as goal

abbrev pub invariant-loop-i : goal.invariant-loop-i
invariant-loop-i l =
    SummedAsAll l.sum l.left (negated (products l.duals (constants l.fs)))
    (negated (products (drop l.i l.duals) (constants (drop l.i l.fs))))
