use Rattle.std.proofs.Common.{drop}
use Rattle.aff_core.proofs.Steps.{AddsAsAll}
use Rattle.aff_core.proofs.folds.add_products.Given as goal

-- what is left, from the sums so far, is as all of it is
abbrev pub invariant-loop-address : goal.invariant-loop-address
invariant-loop-address l = AddsAsAll l.by l.fn.sums l.sums l.terms (drop l.address-index l.terms)
