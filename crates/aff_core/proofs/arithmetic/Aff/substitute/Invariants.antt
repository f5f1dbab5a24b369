use Rattle.std.specs.FinMap.{empty}
use Rattle.std.proofs.Common.{drop}
use Rattle.aff_core.specs.Address.{address_cmp}
use Rattle.aff_core.specs.Arithmetic.{expression_at}
use Rattle.aff_core.specs.Function.{terms_of}
use Rattle.aff_core.proofs.Steps.{SubstitutesAsAll}
use Rattle.aff_core.proofs.Values.{IsAsAll}
use Rattle.aff_core.proofs.arithmetic.Aff.substitute.Given as goal

-- what is left, from the sums so far, is as all of it is
abbrev pub invariant-loop-address : goal.invariant-loop-address
invariant-loop-address l = record {
  constant : IsAsAll l.self.constant l.constant (terms_of l.self)
      (drop l.address-index (terms_of l.self)) (λ u. (expression_at l.by u).constant);
  sums : SubstitutesAsAll (expression_at l.by) (empty {R = address_cmp}) l.sums (terms_of l.self)
      (drop l.address-index (terms_of l.self));
}
