use Rattle.std.proofs.Common.{drop}
use Rattle.aff_core.specs.Function.{terms_of}
use Rattle.aff_core.specs.Arithmetic.{number_at}
use Rattle.aff_core.proofs.Values.{IsAsAll}
use Rattle.aff_core.proofs.arithmetic.Aff.value.Given as goal

-- what is left, from the sum so far, is as all of it is
abbrev pub invariant-loop-address : goal.invariant-loop-address
invariant-loop-address l =
    IsAsAll l.self.constant l.value (terms_of l.self) (drop l.address-index (terms_of l.self))
    (number_at l.at)
