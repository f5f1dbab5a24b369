use Rattle.std.proofs.Common.{◌≡◌, drop, map}
use Rattle.ratio_core.specs.Rational.{Rational, SumFits, zero_ℚ, ◌+ℚ◌}
use Rattle.aff_core.specs.Address.{Address}
use Rattle.cert_core.proofs.Tested.{TestedAsAll}
use Rattle.cert_core.proofs.equations.cancel.Given as goal

abbrev pub invariant-loop-i : goal.invariant-loop-i
invariant-loop-i l =
    (a w : Address → Rational) → map a l.variables ≡ l.adjoint → map w l.variables ≡ l.duals
    → TestedAsAll (λ v. SumFits (a v) (w v)) (λ v. a v +ℚ w v ≡ zero_ℚ)
    l.all l.variables (drop l.i l.variables)
