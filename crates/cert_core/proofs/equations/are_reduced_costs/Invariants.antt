use Rattle.std.proofs.Common.{◌≡◌, drop, map}
use Rattle.ratio_core.specs.Rational.{Rational}
use Rattle.aff_core.specs.Address.{Address}
use Rattle.aff_core.specs.Function.{coefficient}
use Rattle.certificates.specs.Duals.{reduced_cost}
use Rattle.certificates.specs.Points.{objective_function, sense_of}
use Rattle.cert_core.specs.Folds.{CostFits}
use Rattle.cert_core.proofs.Tested.{TestedAsAll}
use Rattle.cert_core.proofs.equations.are_reduced_costs.Given as goal

abbrev pub invariant-loop-i : goal.invariant-loop-i
invariant-loop-i l =
    (a w : Address → Rational) → map a l.variables ≡ l.adjoint → map w l.variables ≡ l.duals
    → TestedAsAll
    (λ v. CostFits (sense_of l.objective) (coefficient (objective_function l.objective) v) (a v))
    (λ v. w v ≡ reduced_cost (sense_of l.objective)
    (coefficient (objective_function l.objective) v) (a v))
    l.all l.variables (drop l.i l.variables)
