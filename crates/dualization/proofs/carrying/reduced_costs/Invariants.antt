use Rattle.std.specs.Prelude.{◌≡◌, map}
use Rattle.ratio_core.specs.Rational.{Rational}
use Rattle.aff_core.specs.Address.{Address}
use Rattle.aff_core.specs.Function.{coefficient}
use Rattle.certificates.specs.Duals.{reduced_cost}
use Rattle.certificates.specs.Points.{objective_function, sense_of}
use Rattle.cert_core.specs.Folds.{CostFits}
use Rattle.cert_core.proofs.Made.{MadeSoFar}
use Rattle.dualization.proofs.carrying.reduced_costs.Given as goal

abbrev pub invariant-loop-i : goal.invariant-loop-i
invariant-loop-i l =
    (a : Address → Rational) → map a l.vars ≡ l.adjoints
    → MadeSoFar (λ v. CostFits (sense_of l.objective)
    (coefficient (objective_function l.objective) v) (a v))
    (λ v. reduced_cost (sense_of l.objective)
    (coefficient (objective_function l.objective) v) (a v)) l.vars l.i l.left.items
