-- What an optimise of a state without an objective says.
use Rattle.std.specs.Prelude.{◌≡◌, ℕ, List, Result, Ok, Err}
use Rattle.cache_layer.specs.Outcome.{IsOptimized}
use Rattle.cache_layer.specs.CacheState.{CacheState}
use Rattle.cache_layer.specs.declared.fault.OptFault.{OptFault}
use Rattle.cache_layer.specs.declared.fault.OptFault.TheVariants.{Memory, NotAttached}
use Rattle.certificates.specs.declared.certificate.Certificate.{Certificate}
use Rattle.certificates.specs.declared.certificate.Certificate.TheVariants.{Infeasible, Optimal, Unbounded}
use Rattle.model_conflict.specs.Walk.{GivesGood, infeasible_by}
use Rattle.model_conflict.specs.declared.optimizing.Optimum.{Optimum}
use Rattle.model_conflict.specs.declared.optimizing.Optimum.TheVariants as optimum
use Rattle.ratio_core.specs.Rational.{Rational}

abbrev pub IsNotUnbounded : Certificate → Type 0
IsNotUnbounded (Optimal value x rows vars) = Unit {0}
IsNotUnbounded (Infeasible gap rows vars) = Unit {0}
IsNotUnbounded (Unbounded x d) = ⊥

-- the certificate's point, or its duals
abbrev pub IsOptimumOf : Certificate → Optimum → Type 0
IsOptimumOf certificate (optimum.Point x) =
    (value : Rational) × (rows : List (List Rational)) × (vars : List Rational)
    × (certificate ≡ Optimal value x rows vars)
IsOptimumOf certificate (optimum.Infeasible duals) = certificate ≡ infeasible_by duals

-- a feasible point, or duals that show that there is none; or the fault of the optimise, to which a
-- solver is attached
abbrev pub TellsOptimum : CacheState → ℕ → Result Optimum OptFault → Type 0
TellsOptimum s pivots (Ok (optimum.Point x)) =
    (value : Rational) × (rows : List (List Rational)) × (vars : List Rational)
    × GivesGood s pivots (Optimal value x rows vars)
TellsOptimum s pivots (Ok (optimum.Infeasible duals)) = GivesGood s pivots (infeasible_by duals)
TellsOptimum s pivots (Err Memory) = Unit {0}
TellsOptimum s pivots (Err NotAttached) = ⊥
TellsOptimum s pivots (Err fault) = IsOptimized s pivots (Err fault)
