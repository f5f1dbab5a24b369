-- What an optimise of a state without an objective says.
use Rattle.std.proofs.Common.{◌≡◌, ℕ, true, false, inl, inr, subst, sym, ◌∙◌, Ok, Err}
use Rattle.std.specs.Prelude.{Result}
use Rattle.cache_layer.specs.Outcome.{IsOptimized}
use Rattle.cache_layer.specs.CacheState.{CacheState}
use Rattle.cache_layer.specs.declared.fault.OptFault.{OptFault}
use Rattle.cache_layer.specs.declared.fault.OptFault.TheVariants as fault
use Rattle.certificates.specs.Good.{Good}
use Rattle.certificates.specs.GoodLaws.{bounded_without_objective}
use Rattle.certificates.specs.declared.certificate.Certificate.{Certificate}
use Rattle.certificates.specs.declared.certificate.Certificate.TheVariants.{Infeasible, Optimal, Unbounded}
use Rattle.model_conflict.specs.Optima.{IsNotUnbounded, IsOptimumOf, TellsOptimum}
use Rattle.model_conflict.specs.Walk.{Finds, FindsFrom, GivesGood, found_as, infeasible_by}
use Rattle.model_conflict.specs.declared.found.Found.{Found}
use Rattle.model_conflict.specs.declared.found.Found.TheVariants.{Conflict, Feasible}
use Rattle.model_conflict.specs.declared.optimizing.Duals.{Duals}
use Rattle.model_conflict.specs.declared.optimizing.Optimum.{Optimum}
use Rattle.model_conflict.specs.declared.optimizing.Optimum.TheVariants as optimum
use Rattle.user_model.specs.Model.{ModelValue}
use Rattle.user_model.specs.declared.objective.Objective.TheVariants.{Feasibility}

-- a good certificate of a model without an objective has no ray
pub bounded : (model : ModelValue) → model.objective ≡ Feasibility → (certificate : Certificate)
    → Good model certificate → IsNotUnbounded certificate
bounded model bare (Optimal value x rows vars) good = tt
bounded model bare (Infeasible gap rows vars) good = tt
bounded model bare (Unbounded x d) good = bounded_without_objective model bare x d good

module _ (s : CacheState) (pivots : ℕ) where
  pub tells_given : (certificate : Certificate) (told : Optimum)
      → IsOptimized s pivots (Ok certificate) → Good s.model certificate
      → IsOptimumOf certificate told → TellsOptimum s pivots (Ok told)
  tells_given certificate (optimum.Point x) out good is = (
    is.0,
    is.1,
    is.2,
    record {
      outcome = subst (λ c. IsOptimized s pivots (Ok c)) is.3 out;
      good = subst (Good s.model) is.3 good;
    },
  )
  tells_given certificate (optimum.Infeasible duals) out good is = record {
    outcome = subst (λ c. IsOptimized s pivots (Ok c)) is out;
    good = subst (Good s.model) is good;
  }

  pub tells_fault : s.attached ≡ true → (why : OptFault) → IsOptimized s pivots (Err why)
      → TellsOptimum s pivots (Err why)
  tells_fault is fault.NotAttached out = absurd (never (sym is ∙ out))
    where
      never : true ≡ false → ⊥
      never e = cc
  tells_fault is (fault.TooLarge cells) out = out
  tells_fault is (fault.Overflow place) out = out
  tells_fault is (fault.Limit n) out = out
  tells_fault is fault.Memory out = tt

  -- ---- what is found

  pub fault_found : (why : OptFault) → TellsOptimum s pivots (Err why)
      → Finds s pivots (Err why)
  fault_found fault.NotAttached h = absurd h
  fault_found (fault.TooLarge cells) h = inl h
  fault_found (fault.Overflow place) h = inl h
  fault_found (fault.Limit n) h = inl h
  fault_found fault.Memory h = tt

  pub walk_found : (duals : Duals) → GivesGood s pivots (infeasible_by duals)
      → (result : Result Found OptFault) → FindsFrom s pivots duals result
      → Finds s pivots result
  walk_found duals first (Ok (Feasible x)) h = absurd (never h.2)
    where
      never : Feasible x ≡ found_as h.0 → ⊥
      never e = cc
  walk_found duals first (Ok (Conflict names certificate points)) h =
      (h.0, record { duals = duals; first = first; walks = h.1 }, h.2)
  walk_found duals first (Err fault.NotAttached) h = absurd h
  walk_found duals first (Err (fault.TooLarge cells)) h =
      inr (record { duals = duals; first = first; walks = h })
  walk_found duals first (Err (fault.Overflow place)) h =
      inr (record { duals = duals; first = first; walks = h })
  walk_found duals first (Err (fault.Limit n)) h =
      inr (record { duals = duals; first = first; walks = h })
  walk_found duals first (Err fault.Memory) h = tt
