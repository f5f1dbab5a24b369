-- Where nothing is done, no call is made.
use Rattle.std.specs.Prelude.{◌≡◌, ◌≤◌, ℕ, Option, Result, Ok, Err, Some, unwrap_or}
use Rattle.std.specs.FinMap as finite
use Rattle.std.proofs.Common.{ap, arith, subst, sym, ◌∙◌}
use Rattle.std.proofs.lemmas.Option.{none-some, same_Some}
use Rattle.address_map.specs.AddressMap.{AddressMap}
use Rattle.address_map.specs.Places.{Indices}
use Rattle.aff_core.specs.Address.{address_cmp}
use Rattle.lazy_bridge.specs.Few.{ChangesFew}
use Rattle.lazy_bridge.specs.Owned.{HoldsNothing, Owned}
use Rattle.leaf_update.specs.Splice.{KeepsIndices}
use Rattle.solver_store.specs.SolverModel.{StoredLeaves}
use Rattle.cache_layer.specs.FewCalls.{EditsFew}
use Rattle.cache_layer.specs.declared.fault.EditFault.{EditFault}
use Rattle.cache_layer.specs.declared.fault.EditFault.TheVariants.{Memory, Overflow, Refused, Unsupported}

-- ---- indices

same_indices : (m : Indices) → KeepsIndices m m
same_indices m at i j one other = same_Some i j (sym one ∙ other)

no_indices : (old new : Indices) → new ≡ finite.empty → KeepsIndices old new
no_indices old new none at i j one other =
    absurd (none-some j (sym (finite.get-empty address_cmp at)
    ∙ subst (λ (m : Indices). finite.get m at ≡ Some j) none other))

-- ---- what is held

pub few_more : (old new : Owned) (m n : ℕ) → m ≤ n → ChangesFew old m new → ChangesFew old n new
few_more old new m n more few = record {
  rises = few.rises;
  calls = omega (arith, few.calls, more);
  variables = few.variables;
  rows = few.rows;
}

-- the solver's model and the map stay
pub few_kept : (old new : Owned) → new.solver ≡ old.solver → new.map ≡ old.map
    → ChangesFew old 0 new
few_kept old new solver at_map =
    let same : new.solver.leaves.calls ≡ old.solver.leaves.calls =
    ap (λ (s : StoredLeaves). s.leaves.calls) solver in
    record {
      rises = omega (arith, same);
      calls = omega (arith, same);
      variables =
          subst (λ (m : AddressMap). KeepsIndices old.map.vars.indices m.vars.indices) (sym at_map)
          (same_indices old.map.vars.indices);
      rows =
          subst (λ (m : AddressMap). KeepsIndices old.map.rows.indices m.rows.indices) (sym at_map)
          (same_indices old.map.rows.indices);
    }

pub few_same : (old new : Owned) → new ≡ old → ChangesFew old 0 new
few_same old new same =
    few_kept old new (ap (λ (l : Owned). l.solver) same) (ap (λ (l : Owned). l.map) same)

-- all is removed
pub few_cleared : (old new : Owned) → HoldsNothing new
    → new.solver.leaves.calls ≡ old.solver.leaves.calls → ChangesFew old 0 new
few_cleared old new nothing same = record {
  rises = omega (arith, same);
  calls = omega (arith, same);
  variables = no_indices old.map.vars.indices new.map.vars.indices nothing.vars;
  rows = no_indices old.map.rows.indices new.map.rows.indices nothing.rows;
}

-- ---- an edit where no solver is attached

pub edits_same : (result : Result (Option ℕ) EditFault) (old new : Owned) → new ≡ old
    → EditsFew result old new
edits_same (Ok count) old new same =
    few_more old new 0 (unwrap_or count 0) (omega arith) (few_same old new same)
edits_same (Err (Refused refusal)) old new same = few_same old new same
edits_same (Err (Unsupported kind)) old new same = few_same old new same
edits_same (Err (Overflow place)) old new same = few_same old new same
edits_same (Err Memory) old new same = tt
