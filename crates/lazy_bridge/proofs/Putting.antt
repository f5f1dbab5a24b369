-- Bridgings that hold the same leaves under the same indices.
use Rattle.std.specs.Prelude.{◌≡◌, ℕ, List, All}
use Rattle.std.specs.FinMap as finite
use Rattle.std.proofs.Common.{sym, ap, subst, ◌∙◌}
use Rattle.std.proofs.lemmas.List.Elements.{All-map}
use Rattle.address_map.specs.AddressMap.{AddressMap}
use Rattle.aff_core.specs.Address.{Address}
use Rattle.bridge_set.specs.Bridges.{kept_by}
use Rattle.bridge_face.specs.BridgeState.{BridgeState, KeptByAddress}
use Rattle.bridge_plan.specs.Means.{Means}
use Rattle.item_core.specs.declared.family.Family.{Family}
use Rattle.lazy_bridge.specs.Owned.{HasLeavesOf, HoldsNothing, Owned, leaf_model_in}
use Rattle.lazy_bridge.specs.Pushed.{IsTried}
use Rattle.leaf_update.specs.Splice.{IsChangedTo}
use Rattle.leaf_model.specs.LeafModel.{LeafModel}
use Rattle.map_laws.specs.EachLaws.{all_from_map}
use Rattle.solver_store.specs.SolverModel.{StoredLeaves}

-- a bridging in which the planning step was tried
pub tried_leaves : (old new : Owned) → IsTried old new → HasLeavesOf old new
tried_leaves old new h = record {
  setting = ap (λ (m : Means). m.setting) h.means;
  solver = h.solver;
  vars = ap (λ (m : AddressMap). m.vars) h.map;
  rows = ap (λ (m : AddressMap). m.rows) h.map;
  objective_at = h.objective_at;
}

pub leaves_both : (a b c : Owned) → HasLeavesOf a b → HasLeavesOf b c → HasLeavesOf a c
leaves_both a b c first second = record {
  setting = second.setting ∙ first.setting;
  solver = second.solver ∙ first.solver;
  vars = second.vars ∙ first.vars;
  rows = second.rows ∙ first.rows;
  objective_at = second.objective_at ∙ first.objective_at;
}

pub read_alike : (old now : Owned) → HasLeavesOf old now → leaf_model_in now ≡ leaf_model_in old
read_alike old now same = λ i. leaf_model_in (record {
  bridges = now.bridges;
  solver = same.solver i;
  map = record now.map { vars = same.vars i; rows = same.rows i };
  objective_at = same.objective_at i;
})

-- where nothing is held, the planning step leaves nothing
none_kept : (states : List BridgeState) → All (λ (s : BridgeState). s.kept ≡ finite.empty) states
    → All (λ (k : Family × KeptByAddress). k.1 ≡ finite.empty) (kept_by states)
none_kept states h = All-map (λ (k : Family × KeptByAddress). k.1 ≡ finite.empty)
    (λ (s : BridgeState). (s.family, s.kept)) states h

pub nothing_tried : (old new : Owned) → IsTried old new → HoldsNothing old
    → All (λ (s : BridgeState). s.kept ≡ finite.empty) new.bridges.states
nothing_tried old new same h =
    all_from_map (λ (k : Family × KeptByAddress). k.1 ≡ finite.empty)
    (λ (s : BridgeState). (s.family, s.kept)) new.bridges.states
    (subst (All (λ (k : Family × KeptByAddress). k.1 ≡ finite.empty))
    (sym (ap (λ (m : Means). m.kept) same.means)) (none_kept old.bridges.states h.kept))

-- ---- what depends on a map's leaves and expressions alone

pub record HasLeavesAndExpressions (one other : AddressMap) : Type 0 where
  pub vars : other.vars ≡ one.vars
  pub rows : other.rows ≡ one.rows
  pub exprs : other.exprs ≡ one.exprs

abbrev like : AddressMap → AddressMap → AddressMap
like one other = record one { vars = other.vars; rows = other.rows; exprs = other.exprs }

-- what was changed stands as it did once mentions and marks are others
pub changed_since : (leaves : LeafModel) (solver after : StoredLeaves) (start start_now put now : AddressMap)
    (at at_after : Address) (n : ℕ) → HasLeavesAndExpressions start start_now
    → HasLeavesAndExpressions put now → IsChangedTo leaves solver start at n after put at_after
    → IsChangedTo leaves solver start_now at n after now at_after
changed_since leaves solver after start start_now put now at at_after n first last h =
    let back : IsChangedTo leaves solver (like start start_now) at n after (like put now) at_after =
    subst (λ (m : AddressMap). IsChangedTo leaves solver (like start start_now) at n after m at_after)
    (same put now last)
    (subst (λ (m : AddressMap). IsChangedTo leaves solver m at n after put at_after)
    (same start start_now first) h) in
    record {
      through = back.through;
      named = record {
        vars = back.named.vars;
        rows = back.named.rows;
        each_row = back.named.each_row;
        objective = back.named.objective;
      };
      exprs = back.exprs;
      vars = back.vars;
      rows = back.rows;
      counted = back.counted;
      rises = back.rises;
      calls = back.calls;
    }
  where
    same : (one other : AddressMap) → HasLeavesAndExpressions one other → one ≡ like one other
    same one other h = λ i. record one {
      vars = sym h.vars i;
      rows = sym h.rows i;
      exprs = sym h.exprs i;
    }
