-- Bridges that keep what they kept before an edit hold the old nodes.
use Rattle.std.specs.Prelude.{◌≡◌, true, List, [], ◌∷◌, All, map, refl}
use Rattle.std.proofs.Common.{sym, ap, subst, ◌∙◌}
use Rattle.std.proofs.lemmas.List.Elements.{All-map}
use Rattle.bridge_face.specs.BridgeState.{BridgeState, KeptByAddress}
use Rattle.bridge_set.specs.Bridges.{families_of, kept_by, occur_once}
use Rattle.bridge_set.specs.Nodes.{HoldNodes, nodes_by}
use Rattle.item_core.specs.declared.family.Family.{Family}
use Rattle.map_laws.specs.EachLaws.{all_from_map}
use Rattle.push_laws.specs.Edits.{AttachedEdit, old_here}

-- families that keep as much are as many
families_kept : (states : List BridgeState)
    → map (λ (k : Family × KeptByAddress). k.0) (kept_by states) ≡ families_of states
families_kept [] = refl
families_kept (s ∷ ss) = ap (λ l. s.family ∷ l) (families_kept ss)

same_families : (one other : List BridgeState) → kept_by one ≡ kept_by other
    → families_of one ≡ families_of other
same_families one other e =
    sym (families_kept one) ∙ ap (map (λ (k : Family × KeptByAddress). k.0)) e ∙ families_kept other

module _ (e : AttachedEdit) (states : List BridgeState) (same : kept_by states ≡ kept_by e.bridges.states)
  where
    pub hold_nodes : HoldNodes (old_here e) states
    hold_nodes =
        all_from_map (λ (k : Family × KeptByAddress). k.1 ≡ nodes_by (old_here e) k.0)
        (λ (s : BridgeState). (s.family, s.kept)) states
        (subst (All (λ (k : Family × KeptByAddress). k.1 ≡ nodes_by (old_here e) k.0)) (sym same)
        (All-map (λ (k : Family × KeptByAddress). k.1 ≡ nodes_by (old_here e) k.0)
        (λ (s : BridgeState). (s.family, s.kept)) e.bridges.states e.held.kept))

    -- and their families occur once, as they did
    pub once_here : occur_once (families_of states) ≡ true
    once_here = ap occur_once (same_families states e.bridges.states same) ∙ e.once
