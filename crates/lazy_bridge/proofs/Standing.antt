-- A plan that stands in a bridging is the fresh bridging that it plans.
use Rattle.std.specs.Prelude.{◌≡◌, List, [], ◌∷◌, All, map, refl}
use Rattle.std.specs.FinMap as finite
use Rattle.std.proofs.Common.{sym, ap, subst, ◌∙◌}
use Rattle.std.proofs.lemmas.List.Elements.{All-nil, All-cons}
use Rattle.aff_core.specs.Address.{address_cmp}
use Rattle.bridge_set.specs.Bridges.{kept_among, kept_by, keeping}
use Rattle.bridge_face.specs.BridgeState.{BridgeState, KeptByAddress}
use Rattle.bridge_face.specs.declared.kept_item.KeptItem.{KeptItem}
use Rattle.map_laws.specs.EachLaws.{all_from_map}
use Rattle.fresh_bridging.specs.Leaves.{leaf_model_of}
use Rattle.fresh_bridging.specs.TheRules.{Setting}
use Rattle.item_core.specs.declared.family.Family.{Family}
use Rattle.lazy_bridge.specs.Mentioned.{marks_of}
use Rattle.lazy_bridge.specs.Owned.{IsBridgingOf, Owned, setting_in}
use Rattle.lazy_bridge.specs.Plans.{HoldsPlan}
use Rattle.model_bridging.specs.Planned.{IsPlanOf}
use Rattle.model_bridging.specs.declared.model_plan.ModelPlan.{ModelPlan}
use Rattle.user_model.specs.Model.{ModelValue}
use Rattle.user_model.specs.Valid.{IsValid}

-- what each state keeps, by its family
all_kept : (nodes : List KeptItem) (old : List BridgeState)
    → All (λ (p : Family × KeptByAddress). p.1 ≡ kept_among nodes p.0) (map (keeping nodes) old)
all_kept nodes [] = All-nil (λ (p : Family × KeptByAddress). p.1 ≡ kept_among nodes p.0)
all_kept nodes (s ∷ ss) =
    All-cons (λ (p : Family × KeptByAddress). p.1 ≡ kept_among nodes p.0) (keeping nodes s)
    (map (keeping nodes) ss) refl (all_kept nodes ss)

each_keeps : (nodes : List KeptItem) (old new : List BridgeState)
    → kept_by new ≡ map (keeping nodes) old
    → All (λ (s : BridgeState). s.kept ≡ kept_among nodes s.family) new
each_keeps nodes old new e =
    all_from_map (λ (p : Family × KeptByAddress). p.1 ≡ kept_among nodes p.0)
    (λ (s : BridgeState). (s.family, s.kept)) new
    (subst (All (λ (p : Family × KeptByAddress). p.1 ≡ kept_among nodes p.0)) (sym e) (all_kept nodes old))

pub stands : (old new : Owned) (setting : Setting) (model : ModelValue) (planned : ModelPlan)
    → IsPlanOf setting model planned → HoldsPlan old model planned new → setting_in new ≡ setting
    → IsValid model → IsBridgingOf new model
stands old new setting model planned plan holds same valid =
    subst_setting setting (sym same) plan
  where
    subst_setting : (s : Setting) → s ≡ setting_in new → IsPlanOf s model planned
        → IsBridgingOf new model
    subst_setting s e p = there (subst (λ t. IsPlanOf t model planned) e p)
      where
        there : IsPlanOf (setting_in new) model planned → IsBridgingOf new model
        there q = record {
          valid = valid;
          bridging = q.bridging;
          made = q.made;
          leaves = holds.leaves ∙ ap leaf_model_of q.leaves;
          named = holds.named;
          kept =
              subst (λ ns. All (λ (s : BridgeState). s.kept ≡ kept_among ns s.family) new.bridges.states)
              q.nodes
              (each_keeps planned.plan.nodes.items old.bridges.states new.bridges.states holds.kept);
          exprs = holds.exprs ∙ ap (finite.from_entries {R = address_cmp}) q.exprs;
          noted = holds.noted;
          marks = holds.marks ∙ ap marks_of q.kept;
        }
