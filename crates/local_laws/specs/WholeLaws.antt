-- The leaves and nodes after a change as maps: those before, less what goes, with what is planned.
use Rattle.std.specs.Prelude.{◌≡◌, ◌⊎◌, List, AllPairs, Contains}
use Rattle.std.specs.FinMap as finite
use Rattle.std.specs.Option.{option_or}
use Rattle.std.proofs.Common.{inl, inr, sym, ap, ap₂, ◌∙◌}
use Rattle.expansion.specs.Read.{model_leaves, model_nodes}
use Rattle.aff_core.specs.Address.{Address, address_cmp, address_total, exact_addresses}
use Rattle.map_laws.specs.MadeLaws.{get_made}
use Rattle.user_model.specs.Model.{ModelValue}
use Rattle.fresh_bridging.specs.FreshBridging.{FreshBridging, leaves_of, nodes_of}
use Rattle.fresh_bridging.specs.Leaves.{leaf_objectives, leaf_rows, leaf_variables}
use Rattle.fresh_bridging.specs.TheRules.{Setting}
use Rattle.leaf_update.specs.Splice.{spliced, without_all}
use Rattle.leaf_update.specs.SplicedLaws.{get_left, get_put_all, get_without}
use Rattle.local_laws.specs.ChangedLaws.{IsGone, gone_now, is_now, planned, planned_now}
use Rattle.local_laws.specs.Held.{held_by}
use Rattle.local_laws.specs.LookedLaws.{contains_or_not}
use Rattle.local_laws.specs.Sound.{IsValidUnder}
use Rattle.local_laws.specs.Stays.{StaysAt}
use Rattle.local_laws.specs.Views.{IsView, Part, nodes_view, objectives_view, of_leaves, of_nodes, rows_view, variables_view}

module _ {setting next : Setting} {model after : ModelValue} (sound : IsValidUnder setting model)
    (sound_after : IsValidUnder next after)
    (old : FreshBridging setting model) (new : FreshBridging next after)
    (found : List Address)
    (others : (at : Address) → ¬ (Contains found at) → StaysAt old new at) where
  module _ {X : Type 0} (part : Part X) (view : IsView part) (gone : List Address)
      (are : IsGone sound sound_after old new found part view gone)
      (apart : AllPairs (λ d e. ¬ (e.0 ≡ d.0)) (held_by new part found)) where
    whole_changed :
        finite.from_entries {R = address_cmp} (part (model_leaves new.made) (model_nodes new.made))
        ≡ spliced (finite.from_entries (part (model_leaves old.made) (model_nodes old.made))) gone
        (held_by new part found)
    whole_changed = finite.same_map address_total exact_addresses _ _ each
      where
        before : finite.FinMap address_cmp X
        before = finite.from_entries (part (model_leaves old.made) (model_nodes old.made))

        each : (v : Address)
            → finite.get (finite.from_entries {R = address_cmp}
            (part (model_leaves new.made) (model_nodes new.made))) v
            ≡ finite.get (spliced before gone (held_by new part found)) v
        each v =
            get_made address_total (part (model_leaves new.made) (model_nodes new.made)) v
            ∙ by (contains_or_not gone v)
            ∙ sym (get_put_all v (without_all before gone) (held_by new part found) apart)
          where
            by : Contains gone v ⊎ (¬ (Contains gone v))
                → is_now sound sound_after old new found part view v
                ≡ option_or (planned sound sound_after old new found part view v)
                (finite.get (without_all before gone) v)
            by (inl c) =
                gone_now sound sound_after old new found part view others gone are v c
                ∙ sym (ap₂ option_or (are.from v c).0 (get_without v before gone c))
            by (inr n) =
                planned_now sound sound_after old new found part view others gone are v n
                ∙ ap (option_or (planned sound sound_after old new found part view v))
                (sym (get_made address_total (part (model_leaves old.made) (model_nodes old.made)) v)
                ∙ sym (get_left v before gone n))

  -- so for each of the four maps
  pub nodes_changed : (gone : List Address)
      → IsGone sound sound_after old new found of_nodes nodes_view gone
      → AllPairs (λ d e. ¬ (e.0 ≡ d.0)) (held_by new of_nodes found)
      → nodes_of new ≡ spliced (nodes_of old) gone (held_by new of_nodes found)
  nodes_changed gone are apart = whole_changed of_nodes nodes_view gone are apart

  pub variables_changed : (gone : List Address)
      → IsGone sound sound_after old new found (of_leaves leaf_variables) variables_view gone
      → AllPairs (λ d e. ¬ (e.0 ≡ d.0)) (held_by new (of_leaves leaf_variables) found)
      → (leaves_of new).variables
      ≡ spliced (leaves_of old).variables gone (held_by new (of_leaves leaf_variables) found)
  variables_changed gone are apart =
      whole_changed (of_leaves leaf_variables) variables_view gone are apart

  pub rows_changed : (gone : List Address)
      → IsGone sound sound_after old new found (of_leaves leaf_rows) rows_view gone
      → AllPairs (λ d e. ¬ (e.0 ≡ d.0)) (held_by new (of_leaves leaf_rows) found)
      → (leaves_of new).rows ≡ spliced (leaves_of old).rows gone (held_by new (of_leaves leaf_rows) found)
  rows_changed gone are apart = whole_changed (of_leaves leaf_rows) rows_view gone are apart

  pub objective_changed : (gone : List Address)
      → IsGone sound sound_after old new found (of_leaves leaf_objectives) objectives_view gone
      → AllPairs (λ d e. ¬ (e.0 ≡ d.0)) (held_by new (of_leaves leaf_objectives) found)
      → (leaves_of new).objective
      ≡ spliced (leaves_of old).objective gone (held_by new (of_leaves leaf_objectives) found)
  objective_changed gone are apart =
      whole_changed (of_leaves leaf_objectives) objectives_view gone are apart
