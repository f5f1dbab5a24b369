-- Where no item that a change touches owns an address, before or after, there stands at it what
-- stood there: in each of the three maps of leaves, and among the nodes.
use Rattle.std.specs.Prelude.{◌≡◌, ◌⊎◌, flat_map, map, Option}
use Rattle.std.proofs.Common.{inl, inr, sym, ap, ◌∙◌}
use Rattle.std.specs.FinMap as finite
use Rattle.map_laws.specs.MadeLaws.{get_made}
use Rattle.expansion.specs.Read.{model_leaves, model_nodes}
use Rattle.aff_core.specs.Address.{Address, address_total}
use Rattle.user_model.specs.Model.{ModelValue}
use Rattle.fresh_bridging.specs.FreshBridging.{FreshBridging, leaves_of, nodes_of}
use Rattle.fresh_bridging.specs.Leaves.{leaf_objectives, leaf_rows, leaf_variables}
use Rattle.fresh_bridging.specs.TheRules.{Setting}
use Rattle.fresh_bridging.specs.Touched.{IsTouched}
use Rattle.local_laws.specs.LookedLaws.{looked, nobody_looks, owner_looks, owner_or_none}
use Rattle.local_laws.specs.Owner.{IsOwner}
use Rattle.local_laws.specs.Sound.{IsValidUnder}
use Rattle.local_laws.specs.Stays.{StaysAt}
use Rattle.local_laws.specs.StaysLaws.{holds_alike, untouched_stays}
use Rattle.local_laws.specs.Views.{IsView, Part, look_in, nodes_view, objectives_view, of_leaves, of_nodes, rows_view, variables_view}

module _ {setting next : Setting} {model after : ModelValue}
    (old : FreshBridging setting model) (new : FreshBridging next after) where
  -- the item that owns the address, before or after, stays as it is
  pub record IsClear (v : Address) : Type 0 where
    pub before : (at : Address) → IsOwner model v at → StaysAt old new at
    pub behind : (at : Address) → IsOwner after v at → StaysAt old new at

  -- as where no item that the change touches owns it
  pub clear_untouched : (v : Address)
      → ((at : Address) → IsOwner model v at → ¬ (IsTouched old new at))
      → ((at : Address) → IsOwner after v at → ¬ (IsTouched old new at)) → IsClear v
  clear_untouched v before behind = record {
    before = λ at o. untouched_stays old new at (before at o);
    behind = λ at o. untouched_stays old new at (behind at o);
  }

module _ {setting next : Setting} {model after : ModelValue} (sound : IsValidUnder setting model)
    (sound_after : IsValidUnder next after)
    (old : FreshBridging setting model) (new : FreshBridging next after)
    (v : Address) (clear : IsClear old new v) where
  module _ {X : Type 0} (part : Part X) (view : IsView part) where
    abbrev before : Option X
    before = looked setting sound.costly sound.lawful model sound.valid old part view v

    abbrev behind : Option X
    behind =
        looked next sound_after.costly sound_after.lawful after sound_after.valid new part view v

    looked_alike : before ≡ behind
    looked_alike =
        by (owner_or_none setting sound.costly sound.lawful model sound.valid old v)
        (owner_or_none next sound_after.costly sound_after.lawful after sound_after.valid new v)
      where
        by : ((at : Address) × IsOwner model v at) ⊎ ((at : Address) → ¬ (IsOwner model v at))
            → ((at : Address) × IsOwner after v at) ⊎ ((at : Address) → ¬ (IsOwner after v at))
            → before ≡ behind
        by (inl (at, o)) behind_it =
            owner_looks setting sound.costly sound.lawful model sound.valid old part view v at o
            ∙ ap (look_in v part) (holds_alike old new at (clear.before at o))
            ∙ sym (owner_looks next sound_after.costly sound_after.lawful after sound_after.valid
            new part view v at (record {
              item = o.item;
              is = sym ((clear.before at o).same) ∙ o.is;
              mine = o.mine;
            }))
        by (inr n) (inl (at, o)) =
            absurd (n at (record {
              item = o.item;
              is = (clear.behind at o).same ∙ o.is;
              mine = o.mine;
            }))
        by (inr n) (inr m) =
            nobody_looks setting sound.costly sound.lawful model sound.valid old part view v n
            ∙ sym (nobody_looks next sound_after.costly sound_after.lawful after sound_after.valid
            new part view v m)

  pub nodes_stay : finite.get (nodes_of old) v ≡ finite.get (nodes_of new) v
  nodes_stay =
      get_made address_total (map (λ n. (n.1.at, n)) (model_nodes old.made)) v
      ∙ looked_alike of_nodes nodes_view
      ∙ sym (get_made address_total (map (λ n. (n.1.at, n)) (model_nodes new.made)) v)

  pub variables_stay :
      finite.get (leaves_of old).variables v ≡ finite.get (leaves_of new).variables v
  variables_stay =
      get_made address_total (flat_map leaf_variables (model_leaves old.made)) v
      ∙ looked_alike (of_leaves leaf_variables) variables_view
      ∙ sym (get_made address_total (flat_map leaf_variables (model_leaves new.made)) v)

  pub rows_stay : finite.get (leaves_of old).rows v ≡ finite.get (leaves_of new).rows v
  rows_stay =
      get_made address_total (flat_map leaf_rows (model_leaves old.made)) v
      ∙ looked_alike (of_leaves leaf_rows) rows_view
      ∙ sym (get_made address_total (flat_map leaf_rows (model_leaves new.made)) v)

  pub objective_stays :
      finite.get (leaves_of old).objective v ≡ finite.get (leaves_of new).objective v
  objective_stays =
      get_made address_total (flat_map leaf_objectives (model_leaves old.made)) v
      ∙ looked_alike (of_leaves leaf_objectives) objectives_view
      ∙ sym (get_made address_total (flat_map leaf_objectives (model_leaves new.made)) v)
