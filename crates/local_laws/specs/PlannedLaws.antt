-- What is planned of an item alone is what the whole bridging holds of it: of a row or an objective
-- by entries for the variables that it names, whatever these say of others.
use Rattle.std.specs.Prelude.{◌≡◌, ◌&&◌, Bool, [], List, find, Some, None}
use Rattle.std.proofs.Common.{sym, ap, ap₂, ◌∙◌}
use Rattle.std.specs.Option.{option_or}
use Rattle.aff_core.specs.Address.{Address}
use Rattle.bridge_plan.specs.Trees.{HasBridging}
use Rattle.expansion.specs.Grown.{Held, put_held}
use Rattle.expansion.specs.GrownLaws.{held, held_once}
use Rattle.item_core.specs.declared.item.Item.{Item}
use Rattle.user_model.specs.Model.{ModelValue}
use Rattle.fresh_bridging.specs.Entries.{Entry, put_in}
use Rattle.fresh_bridging.specs.FreshBridging.{FreshBridging}
use Rattle.fresh_bridging.specs.ModelImage.{model_image}
use Rattle.fresh_bridging.specs.TheRules.{Setting, rules_by}
use Rattle.fresh_bridging.specs.Touched.{choice_of_item}
use Rattle.local_laws.specs.AgreeingLaws.{fits_agreeing, put_in_agreeing}
use Rattle.local_laws.specs.Held.{held_at_in, held_of, is_there}
use Rattle.local_laws.specs.HeldLaws.{held_each_at, held_in_at, keeps_own_each, keeps_own_in, none_at_each}
use Rattle.local_laws.specs.Stays.{AgreeOn}
use Rattle.local_laws.specs.StaysLaws.{held_once_at}

module _ {setting : Setting} {model : ModelValue} (bridging : FreshBridging setting model)
    (at : Address) (item : Item) (h : Held Item Entry) where
  pub group_planned : find (is_there at) (model_image model).groups ≡ Some item
      → HasBridging bridging.choice item h → held_of bridging at ≡ Some h
  group_planned f made =
      let is = held_each_at (choice_of_item bridging.choice) at bridging.made.groups
      (keeps_own_each at bridging.made.groups) item f in
      ap (λ o. option_or o (held_at_in at bridging.made.others)) is.is
      ∙ ap Some (held_once is.tree made.tree ∙ made.holds)

  pub other_planned : find (is_there at) (model_image model).groups ≡ None
      → find (is_there at) (model_image model).others ≡ Some item
      → (entries : List Entry) → AgreeOn entries bridging.made.entries item.body
      → HasBridging bridging.choice (put_in entries item) h
      → held_of bridging at ≡ Some (put_held (rules_by bridging.choice) entries item h)
  other_planned none f entries agree made =
      let is = held_in_at (choice_of_item bridging.choice) at bridging.made.others
      (keeps_own_in at bridging.made.others) item f in
      let same : held is.tree ≡ h =
      sym (held_once_at {rules = rules_by bridging.choice} (put_in entries item)
      (put_in bridging.made.entries item) (put_in_agreeing entries bridging.made.entries item agree)
      made.tree is.tree) ∙ made.holds in
      ap₂ option_or (none_at_each at bridging.made.groups none) is.is
      ∙ (λ i. Some (with_fits (sym (fits_agreeing entries bridging.made.entries item agree) i)
      (same i)))
    where
      with_fits : Bool → Held Item Entry → Held Item Entry
      with_fits b held = record held { entries = []; fits = b && held.fits }
