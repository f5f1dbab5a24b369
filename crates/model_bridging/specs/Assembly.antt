-- What a plan of a model says of its fresh bridging.
use Rattle.std.specs.Prelude.{◌≡◌, ℕ, Bool, true, false, ◌&&◌, not, cond, List, [], ◌∷◌, ◌++◌, All, Option, Some, None, Result, Ok, Err, map, refl}
use Rattle.std.proofs.Common.{ap, ap₂, sym, subst, ◌∙◌}
use Rattle.std.specs.Option.{option_map, option_or}
use Rattle.std.proofs.lemmas.Option.{none-some}
use Rattle.bridge_graph.specs.declared.Choice.{Choice}
use Rattle.aff_core.specs.Address.{Address}
use Rattle.aff_core.specs.Function.{Function}
use Rattle.expansion.specs.Bridged.{EachBridged, Fresh}
use Rattle.expansion.specs.Grown.{Held}
use Rattle.expansion.specs.GrownLaws.{held_each, held_in}
use Rattle.expansion.specs.Read.{model_leaves, model_nodes, unfit_each, unfit_in}
use Rattle.bridge_face.specs.Law.{expressed}
use Rattle.item_core.specs.declared.item.Item.{Item}
use Rattle.user_model.specs.Model.{ModelValue, variable_address, variables}
use Rattle.user_model.specs.Valid.{IsValid}
use Rattle.user_model.specs.declared.group.GroupVar.{GroupVar}
use Rattle.item_core.specs.Kind.{kind_count}
use Rattle.fresh_bridging.specs.Entries.{Entry, expression_in, put_in}
use Rattle.fresh_bridging.specs.FreshBridging.{FreshBridging}
use Rattle.fresh_bridging.specs.ModelImage.{model_image}
use Rattle.fresh_bridging.specs.TheRules.{AreChoices, Setting, rules_by}
use Rattle.bridge_plan.specs.AddsHeld.{kept_of}
use Rattle.bridge_plan.specs.Means.{AreSound, Means}
use Rattle.bridge_plan.specs.Trees.{each_bridged, in_bridged, within_bridged}
use Rattle.bridge_plan.specs.Worked.{IsItemWithinLevels, worked, worked_each, worked_in}
use Rattle.model_bridging.specs.Kinds.{first_missing, kinds_told}
use Rattle.model_bridging.specs.Levels.{groups_within, others_within}
use Rattle.model_bridging.specs.ModelHeld.{child_fits, item_fits, unfit, unfit_each_is, unfit_in_is, unfit_put}
use Rattle.model_bridging.specs.PlanOutcome.{PlanOutcome}
use Rattle.model_bridging.specs.Planned.{IsPlanOf, Planned, variables_of_the_model}
use Rattle.model_bridging.specs.Treeless.{groups_found, others_have_trees, trees_there}
use Rattle.model_bridging.specs.Whole.{IsWithinLevels, IsWholePlan, groups_held, kept_among, others_held, unfit_item, with_function}
use Rattle.model_bridging.specs.declared.fault.PushFault.{PushFault}
use Rattle.model_bridging.specs.declared.fault.PushFault.TheVariants.{Memory, Overflow, Unsupported}
use Rattle.model_bridging.specs.declared.model_plan.ModelPlan.{ModelPlan}

-- ---- where none is unfit, all fit

none_first : (b : Bool) (item : Item) (o : Option Item) → cond (not b) (Some item) o ≡ None
    → (b ≡ true) × (o ≡ None)
none_first true item o e = (refl, e)
none_first false item o e = absurd (none-some item (sym e))

none_of_two : (a b : Option Item) → option_or a b ≡ None → (a ≡ None) × (b ≡ None)
none_of_two None b e = (refl, e)
none_of_two (Some item) b e = absurd (none-some item (sym e))

module _ (choice : ℕ → Choice) where
  groups_fit : (items : List Item) → unfit choice kind_count items ≡ None
      → (groups_held choice items).fits ≡ true
  unfolding worked_each
  groups_fit [] e = refl
  groups_fit (item ∷ items) e =
      let parts = none_first (item_fits choice kind_count item) item (unfit choice kind_count items) e in
      ap₂ ◌&&◌ parts.0 (groups_fit items parts.1)

  others_fit : (inner : List Entry) (items : List Item) → unfit_put choice kind_count inner items ≡ None
      → (others_held choice inner items).fits ≡ true
  unfolding worked_in
  others_fit inner [] e = refl
  others_fit inner (item ∷ items) e =
      let parts = none_first (child_fits choice kind_count inner item) item
      (unfit_put choice kind_count inner items) e in
      ap₂ ◌&&◌ parts.0 (others_fit inner items parts.1)

-- ---- the bridging that holds what is worked out

module _ (choice : ℕ → Choice) (model : ModelValue) where
  abbrev items_here : List Item
  items_here = (model_image model).groups

  abbrev further_here : List Item
  further_here = (model_image model).others

  -- a bridging of the model, by what its groups hold
  pub record HasFresh (groups : Held Item Entry) : Type 0 where
    pub fresh : Fresh (rules_by choice) (model_image model)
    pub by_groups : held_each fresh.groups ≡ groups
    pub by_others : held_in fresh.others ≡ others_held choice groups.entries further_here
    pub unfit_group : unfit_each fresh.groups ≡ unfit choice kind_count items_here
    pub unfit_other : unfit_in fresh.others ≡ unfit_put choice kind_count groups.entries further_here

  abbrev Within : List Entry → Type 0
  Within inner = All (λ item. IsItemWithinLevels choice kind_count (put_in inner item)) further_here

  made_of : (inner : List Entry) (trees : EachBridged (rules_by choice) items_here inner)
      → All (IsItemWithinLevels choice kind_count) items_here → Within inner
      → HasFresh (held_each trees)
  made_of inner trees groups others =
      let made = in_bridged choice (worked choice kind_count) (IsItemWithinLevels choice kind_count)
      (within_bridged choice kind_count) inner further_here others in
      record {
        fresh = record { entries = inner; groups = trees; others = made.trees };
        by_groups = refl;
        by_others = made.hold;
        unfit_group = unfit_each_is choice kind_count trees groups;
        unfit_other = unfit_in_is choice kind_count made.trees others;
      }

  pub has_fresh : IsWithinLevels choice items_here further_here
      → HasFresh (groups_held choice items_here)
  has_fresh ready =
      let made = each_bridged choice (worked choice kind_count) (IsItemWithinLevels choice kind_count)
      (within_bridged choice kind_count) items_here ready.groups in
      subst (λ (h : Held Item Entry). Within h.entries → HasFresh h) made.hold
      (made_of made.entries made.trees ready.groups) ready.others

-- ---- answers

-- an address with the function that stands for it
abbrev at_address : List Entry → Address → Address × Function
at_address entries v = (v, expressed (expression_in entries v))

expressions_are : (entries : List Entry) (vars : List GroupVar)
    → map (with_function entries) vars
    ≡ map (at_address entries) (map (λ v. variable_address v.number) vars)
expressions_are entries [] = refl
expressions_are entries (v ∷ vs) =
    ap (λ l. with_function entries v ∷ l) (expressions_are entries vs)

module _ (setting : Setting) (choice : ℕ → Choice) (chosen : AreChoices setting choice)
    (model : ModelValue)
    (ready : IsWithinLevels choice (model_image model).groups (model_image model).others) where
  abbrev found : HasFresh choice model (groups_held choice (model_image model).groups)
  found = has_fresh choice model ready

  abbrev bridging_here : FreshBridging setting model
  bridging_here = record { choice = choice; chosen = chosen; made = found.fresh }

  whole_plan : (planned : ModelPlan)
      → unfit_item choice (model_image model).groups (model_image model).others ≡ None
      → IsWholePlan choice model.groups (model_image model).others planned
      → IsPlanOf setting model planned
  unfolding model_leaves model_nodes
  whole_plan planned none whole =
      let held = groups_held choice (model_image model).groups in
      let both = none_of_two (unfit choice kind_count (model_image model).groups)
      (unfit_put choice kind_count held.entries (model_image model).others) none in
      record {
        bridging = bridging_here;
        made = ap₂ ◌&&◌ (ap (λ (h : Held Item Entry). h.fits) found.by_groups
            ∙ groups_fit choice (model_image model).groups both.0)
            (ap (λ (h : Held Item Entry). h.fits) found.by_others
            ∙ others_fit choice held.entries (model_image model).others both.1);
        leaves = whole.leaves
            ∙ sym (ap₂ ◌++◌ (ap (λ (h : Held Item Entry). h.leaves) found.by_groups)
            (ap (λ (h : Held Item Entry). h.leaves) found.by_others));
        nodes = whole.nodes
            ∙ sym (ap₂ (λ a b. map kept_of (a ++ b))
            (ap (λ (h : Held Item Entry). h.nodes) found.by_groups)
            (ap (λ (h : Held Item Entry). h.nodes) found.by_others));
        exprs = whole.exprs ∙ expressions_are held.entries (variables model)
            ∙ sym (ap (λ (h : Held Item Entry). map (at_address h.entries)
            (variables_of_the_model model)) found.by_groups);
        kept = whole.kept
            ∙ sym (ap (λ (h : Held Item Entry). kept_among h.entries (variables model))
            found.by_groups);
      }

  pub answered : (r : Result ModelPlan PushFault)
      → PlanOutcome r (unfit_item choice (model_image model).groups (model_image model).others)
      (IsWholePlan choice model.groups (model_image model).others)
      → Planned setting model r
  answered (Ok planned) h = whole_plan planned h.0 h.1
  answered (Err (Unsupported kind)) h = absurd h
  answered (Err (Overflow at)) h =
      let same = ap₂ (λ a b. option_map (λ (item : Item). item.at) (option_or a b))
      found.unfit_group found.unfit_other in
      (bridging_here, same ∙ h)
  answered (Err Memory) h = tt

-- ---- what the kinds tell

pub ready_by_kinds : (means : Means) (sound : AreSound means) (model : ModelValue)
    (valid : IsValid model)
    → first_missing means.choice (kinds_told means.choice (model_image model).groups
    (model_image model).others) ≡ None
    → IsWithinLevels means.choice (model_image model).groups (model_image model).others
ready_by_kinds means sound model valid none =
    let setting = means.setting in
    let choice = means.choice in
    let items = (model_image model).groups in
    let first = groups_found setting sound.costly choice sound.chosen sound.lawful model valid
    none in
    let trees = trees_there setting choice sound.chosen items first in
    let groups = groups_within setting sound.costly choice sound.chosen sound.lawful model valid
    trees in
    let made = each_bridged choice (worked choice kind_count) (IsItemWithinLevels choice kind_count)
    (within_bridged choice kind_count) items groups in
    record {
      groups = groups;
      others = subst
          (λ (h : Held Item Entry). All (λ item. IsItemWithinLevels choice kind_count (put_in h.entries item))
          (model_image model).others)
          made.hold
          (others_within setting sound.costly choice sound.chosen sound.lawful model valid
          made.entries made.trees
          (others_have_trees setting sound.costly choice sound.chosen sound.lawful model valid
          made.entries made.trees trees first none));
    }
