-- A user's model, planned whole: what its groups hold, and its further items with the groups'
-- expressions put in.
use Rattle.std.specs.Prelude.{◌≡◌, ℕ, List, ◌++◌, All, Option, filter, flat_map, map}
use Rattle.std.specs.Option.{option_or}
use Rattle.bridge_graph.specs.declared.Choice.{Choice}
use Rattle.aff_core.specs.Address.{Address}
use Rattle.aff_core.specs.Function.{Function}
use Rattle.expansion.specs.Grown.{Held}
use Rattle.item_core.specs.declared.item.Item.{Item}
use Rattle.user_model.specs.Model.{variable_address}
use Rattle.user_model.specs.declared.group.Group.{Group}
use Rattle.user_model.specs.declared.group.GroupVar.{GroupVar}
use Rattle.item_core.specs.Kind.{kind_count}
use Rattle.fresh_bridging.specs.Entries.{Entry, expression_in, function_in, is_kept, put_in}
use Rattle.fresh_bridging.specs.ModelImage.{group_item}
use Rattle.bridge_plan.specs.AddsHeld.{kept_of}
use Rattle.bridge_plan.specs.Worked.{IsItemWithinLevels, worked, worked_each, worked_in}
use Rattle.model_bridging.specs.declared.model_plan.ModelPlan.{ModelPlan}
use Rattle.model_bridging.specs.ModelHeld.{unfit, unfit_put}

-- a variable's address with the function that stands for it
abbrev pub with_function : List Entry → GroupVar → Address × Function
with_function entries v =
    (variable_address v.number, function_in entries (variable_address v.number))

-- the addresses of those of the variables for which a variable stands as it is
abbrev pub kept_among : List Entry → List GroupVar → List Address
kept_among entries vars =
    filter (λ v. is_kept (expression_in entries v)) (map (λ v. variable_address v.number) vars)

module _ (choice : ℕ → Choice) where
  abbrev pub groups_held : List Item → Held Item Entry
  groups_held items = worked_each choice (worked choice kind_count) items

  abbrev pub others_held : List Entry → List Item → Held Item Entry
  others_held inner items = worked_in choice (worked choice kind_count) inner items

  -- these groups and the other items are within the levels that there are
  pub record IsWithinLevels (items further : List Item) : Type 0 where
    pub groups : All (IsItemWithinLevels choice kind_count) items
    pub others :
        All (λ item. IsItemWithinLevels choice kind_count (put_in (groups_held items).entries item)) further

  -- the first of them that doesn't fit
  abbrev pub unfit_item : List Item → List Item → Option Item
  unfit_item items further =
      option_or (unfit choice kind_count items) (unfit_put choice kind_count (groups_held items).entries further)

  -- the plan has what they hold, each variable with its expression as a function, and those that are
  -- kept
  pub record IsWholePlan (groups : List Group) (further : List Item)
      (planned : ModelPlan) : Type 0 where
    pub leaves :
        let held = groups_held (map group_item groups) in
        planned.plan.leaves.items ≡ held.leaves ++ (others_held held.entries further).leaves
    pub nodes :
        let held = groups_held (map group_item groups) in
        planned.plan.nodes.items
        ≡ map kept_of (held.nodes ++ (others_held held.entries further).nodes)
    pub exprs :
        let held = groups_held (map group_item groups) in
        planned.exprs.items
        ≡ map (with_function held.entries) (flat_map (λ g. g.vars) groups)
    pub kept :
        let held = groups_held (map group_item groups) in
        planned.kept.items ≡ kept_among held.entries (flat_map (λ g. g.vars) groups)
