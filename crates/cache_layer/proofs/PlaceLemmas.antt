-- Each address at which a bridging says that a number doesn't fit is that of an item of the model.
use Rattle.std.specs.Prelude.{◌≡◌, ℕ, ◌≤◌, Bool, true, false, ◌&&◌, List, [], ◌∷◌, All, IsSome, is_some, Option, Some, None, cond, if◌then◌else◌, length, map, slice_get, refl}
use Rattle.std.specs.Option.{option_map, option_or}
use Rattle.std.proofs.Common.{arith, ap, get_or, subst, sym, true≢false, ◌∙◌}
use Rattle.std.proofs.lemmas.List.Elements.{All-append, All-cons, All-head, All-map, All-nil, All-tail}
use Rattle.std.proofs.lemmas.Option.{slice_get-get_or}
use Rattle.aff_core.specs.Address.{Address}
use Rattle.expansion.specs.Bridged.{EachBridged, EachBridgedIn, each, each_in, none, none_in}
use Rattle.expansion.specs.Read.{fits, unfit_each, unfit_in}
use Rattle.expansion.specs.Rules.{Rules}
use Rattle.fresh_bridging.specs.Entries.{Entry}
use Rattle.fresh_bridging.specs.FreshBridging.{FreshBridging, unfit_at}
use Rattle.fresh_bridging.specs.ModelImage.{group_item, objective_item, objective_items, row_item}
use Rattle.fresh_bridging.specs.TheRules.{Setting}
use Rattle.item_core.specs.declared.item.Body.TheVariants as body
use Rattle.item_core.specs.declared.item.Item.{Item}
use Rattle.numbered_list.specs.Laws.{find-at}
use Rattle.numbered_list.specs.Numbered.{find}
use Rattle.user_model.specs.Edited.{group_number, row_number}
use Rattle.user_model.specs.Model.{ModelValue}
use Rattle.user_model.specs.Valid.{IsValid, IsValidGroup}
use Rattle.user_model.specs.declared.group.Group.{Group}
use Rattle.user_model.specs.declared.group.GroupVar.{GroupVar}
use Rattle.user_model.specs.declared.objective.Objective.{Objective}
use Rattle.user_model.specs.declared.objective.Objective.TheVariants as objective
use Rattle.user_model.specs.declared.row.Row.{Row}
use Rattle.cache_layer.specs.Bridging.{IsFaultOf}
use Rattle.model_bridging.specs.declared.fault.PushFault.{PushFault}
use Rattle.model_bridging.specs.declared.fault.PushFault.TheVariants as push
use Rattle.bridged_report.specs.Places.{place_at, place_from}
use Rattle.aff_core.specs.declared.root.Root.TheVariants as root
use Rattle.report_core.specs.declared.refused.Place.TheVariants as place
use Rattle.set_core.specs.Shapes.{IsSetOf, is_norm_cone}
use Rattle.set_core.specs.declared.set.Set.{Set}

-- ---- the first item that doesn't fit is one of the items

module _ (P : Item → Type 0) where
  if_unfit : (b : Bool) (o : Option Item) (item unfit : Item) → P item
      → (o ≡ Some unfit → P unfit) → (if b then o else Some item) ≡ Some unfit → P unfit
  if_unfit true o item unfit p q e = q e
  if_unfit false o item unfit p q e = let is : item ≡ unfit = cc in subst P is p

  or_unfit : (a b : Option Item) (unfit : Item) → (a ≡ Some unfit → P unfit)
      → (b ≡ Some unfit → P unfit) → option_or a b ≡ Some unfit → P unfit
  or_unfit None b unfit p q e = q e
  or_unfit (Some item) b unfit p q e = p e

module _ (P : Item → Type 0) {rules : Rules Item Entry} where
  each_unfit : {items : List Item} {entries : List Entry} (trees : EachBridged rules items entries)
      → All P items → (unfit : Item) → unfit_each trees ≡ Some unfit → P unfit
  unfolding unfit_each
  each_unfit none all unfit e = cc
  each_unfit (each {item} {items} first rest) all unfit e =
      if_unfit P (fits first) (unfit_each rest) item unfit (All-head P item items all)
      (each_unfit rest (All-tail P item items all) unfit) e

  in_unfit : {inner : List Entry} {items : List Item} (trees : EachBridgedIn rules inner items)
      → All P items → (unfit : Item) → unfit_in trees ≡ Some unfit → P unfit
  unfolding unfit_in
  in_unfit {inner} none_in all unfit e = cc
  in_unfit {inner} (each_in {item = item} {items = items} first rest) all unfit e =
      if_unfit P (rules.put_in_fits inner item && fits first) (unfit_in rest) item unfit
      (All-head P item items all) (in_unfit rest (All-tail P item items all) unfit) e

-- ---- each item of the model has a place

named : (vars : List GroupVar) → 1 ≤ length vars
    → IsSome (option_map place.Var (option_map (λ (v : GroupVar). v.name) (slice_get vars 0)))
named [] h = absurd (omega (arith, h))
named (var ∷ vars) h = refl

-- a group has a variable at least
least : (b : Bool) (n : ℕ) → cond b 2 1 ≤ n → 1 ≤ n
least true n h = omega (arith, h)
least false n h = h

enough : (set : Set) (n : ℕ) → IsSetOf n set → 1 ≤ n
enough set n h = least (is_norm_cone set) n h.enough

group_found : (model : ModelValue) (group : Group) → IsValidGroup group
    → find group_number group.id model.groups ≡ Some group
    → IsSome (place_from model root.Group group.id)
group_found model group valid found =
    rw found (named group.vars (enough group.set (length group.vars) valid.set))

row_found : (model : ModelValue) (row : Row) → find row_number row.id model.rows ≡ Some row
    → IsSome (place_from model root.Row row.id)
row_found model row found = rw found refl

pub groups_told : (model : ModelValue) → IsValid model
    → All (λ (g : Group). IsSome (place_from model root.Group g.id)) model.groups
groups_told model valid k d within =
    let group = get_or model.groups k d in
    group_found model group (valid.parts.valid_groups k d within)
    (find-at group_number model.groups k group valid.consistent.groups_rise
    (slice_get-get_or model.groups k d within))

pub rows_told : (model : ModelValue) → IsValid model
    → All (λ (r : Row). IsSome (place_from model root.Row r.id)) model.rows
rows_told model valid k d within =
    let row = get_or model.rows k d in
    row_found model row
    (find-at row_number model.rows k row valid.consistent.rows_rise
    (slice_get-get_or model.rows k d within))

abbrev pub IsTold : ModelValue → Item → Type 0
IsTold model item = IsSome (place_at model item.at)

pub objective_told : (model : ModelValue) (objective : Objective)
    → All (IsTold model) (objective_items objective)
objective_told model objective.Feasibility = All-nil (IsTold model)
objective_told model (objective.Plain sense var) =
    All-cons (IsTold model) (objective_item (body.PlainObj sense var)) [] refl
    (All-nil (IsTold model))
objective_told model (objective.Affine sense func) =
    All-cons (IsTold model) (objective_item (body.AffineObj sense func)) [] refl
    (All-nil (IsTold model))

-- ---- the address that is reported

told_at : (model : ModelValue) (o : Option Item) (at : Address)
    → ((unfit : Item) → o ≡ Some unfit → IsTold model unfit)
    → option_map (λ (item : Item). item.at) o ≡ Some at → IsSome (place_at model at)
told_at model None at h e = cc
told_at model (Some item) at h e =
    let is : item.at ≡ at = cc in subst (λ a. IsSome (place_at model a)) is (h item refl)

pub has_place : (setting : Setting) (model : ModelValue) (bridging : FreshBridging setting model)
    (at : Address) → IsValid model → unfit_at bridging ≡ Some at → IsSome (place_at model at)
has_place setting model bridging at valid e =
    let P = IsTold model in
    let groups = All-map P group_item model.groups (groups_told model valid) in
    let others =
    All-append P (map row_item model.rows) (objective_items model.objective)
    (All-map P row_item model.rows (rows_told model valid))
    (objective_told model model.objective) in
    told_at model
    (option_or (unfit_each bridging.made.groups) (unfit_in bridging.made.others)) at
    (λ unfit. or_unfit P (unfit_each bridging.made.groups) (unfit_in bridging.made.others) unfit
    (each_unfit P bridging.made.groups groups unfit) (in_unfit P bridging.made.others others unfit))
    e

-- so a fault of a bridging is always told
pub no_place : (model : ModelValue) (fault : PushFault) (at : Address) → fault ≡ push.Overflow at
    → IsFaultOf model fault → IsValid model → place_at model at ≡ None → ⊥
no_place model fault at is h valid missing =
    let found = subst (IsFaultOf model) is h in
    true≢false
    (sym (has_place found.0 model found.1 at valid found.2) ∙ ap is_some missing)
