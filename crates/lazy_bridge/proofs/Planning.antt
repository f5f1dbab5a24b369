-- What an edit touches, planned: each refusal is right, and each call on the way may be made.
use Rattle.std.specs.Prelude.{◌≡◌, ◌++◌, ℕ, List, [], All, IsErrAnd, None, Option, Some, Result, Ok, Err, filter, flat_map, map, not, refl}
use Rattle.std.specs.Borrow.{Bor}
use Rattle.std.specs.List.{filter_map}
use Rattle.std.proofs.Common.{ap, subst, sym, ◌∙◌}
use Rattle.address_map.specs.AddressMap.{AddressMap}
use Rattle.address_map.specs.Noted.{noted_items}
use Rattle.aff_core.specs.Address.{Address}
use Rattle.bridge_set.specs.Bridges.{Bridges, means_of}
use Rattle.bridge_graph.specs.declared.Choice.{Choice}
use Rattle.bridge_plan.specs.AddsHeld.{AddsHeld, kept_of}
use Rattle.bridge_plan.specs.Means.{Means}
use Rattle.bridge_plan.specs.Worked.{IsItemWithinLevels, worked, worked_each, worked_in}
use Rattle.bridge_plan.specs.declared.plan.Plan.{Plan}
use Rattle.found_plan.specs.Read.{is_marked, named_by, own_entries, read_entries}
use Rattle.fresh_bridging.specs.Entries.{Entry, expression_in, put_in}
use Rattle.fresh_bridging.specs.ModelImage.{group_item}
use Rattle.item_core.specs.declared.item.Item.{Item}
use Rattle.item_core.specs.declared.kind.Kind.{Kind}
use Rattle.lazy_bridge.specs.Steps.{AreGroupsOf, IsEditOf, IsEditPlanned, IsFoundBy, IsPassedBy, IsPlannedOf, IsRefusedBy}
use Rattle.lazy_bridge.specs.declared.pushing.Planned.{Planned}
use Rattle.model_bridging.specs.Found.{found_others, kept_over}
use Rattle.model_bridging.specs.Kinds.{first_missing, kind_by, kinds_as_they_stand}
use Rattle.model_bridging.specs.ModelHeld.{unfit, unfit_put}
use Rattle.model_bridging.specs.PlanOutcome.{IsFirstAt, KindsOutcome, PlanOutcome}
use Rattle.model_bridging.specs.declared.fault.PushFault.{PushFault}
use Rattle.model_bridging.specs.declared.fault.PushFault.TheVariants.{Unsupported, Overflow, Memory}
use Rattle.push_laws.specs.Composed.{others_within, overflow_others}
use Rattle.push_laws.specs.Edits.{AreAllOwn, AreChanging, AttachedEdit, IsSearch, choice_here, groups_held, missing_groups, missing_others}
use Rattle.push_laws.specs.RefusedLaws.{groups_within, overflow_groups, unsupported_groups, unsupported_others, unsupported_wide}
use Rattle.touched_items.specs.Differences.{differing_addresses, groups_in, own_variables}
use Rattle.touched_items.specs.HeldExpressions.{stays_as}
use Rattle.touched_items.specs.Search.{AreInOrder, objective_among, row_at}
use Rattle.touched_items.specs.declared.differing.Differing.{Differing}
use Rattle.user_model.specs.Model.{ModelValue}
use Rattle.user_model.specs.declared.group.Group.{Group}
use Rattle.user_model.specs.declared.objective.Objective.{Objective}
use Rattle.user_model.specs.declared.row.Row.{Row}
use Rattle.item_core.specs.Kind.{kind_count}

-- ---- a fault that is handed on

pub handed_made : (e : AttachedEdit) (r : Result Planned PushFault) (f : PushFault)
    → IsErrAnd r (λ x. x ≡ f) → IsRefusedBy e f → IsEditPlanned e r
handed_made e (Ok x) f is h = absurd is
handed_made e (Err g) f is h = subst (IsRefusedBy e) (sym is) h

pub handed_found : {T : Type 0} (e : AttachedEdit) (standing : List Entry) (plan : Plan)
    (items : T → List Address) (r : Result T PushFault) (f : PushFault) → IsErrAnd r (λ x. x ≡ f)
    → IsRefusedBy e f → IsFoundBy r items e standing plan
handed_found e standing plan items (Ok x) f is h = absurd is
handed_found e standing plan items (Err g) f is h = subst (IsRefusedBy e) (sym is) h

-- ---- lists that are lent

module _ (choice : ℕ → Choice) (given items : List (Bor Group)) (same : given ≡ items) where
  abbrev listed : List (Bor Group) → List Item
  listed gs = map group_item (map (λ g. g.now) gs)

  pub none_seen : first_missing choice (kinds_as_they_stand (listed given)) ≡ None
      → first_missing choice (kinds_as_they_stand (listed items)) ≡ None
  none_seen = subst (λ gs. first_missing choice (kinds_as_they_stand (listed gs)) ≡ None) same

  pub refusal_seen : (T : Type 0) (f : PushFault)
      → KindsOutcome {T = T} (Err f) (first_missing choice (kinds_as_they_stand (listed given)))
      → KindsOutcome {T = T} (Err f) (first_missing choice (kinds_as_they_stand (listed items)))
  refusal_seen T f =
      subst (λ gs. KindsOutcome {T = T} (Err f)
      (first_missing choice (kinds_as_they_stand (listed gs)))) same

  pub within_seen : All (IsItemWithinLevels choice kind_count) (listed items)
      → All (IsItemWithinLevels choice kind_count) (listed given)
  within_seen = subst (λ gs. All (IsItemWithinLevels choice kind_count) (listed gs)) (sym same)

  pub fit_seen : unfit choice kind_count (listed given) ≡ None → unfit choice kind_count (listed items) ≡ None
  fit_seen = subst (λ gs. unfit choice kind_count (listed gs) ≡ None) same

  pub adds_seen : (plan new : Plan) (entries : List Entry)
      → AddsHeld plan new [] entries (worked_each choice (worked choice kind_count) (listed given))
      → AddsHeld plan new [] entries (worked_each choice (worked choice kind_count) (listed items))
  adds_seen plan new entries =
      subst (λ gs. AddsHeld plan new [] entries
      (worked_each choice (worked choice kind_count) (listed gs))) same

  unfit_seen : (at : Address) → IsFirstAt (unfit choice kind_count (listed given)) at
      → IsFirstAt (unfit choice kind_count (listed items)) at
  unfit_seen at = subst (λ gs. IsFirstAt (unfit choice kind_count (listed gs)) at) same

  pub overflow_seen : (T : Type 0) (f : PushFault) (Q R : T → Type 0)
      → PlanOutcome (Err f) (unfit choice kind_count (listed given)) Q
      → PlanOutcome (Err f) (unfit choice kind_count (listed items)) R
  overflow_seen T (Unsupported kind) Q R h = h
  overflow_seen T (Overflow at) Q R h = unfit_seen at h
  overflow_seen T Memory Q R h = h

pub order_seen : (places : AddressMap) (d : Differing) (given changed addresses : List Address)
    → given ≡ changed
    → AreInOrder (differing_addresses d ++ flat_map (noted_items places.noted) given) addresses
    → AreInOrder (differing_addresses d ++ flat_map (noted_items places.noted) changed) addresses
order_seen places d given changed addresses same =
    subst (λ vs. AreInOrder (differing_addresses d ++ flat_map (noted_items places.noted) vs)
    addresses) same

module _ (choice : ℕ → Choice) (places : AddressMap) (groups all : List (Bor Group))
    (rows every : List (Bor Row)) (objective : Option Objective) (same : groups ≡ all)
    (also : rows ≡ every) where
  abbrev kinds_seen : List (Bor Group) → List (Bor Row) → Option Kind
  kinds_seen gs rs =
      first_missing choice (map (λ i. kind_by (kept_over choice (is_marked places)
      (map group_item (map (λ g. g.now) gs))) i.body)
      (found_others (map (λ r. r.now) rs) objective))

  pub kinds_outcome_seen : (T : Type 0) (r : Result T PushFault)
      → KindsOutcome r (kinds_seen groups rows) → KindsOutcome r (kinds_seen all every)
  kinds_outcome_seen T r h =
      subst (λ rs. KindsOutcome r (kinds_seen all rs)) also
      (subst (λ gs. KindsOutcome r (kinds_seen gs rows)) same h)

  pub no_kind_seen : kinds_seen groups rows ≡ None → kinds_seen all every ≡ None
  no_kind_seen h =
      subst (λ rs. kinds_seen all rs ≡ None) also
      (subst (λ gs. kinds_seen gs rows ≡ None) same h)

  pub stands_seen : (standing inner : List Entry)
      → expression_in inner ≡ expression_in (own_entries standing (map (λ g. g.now) groups)
      ++ read_entries places (named_by (map (λ r. r.now) rows) objective))
      → expression_in inner ≡ expression_in (own_entries standing (map (λ g. g.now) all)
      ++ read_entries places (named_by (map (λ r. r.now) every) objective))
  stands_seen standing inner h =
      h
      ∙ (λ i. expression_in (own_entries standing (map (λ g. g.now) (same i))
      ++ read_entries places (named_by (map (λ r. r.now) (also i)) objective)))

module _ (choice : ℕ → Choice) (inner : List Entry) (rows every : List (Bor Row))
    (objective : Option Objective) (also : rows ≡ every) where
  abbrev unfit_among : List (Bor Row) → Option Item
  unfit_among rs =
      unfit_put choice kind_count inner (found_others (map (λ r. r.now) rs) objective)

  pub others_unfit_seen : (T : Type 0) (f : PushFault) (Q R : T → Type 0)
      → PlanOutcome (Err f) (unfit_among rows) Q → PlanOutcome (Err f) (unfit_among every) R
  others_unfit_seen T (Unsupported kind) Q R h = h
  others_unfit_seen T (Overflow at) Q R h = subst (λ rs. IsFirstAt (unfit_among rs) at) also h
  others_unfit_seen T Memory Q R h = h

-- the same edit after turns
pub edit_later : (e : AttachedEdit) (bridges later : Bridges) (places : AddressMap) (after read : ModelValue)
    (d : Differing) → means_of later ≡ means_of bridges → read ≡ after
    → IsEditOf e bridges places after d → IsEditOf e later places read d
edit_later e bridges later places after read d same also of = record {
  means = same ∙ of.means;
  mapped = of.mapped;
  model = also ∙ of.model;
  differing = of.differing;
}

module _ (e : AttachedEdit) (bridges : Bridges) (places : AddressMap) (after : ModelValue) (d : Differing)
    (of : IsEditOf e bridges places after d) where
  -- what holds of the parts holds of the edit, and back
  along : (P : Means → AddressMap → ModelValue → Differing → Type 0)
      → P (means_of bridges) places after d → P (means_of e.bridges) e.places e.after e.d
  along P h =
      subst (P (means_of e.bridges) e.places e.after) of.differing
      (subst (λ a. P (means_of e.bridges) e.places a d) of.model
      (subst (λ p. P (means_of e.bridges) p after d) of.mapped
      (subst (λ m. P m places after d) of.means h)))

  back : (P : Means → AddressMap → ModelValue → Differing → Type 0)
      → P (means_of e.bridges) e.places e.after e.d → P (means_of bridges) places after d
  back P h =
      subst (λ m. P m places after d) (sym of.means)
      (subst (λ p. P (means_of e.bridges) p after d) (sym of.mapped)
      (subst (λ a. P (means_of e.bridges) e.places a d) (sym of.model)
      (subst (P (means_of e.bridges) e.places e.after) (sym of.differing) h)))

  -- ---- groups

  abbrev missing_of : Means → Differing → Option Kind
  missing_of m x = first_missing m.choice (kinds_as_they_stand (map group_item (groups_in x.after)))

  trees_here : missing_of (means_of bridges) d ≡ None → missing_groups e ≡ None
  trees_here none = along (λ m p a x. missing_of m x ≡ None) none

  pub groups_refused : (T : Type 0) (f : PushFault)
      → KindsOutcome {T = T} (Err f) (missing_of (means_of bridges) d) → IsRefusedBy e f
  groups_refused T (Unsupported kind) h =
      unsupported_groups e kind (along (λ m p a x. missing_of m x ≡ Some kind) h)
  groups_refused T (Overflow at) h = absurd h
  groups_refused T Memory h = tt

  pub groups_can : missing_of (means_of bridges) d ≡ None
      → All (IsItemWithinLevels (means_of bridges).choice kind_count) (map group_item (groups_in d.after))
  groups_can none =
      back (λ m p a x. All (IsItemWithinLevels m.choice kind_count) (map group_item (groups_in x.after)))
      (groups_within e (trees_here none))

  abbrev outcome_of : {T : Type 0} → Result T PushFault → (T → List Entry) → Plan → Plan → Means
      → Differing → Type 0
  outcome_of r entries_of plan new m x =
      PlanOutcome r (unfit m.choice kind_count (map group_item (groups_in x.after)))
      (λ t. AddsHeld plan new [] (entries_of t)
      (worked_each m.choice (worked m.choice kind_count) (map group_item (groups_in x.after))))

  -- the groups are planned first
  pub groups_planned : (plan new : Plan) (entries standing : List Entry)
      → plan.leaves.items ≡ [] → plan.nodes.items ≡ []
      → missing_of (means_of bridges) d ≡ None
      → unfit (means_of bridges).choice kind_count (map group_item (groups_in d.after)) ≡ None
      → AddsHeld plan new [] entries (worked_each (means_of bridges).choice
      (worked (means_of bridges).choice kind_count) (map group_item (groups_in d.after)))
      → expression_in standing ≡ expression_in entries
      → AreGroupsOf e standing new
  groups_planned plan new entries standing no_leaves no_nodes none fit adds stands =
      let more = along (λ m p a x. AddsHeld plan new [] entries (worked_each m.choice
      (worked m.choice kind_count) (map group_item (groups_in x.after)))) adds in
      record {
        trees = trees_here none;
        fit = along (λ m p a x. unfit m.choice kind_count (map group_item (groups_in x.after)) ≡ None) fit;
        stands = stands ∙ ap expression_in more.entries;
        leaves = more.leaves ∙ ap (λ l. l ++ (groups_held e).leaves) no_leaves;
        nodes = more.nodes ∙ ap (λ l. l ++ map kept_of (groups_held e).nodes) no_nodes;
      }

  -- a number of theirs doesn't fit, and no item lacks a tree
  pub groups_overflow : (T : Type 0) (f : PushFault) (Q : T → Type 0)
      → PlanOutcome (Err f)
      (unfit (means_of bridges).choice kind_count (map group_item (groups_in d.after))) Q
      → IsPassedBy e (Ok tt) → IsRefusedBy e f
  groups_overflow T (Unsupported kind) Q h passed = absurd h
  groups_overflow T (Overflow at) Q h passed =
      passed at
      (along (λ m p a x. IsFirstAt (unfit m.choice kind_count (map group_item (groups_in x.after))) at) h)
  groups_overflow T Memory Q h passed = tt

  pub trees_of : missing_of (means_of bridges) d ≡ None → missing_groups e ≡ None
  trees_of = trees_here

  -- ---- what is found

  module _ (changed addresses : List Address) (rows : List Row) (objective : Option Objective)
      (order : AreInOrder (differing_addresses d ++ flat_map (noted_items places.noted) changed)
      addresses)
      (rows_are : rows ≡ filter_map (row_at after) addresses)
      (objective_is : objective ≡ objective_among after addresses) where
    search : IsSearch e changed addresses rows objective
    search = record {
      order = along (λ m p a x. AreInOrder
          (differing_addresses x ++ flat_map (noted_items p.noted) changed) addresses) order;
      rows_are = along (λ m p a x. rows ≡ filter_map (row_at a) addresses) rows_are;
      objective_is = along (λ m p a x. objective ≡ objective_among a addresses) objective_is;
    }

    abbrev missing_by : Means → AddressMap → Differing → Option Kind
    missing_by m p x =
        first_missing m.choice (map (λ i. kind_by (kept_over m.choice (is_marked p)
        (map group_item (groups_in x.after))) i.body) (found_others rows objective))

    -- by all variables
    all_own : changed ≡ own_variables d → missing_groups e ≡ None → AreAllOwn e changed
    all_own all none = record {
      trees = none;
      all = along (λ m p a x. changed ≡ own_variables x) all;
    }

    pub all_passed : changed ≡ own_variables d → missing_groups e ≡ None
        → (r : Result (Unit {0}) PushFault)
        → KindsOutcome r (missing_by (means_of bridges) places d) → IsPassedBy e r
    all_passed all none (Ok x) h =
        overflow_groups e changed addresses rows objective search (all_own all none)
        (along (λ m p a x. missing_by m p x ≡ None) h)
    all_passed all none (Err (Unsupported kind)) h =
        unsupported_wide e changed addresses rows objective search (all_own all none) kind
        (along (λ m p a x. missing_by m p x ≡ Some kind) h)
    all_passed all none (Err (Overflow at)) h = absurd h
    all_passed all none (Err Memory) h = tt

    -- by those that change
    module _ (standing : List Entry) (plan : Plan) (groups : AreGroupsOf e standing plan)
        (changes : changed
        ≡ filter (λ v. not (stays_as places v (expression_in standing v))) (own_variables d)) where
      changing : AreChanging e standing changed
      changing = record {
        trees = groups.trees;
        fit = groups.fit;
        stands = groups.stands;
        changes = along (λ m p a x. changed
            ≡ filter (λ v. not (stays_as p v (expression_in standing v))) (own_variables x)) changes;
      }

      pub others_refused : (T : Type 0) (f : PushFault)
          → KindsOutcome {T = T} (Err f) (missing_by (means_of bridges) places d) → IsRefusedBy e f
      others_refused T (Unsupported kind) h =
          unsupported_others e changed addresses rows objective search standing changing kind
          (along (λ m p a x. missing_by m p x ≡ Some kind) h)
      others_refused T (Overflow at) h = absurd h
      others_refused T Memory h = tt

      module _ (none : missing_by (means_of bridges) places d ≡ None) (further : List Entry)
          (stands : expression_in further ≡ expression_in (own_entries standing (groups_in d.after)
          ++ read_entries places (named_by rows objective))) where
        trees : missing_others e rows objective ≡ None
        trees = along (λ m p a x. missing_by m p x ≡ None) none

        stands_here : expression_in further
            ≡ expression_in (own_entries standing (groups_in e.d.after)
            ++ read_entries e.places (named_by rows objective))
        stands_here = along (λ m p a x. expression_in further
            ≡ expression_in (own_entries standing (groups_in x.after)
            ++ read_entries p (named_by rows objective))) stands

        pub others_can :
            All (λ item. IsItemWithinLevels (means_of bridges).choice kind_count (put_in further item))
            (found_others rows objective)
        others_can =
            back (λ m p a x. All (λ item. IsItemWithinLevels m.choice kind_count (put_in further item))
            (found_others rows objective))
            (others_within e changed addresses rows objective search standing changing trees further
            stands_here)

        -- a number of theirs doesn't fit
        pub others_overflow : (T : Type 0) (f : PushFault) (Q : T → Type 0)
            → PlanOutcome (Err f) (unfit_put (means_of bridges).choice kind_count further
            (found_others rows objective)) Q
            → IsRefusedBy e f
        others_overflow T (Unsupported kind) Q h = absurd h
        others_overflow T (Overflow at) Q h =
            overflow_others e changed addresses rows objective search standing changing trees further
            stands_here at
            (along (λ m p a x. IsFirstAt (unfit_put m.choice kind_count further
            (found_others rows objective)) at) h)
        others_overflow T Memory Q h = tt

        -- all is planned
        pub all_planned : (new : Plan)
            → unfit_put (means_of bridges).choice kind_count further (found_others rows objective) ≡ None
            → AddsHeld plan new [] [] (worked_in (means_of bridges).choice
            (worked (means_of bridges).choice kind_count) further (found_others rows objective))
            → IsPlannedOf e standing addresses new
        all_planned new fit adds =
            let more = along (λ m p a x. AddsHeld plan new [] [] (worked_in m.choice
            (worked m.choice kind_count) further (found_others rows objective))) adds in
            record {
              step = record {
                standing = standing;
                changed = changed;
                addresses = addresses;
                rows = rows;
                objective = objective;
                further = further;
                leaves = new.leaves.items;
                nodes = new.nodes.items;
                changing = changing;
                search = search;
                trees = trees;
                stands = stands_here;
                planned = record {
                  fit = along (λ m p a x. unfit_put m.choice kind_count further
                      (found_others rows objective) ≡ None) fit;
                  leaves_are = more.leaves
                      ∙ ap (λ l. l ++ (worked_in (choice_here e) (worked (choice_here e) kind_count) further
                      (found_others rows objective)).leaves) groups.leaves;
                  nodes_are = more.nodes
                      ∙ ap (λ l. l ++ map kept_of (worked_in (choice_here e)
                      (worked (choice_here e) kind_count) further (found_others rows objective)).nodes)
                      groups.nodes;
                };
              };
              stands = refl;
              addresses = refl;
              leaves = refl;
              nodes = refl;
            }
