-- A model's groups alone: what stands for its variables is known once they are bridged, whatever its
-- rows and its objective are.
use Rattle.std.specs.Prelude.{◌≡◌, ◌≢◌, ◌+◌, ◌<◌, ◌≤◌, IsSome, ℕ, Bool, true, false, cond, List, [], ◌∷◌, All, find, map, Option, Some, None, refl}
use Rattle.std.specs.Option.{option_or}
use Rattle.std.proofs.Common.{arith, ap, sym, ◌∙◌, true≢false}
use Rattle.std.proofs.lemmas.List.Elements.{All-append, All-cons, All-map, All-nil, All-weaker}
use Rattle.std.proofs.lemmas.List.Folds.{find-append}
use Rattle.address_laws.specs.DistinctLaws.{others_of_model_apart}
use Rattle.address_laws.specs.Regions.{AtOrBelow}
use Rattle.aff_core.specs.Address.{Address, address_eq, address_eq-Decides, root_address}
use Rattle.aff_core.specs.declared.root.Root.TheVariants as root
use Rattle.bridge_graph.specs.Hypergraph.{IsCostly}
use Rattle.bridge_graph.specs.declared.Choice.{Choice}
use Rattle.expansion.specs.Bridged.{EachBridged, none_in}
use Rattle.fresh_bridging.specs.ChoiceLaws.{one_choice}
use Rattle.fresh_bridging.specs.Entries.{Entry}
use Rattle.fresh_bridging.specs.FreshBridging.{FreshBridging}
use Rattle.fresh_bridging.specs.ModelImage.{group_item, model_image, objective_items, row_item}
use Rattle.fresh_bridging.specs.TheRules.{AreChoices, Setting, graph_of, rules_by}
use Rattle.fresh_bridging.specs.Touched.{item_at}
use Rattle.item_core.specs.Item.{is_group}
use Rattle.item_core.specs.declared.item.Item.{Item}
use Rattle.local_laws.specs.FittingLaws.{AreAlone, alone}
use Rattle.local_laws.specs.Held.{is_there}
use Rattle.local_laws.specs.ListedLaws.{found_nowhere}
use Rattle.local_laws.specs.LookedLaws.{below_itself}
use Rattle.local_laws.specs.StaysLaws.{found_is, groups_are}
use Rattle.map_laws.specs.EachLaws.{all_both}
use Rattle.map_laws.specs.PairLaws.{AllPairs-nil}
use Rattle.numbered_list.specs.Laws.{Rise-head, Rise-tail}
use Rattle.numbered_list.specs.Numbered.{Rise}
use Rattle.user_model.specs.Edited.{group_number, row_number}
use Rattle.user_model.specs.Model.{ModelValue, group_of, is_variable}
use Rattle.user_model.specs.Sets.{sets_lower, sets_upper}
use Rattle.user_model.specs.Valid.{IsValid, IsValidRow, is_created_by}
use Rattle.user_model.specs.declared.group.Group.{Group}
use Rattle.user_model.specs.declared.objective.Objective.{Objective}
use Rattle.user_model.specs.declared.objective.Objective.TheVariants as objective
use Rattle.user_model.specs.declared.row.Row.{Row}

-- ---- the model

abbrev pub only_groups : ModelValue → ModelValue
only_groups model = record model { rows = []; objective = objective.Feasibility }

created_once : (b : Bool) → 0 + cond b 1 0 ≤ 1
created_once true = omega arith
created_once false = omega arith

pub only_groups_valid : (model : ModelValue) → IsValid model → IsValid (only_groups model)
only_groups_valid model valid = record {
  consistent = record {
    groups_rise = valid.consistent.groups_rise;
    variables_rise = valid.consistent.variables_rise;
    rows_rise = record { rising = AllPairs-nil (λ r s. row_number r < row_number s) };
    given_groups = valid.consistent.given_groups;
    given_variables = valid.consistent.given_variables;
    given_rows = All-nil (λ (r : Row). r.id < model.next.row);
    variable_names = valid.consistent.variable_names;
    row_names = AllPairs-nil (λ (r : Row) (s : Row). r.name ≢ s.name);
    bounds = λ n. All-nil (λ (r : Row). is_variable n r.func ≡ true → IsSome (group_of model n));
  };
  within = record {
    variables = valid.within.variables;
    rows = omega arith;
    terms = omega arith;
    group_numbers = valid.within.group_numbers;
    variable_numbers = valid.within.variable_numbers;
    row_numbers = valid.within.row_numbers;
  };
  parts = record {
    valid_groups = valid.parts.valid_groups;
    valid_rows = All-nil (IsValidRow model.groups);
    valid_objective = record {
      stand = λ at e. absurd (true≢false (sym e));
      terms = omega arith;
    };
    lower = λ n. created_once (is_created_by sets_lower model.groups n);
    upper = λ n. created_once (is_created_by sets_upper model.groups n);
  };
}

-- ---- each item is found at its address

found_itself : (items : List Item) → AreAlone items
    → All (λ i. find (is_there i.at) items ≡ Some i) items
found_itself [] h = All-nil (λ i. find (is_there i.at) [] ≡ Some i)
found_itself (x ∷ xs) h =
    All-cons (λ i. find (is_there i.at) (x ∷ xs) ≡ Some i) x xs
    (ap (λ b. cond b (Some x) (find (is_there x.at) xs)) ((address_eq-Decides x.at x.at).1 refl))
    (All-weaker (λ i. (¬ (x.at ≡ i.at)) × (find (is_there i.at) xs ≡ Some i))
    (λ i. find (is_there i.at) (x ∷ xs) ≡ Some i)
    (λ i k. other i k.0 k.1 (is_there i.at x) refl) xs
    (all_both (λ i. ¬ (x.at ≡ i.at)) (λ i. find (is_there i.at) xs ≡ Some i) xs h.0
    (found_itself xs h.1)))
  where
    other : (i : Item) → ¬ (x.at ≡ i.at) → find (is_there i.at) xs ≡ Some i → (b : Bool)
        → is_there i.at x ≡ b → cond b (Some x) (find (is_there i.at) xs) ≡ Some i
    other i n f true e = absurd (n ((address_eq-Decides x.at i.at).0 e))
    other i n f false e = f

groups_apart : (gs : List Group) → Rise group_number gs → AreAlone (map group_item gs)
groups_apart [] rise = tt
groups_apart (g ∷ gs) rise = (
  All-map (λ i. ¬ ((group_item g).at ≡ i.at)) group_item gs
      (All-weaker (λ h. g.id < h.id) (λ h. ¬ ((group_item g).at ≡ (group_item h).at))
      (λ h less e.
      let same : g.id ≡ h.id = ap (λ (a : Address). a.number) e in
      omega (arith, less, same)) gs (Rise-head group_number g gs rise)),
  groups_apart gs (Rise-tail group_number g gs rise),
)

-- a row or an objective stands where no group does
no_group : (at : Address) → ¬ (at.root ≡ root.Group) → (gs : List Group)
    → find (is_there at) (map group_item gs) ≡ None
no_group at other gs =
    found_nowhere root.Group group_item group_number (λ g. refl) at
    (by (address_eq (root_address root.Group at.number) at) refl) gs
  where
    by : (b : Bool) → address_eq (root_address root.Group at.number) at ≡ b → b ≡ false
    by false e = refl
    by true e =
        absurd (other (ap (λ (a : Address). a.root)
        (sym ((address_eq-Decides (root_address root.Group at.number) at).0 e))))

others_elsewhere : (model : ModelValue)
    → All (λ c. find (is_there c.at) (model_image model).groups ≡ None) (model_image model).others
others_elsewhere model =
    All-append Elsewhere (map row_item model.rows) (objective_items model.objective)
    (All-map Elsewhere row_item model.rows (each model.rows)) (last model.objective)
  where
    Elsewhere : Item → Type 0
    Elsewhere c = find (is_there c.at) (map group_item model.groups) ≡ None

    each : (rs : List Row) → All (λ r. Elsewhere (row_item r)) rs
    each [] = All-nil (λ r. Elsewhere (row_item r))
    each (r ∷ rs) =
        All-cons (λ r. Elsewhere (row_item r)) r rs
        (no_group (row_item r).at (λ e. cc) model.groups) (each rs)

    last : (o : Objective) → All Elsewhere (objective_items o)
    last objective.Feasibility = All-nil Elsewhere
    last (objective.Plain sense var) =
        All-cons Elsewhere _ [] (no_group (root_address root.Objective 0) (λ e. cc) model.groups)
        (All-nil Elsewhere)
    last (objective.Affine sense func) =
        All-cons Elsewhere _ [] (no_group (root_address root.Objective 0) (λ e. cc) model.groups)
        (All-nil Elsewhere)

pub groups_found : (model : ModelValue) → IsValid model
    → All (λ g. find (is_there g.at) (model_image model).groups ≡ Some g) (model_image model).groups
groups_found model valid =
    found_itself (model_image model).groups
    (groups_apart model.groups valid.consistent.groups_rise)

-- each is the first item at its address, and no group stands there
pub others_found : (model : ModelValue) → IsValid model
    → All (λ c. (find (is_there c.at) (model_image model).groups ≡ None)
    × (find (is_there c.at) (model_image model).others ≡ Some c)) (model_image model).others
others_found model valid =
    all_both (λ c. find (is_there c.at) (model_image model).groups ≡ None)
    (λ c. find (is_there c.at) (model_image model).others ≡ Some c) (model_image model).others
    (others_elsewhere model)
    (found_itself (model_image model).others
    (alone AtOrBelow below_itself (model_image model).others
    (others_of_model_apart model.rows model.objective valid.consistent.rows_rise)))

pub in_others : (model : ModelValue) (at : Address) (item : Item) → item_at model at ≡ Some item
    → is_group item.body ≡ false → find (is_there at) (model_image model).others ≡ Some item
in_others model at item is other =
    by (find (is_there at) (model_image model).groups) refl
    (sym (find-append (is_there at) (model_image model).groups (model_image model).others) ∙ is)
  where
    by : (o : Option Item) → find (is_there at) (model_image model).groups ≡ o
        → option_or (find (is_there at) (model_image model).groups)
        (find (is_there at) (model_image model).others) ≡ Some item
        → find (is_there at) (model_image model).others ≡ Some item
    by None f e = sym (ap (λ o. option_or o (find (is_there at) (model_image model).others)) f) ∙ e
    by (Some x) f e =
        absurd (true≢false (sym (found_is (λ i. is_group i.body ≡ true) (is_there at)
        (model_image model).groups item (groups_are model)
        (f ∙ sym (ap (λ o. option_or o (find (is_there at) (model_image model).others)) f) ∙ e))
        ∙ other))

item_of_other : (model : ModelValue) (at : Address) (item : Item)
    → find (is_there at) (model_image model).groups ≡ None
    → find (is_there at) (model_image model).others ≡ Some item → item_at model at ≡ Some item
item_of_other model at item none f =
    find-append (is_there at) (model_image model).groups (model_image model).others
    ∙ ap (λ o. option_or o (find (is_there at) (model_image model).others)) none
    ∙ f

pub others_there : (model : ModelValue) → IsValid model
    → All (λ c. item_at model c.at ≡ Some c) (model_image model).others
others_there model valid =
    All-weaker
    (λ c. (find (is_there c.at) (model_image model).groups ≡ None)
    × (find (is_there c.at) (model_image model).others ≡ Some c))
    (λ c. item_at model c.at ≡ Some c)
    (λ c h. item_of_other model c.at c h.0 h.1) (model_image model).others
    (others_found model valid)

-- ---- bridged

-- with the groups bridged their model by itself is
abbrev pub alone_by : (setting : Setting) (choice : ℕ → Choice) → AreChoices setting choice
    → (after : ModelValue) (entries : List Entry)
    → EachBridged (rules_by choice) (model_image after).groups entries
    → FreshBridging setting (only_groups after)
alone_by setting choice chosen after entries trees = record {
  choice = choice;
  chosen = chosen;
  made = record { entries = entries; groups = trees; others = none_in };
}

pub one_for_all : (setting : Setting) → IsCostly (graph_of setting) → (choice other : ℕ → Choice)
    → AreChoices setting choice → AreChoices setting other → choice ≡ other
one_for_all setting costly choice other chosen chosen_too =
    λ i kind. one_choice (graph_of setting) costly kind (choice kind) (other kind) (chosen kind)
    (chosen_too kind) i
