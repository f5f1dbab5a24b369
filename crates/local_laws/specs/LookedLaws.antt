-- In the fresh bridging of a valid model: what stands at an address is what the owner of the
-- address holds there.
use Rattle.std.specs.Prelude.{◌≡◌, ◌⊎◌, ◌++◌, Bool, true, false, cond, List, [], ◌∷◌, All, Contains, find, map, Option, Some, None, refl}
use Rattle.std.proofs.Common.{inl, inr, sym, ap, ap₂, subst, ◌∙◌, true≢false}
use Rattle.std.specs.Option.{option_or}
use Rattle.std.proofs.lemmas.List.Elements.{All-append, All-cons, All-contains, All-nil, All-weaker}
use Rattle.std.proofs.lemmas.List.Folds.{find-append}
use Rattle.std.proofs.lemmas.Option.{none-some, same_Some}
use Rattle.bridge_graph.specs.Hypergraph.{IsCostly}
use Rattle.expansion.specs.Read.{leaves_in, leaves_of_each, model_leaves, model_nodes, nodes_in, nodes_of_each}
use Rattle.aff_core.specs.Address.{Address, address_eq, address_eq-Decides}
use Rattle.item_core.specs.declared.item.Body.TheVariants.{PlainObj, AffineObj}
use Rattle.item_core.specs.declared.item.Item.{Item}
use Rattle.item_core.specs.Item.{is_group}
use Rattle.item_core.specs.Valid.{below}
use Rattle.map_laws.specs.EachLaws.{all_both, contains_here, contains_later}
use Rattle.user_model.specs.Model.{ModelValue}
use Rattle.user_model.specs.Valid.{IsValid}
use Rattle.user_model.specs.declared.group.Group.{Group as UserGroup}
use Rattle.user_model.specs.declared.objective.Objective.{Objective}
use Rattle.user_model.specs.declared.objective.Objective.TheVariants as objective
use Rattle.user_model.specs.declared.row.Row.{Row}
use Rattle.fresh_bridging.specs.CanLaws.{AreLawful}
use Rattle.fresh_bridging.specs.FreshBridging.{FreshBridging}
use Rattle.fresh_bridging.specs.ModelImage.{group_item, model_image, objective_item, objective_items, row_item}
use Rattle.fresh_bridging.specs.TheRules.{Setting, graph_of}
use Rattle.fresh_bridging.specs.Touched.{choice_of_item}
use Rattle.address_laws.specs.Apart.{in_or_not, not_in}
use Rattle.address_laws.specs.DistinctLaws.{MineNow, groups_of_model_apart, model_beside, model_groups_here, model_others_below, model_others_here, others_of_model_apart, vars_distinct}
use Rattle.address_laws.specs.KeyLaws.{itself_below, other_below}
use Rattle.address_laws.specs.Keys.{Mine, own}
use Rattle.address_laws.specs.Regions.{AreRegionsApart, AtOrBelow, apart_less}
use Rattle.local_laws.specs.Held.{held_at_in, held_of, is_there}
use Rattle.local_laws.specs.HeldLaws.{held_each_at, keeps_own_each, none_at_each}
use Rattle.local_laws.specs.Owner.{IsOwner}
use Rattle.local_laws.specs.OwnerLaws.{IsHomeIn, found_in_each, found_in_others, home_or_none, none_in_each, none_in_others}
use Rattle.local_laws.specs.StaysLaws.{found_is, others_are}
use Rattle.local_laws.specs.Views.{IsView, Part, look, look-append, look_in}
use Rattle.item_leaves.specs.ItemLeaves.{item_of}

pub found_passes : (p : Item → Bool) (items : List Item) (x : Item) → find p items ≡ Some x
    → p x ≡ true
found_passes p [] x f = absurd (none-some x f)
found_passes p (y ∷ ys) x f = step (p y) refl f (λ g. found_passes p ys x g)
  where
    step : (b : Bool) → p y ≡ b → cond b (Some y) (find p ys) ≡ Some x
        → (find p ys ≡ Some x → p x ≡ true) → p x ≡ true
    step true e g later = subst (λ z. p z ≡ true) (same_Some y x g) e
    step false e g later = later g

below_or_not : (item : Item) → item.at.positions ≡ [] → (v : Address)
    → AtOrBelow item v ⊎ (¬ (AtOrBelow item v))
below_or_not item e v = by (address_eq item.at (item_of v)) refl
  where
    whole : (at : Address) → at.positions ≡ [] → at ≡ item_of at
    whole at e = λ i. record at { positions = e i }

    by : (b : Bool) → address_eq item.at (item_of v) ≡ b
        → AtOrBelow item v ⊎ (¬ (AtOrBelow item v))
    by true is =
        inl (record {
          rest = v.positions;
          is = ap (λ (a : Address). below a v.positions)
              (sym ((address_eq-Decides item.at (item_of v)).0 is));
        })
    by false is =
        inr (λ b. true≢false (sym ((address_eq-Decides item.at (item_of v)).1
        (whole item.at e ∙ ap item_of (sym b.is))) ∙ is))

pub contains_or_not : (vs : List Address) (v : Address) → Contains vs v ⊎ (¬ (Contains vs v))
contains_or_not vs v = by (in_or_not vs v)
  where
    by : Contains vs v ⊎ All (λ k. ¬ (k ≡ v)) vs → Contains vs v ⊎ (¬ (Contains vs v))
    by (inl c) = inl c
    by (inr n) = inr (not_in vs v n)

pub mine_or_not : (item : Item) → item.at.positions ≡ [] → (v : Address)
    → Mine item v ⊎ (¬ (Mine item v))
mine_or_not item e v = by (below_or_not item e v) (contains_or_not (own item) v)
  where
    by : AtOrBelow item v ⊎ (¬ (AtOrBelow item v))
        → Contains (own item) v ⊎ (¬ (Contains (own item) v)) → Mine item v ⊎ (¬ (Mine item v))
    by (inl b) c = inl (inl b)
    by (inr n) (inl c) = inl (inr c)
    by (inr n) (inr m) = inr neither
      where
        neither : ¬ (Mine item v)
        neither (inl b) = n b
        neither (inr c) = m c

group_tests : (v : Address) (gs : List UserGroup)
    → All (λ i. Mine i v ⊎ (¬ (Mine i v))) (map group_item gs)
group_tests v [] = All-nil (λ i. Mine i v ⊎ (¬ (Mine i v)))
group_tests v (g ∷ gs) =
    All-cons (λ i. Mine i v ⊎ (¬ (Mine i v))) (group_item g) (map group_item gs)
    (mine_or_not (group_item g) refl v) (group_tests v gs)

abbrev IsTested : Address → Item → Type 0
IsTested v i = AtOrBelow i v ⊎ (¬ (AtOrBelow i v))

row_tests : (v : Address) (rs : List Row) → All (IsTested v) (map row_item rs)
row_tests v [] = All-nil (IsTested v)
row_tests v (r ∷ rs) =
    All-cons (IsTested v) (row_item r) (map row_item rs)
    (below_or_not (row_item r) refl v) (row_tests v rs)

objective_tests : (v : Address) (o : Objective) → All (IsTested v) (objective_items o)
objective_tests v objective.Feasibility = All-nil (IsTested v)
objective_tests v (objective.Plain sense var) =
    All-cons (IsTested v) (objective_item (PlainObj sense var)) []
    (below_or_not (objective_item (PlainObj sense var)) refl v) (All-nil (IsTested v))
objective_tests v (objective.Affine sense func) =
    All-cons (IsTested v) (objective_item (AffineObj sense func)) []
    (below_or_not (objective_item (AffineObj sense func)) refl v) (All-nil (IsTested v))

other_tests : (v : Address) (model : ModelValue) → All (IsTested v) (model_image model).others
other_tests v model =
    All-append (IsTested v) (map row_item model.rows) (objective_items model.objective)
    (row_tests v model.rows) (objective_tests v model.objective)

pub mine_itself : (item : Item) → Mine item item.at
mine_itself item = inl (record { rest = []; is = itself_below item.at })

pub below_itself : (item : Item) → AtOrBelow item item.at
below_itself item = record { rest = []; is = itself_below item.at }

module _ (setting : Setting) (costly : IsCostly (graph_of setting)) (lawful : AreLawful setting)
    (model : ModelValue) (valid : IsValid model) (bridging : FreshBridging setting model) where
  pub groups_apart : AreRegionsApart Mine (model_image model).groups
  groups_apart =
      groups_of_model_apart model.groups valid.consistent.groups_rise
      (vars_distinct setting costly lawful model valid bridging)

  pub others_below_apart : AreRegionsApart AtOrBelow (model_image model).others
  others_below_apart =
      others_of_model_apart model.rows model.objective valid.consistent.rows_rise

  abbrev pub Now : Item → Address → Type 0
  Now c v = MineNow setting costly lawful model valid bridging c v

  pub others_apart : AreRegionsApart Now (model_image model).others
  others_apart =
      apart_less AtOrBelow Now (model_image model).others
      (model_others_below setting costly lawful model valid bridging) others_below_apart

  abbrev pub IsBeside : Item → Type 0
  IsBeside g = (v : Address) → Mine g v → All (λ c. ¬ (Now c v)) (model_image model).others

  pub beside : All IsBeside (model_image model).groups
  beside = each model.groups
    where
      each : (gs : List UserGroup) → All IsBeside (map group_item gs)
      each [] = All-nil IsBeside
      each (g ∷ gs) =
          All-cons IsBeside (group_item g) (map group_item gs)
          (model_beside setting costly lawful model valid bridging g) (each gs)

  pub groups_avoid : (v : Address) (c : Item) (f : Item → Bool)
      → find f (model_image model).others ≡ Some c → Now c v
      → All (λ g. ¬ (Mine g v)) (model_image model).groups
  groups_avoid v c f is k =
      All-weaker IsBeside (λ g. ¬ (Mine g v))
      (λ g h m. found_is (λ y. ¬ (Now y v)) f (model_image model).others c (h v m) is k)
      (model_image model).groups beside

  -- no group stands where another item does
  pub no_group_there : (c : Item)
      → find (is_there c.at) (model_image model).others ≡ Some c
      → find (is_there c.at) (model_image model).groups ≡ None
  no_group_there c is = by (find (is_there c.at) (model_image model).groups) refl
    where
      by : (o : Option Item) → find (is_there c.at) (model_image model).groups ≡ o
          → find (is_there c.at) (model_image model).groups ≡ None
      by None e = e
      by (Some g) e =
          absurd (found_is (λ i. ¬ (Mine i c.at)) (is_there c.at) (model_image model).groups g
          (groups_avoid c.at c (is_there c.at) is (inl (below_itself c))) e
          (subst (Mine g) ((address_eq-Decides g.at c.at).0 (found_passes (is_there c.at)
          (model_image model).groups g e)) (mine_itself g)))

  pub no_groups : All (λ c. find (is_there c.at) (model_image model).groups ≡ None)
      (model_image model).others
  no_groups = each (model_image model).others (λ c k. k)
    where
      avoided : (c : Item) → Contains (model_image model).others c
          → find (is_there c.at) (model_image model).groups ≡ None
      avoided c k = by (find (is_there c.at) (model_image model).groups) refl
        where
          by : (o : Option Item) → find (is_there c.at) (model_image model).groups ≡ o
              → find (is_there c.at) (model_image model).groups ≡ None
          by None e = e
          by (Some g) e =
              absurd (All-contains (λ y. ¬ (Now y c.at)) (model_image model).others c
              (found_is IsBeside (is_there c.at) (model_image model).groups g beside e c.at
              (subst (Mine g) ((address_eq-Decides g.at c.at).0 (found_passes (is_there c.at)
              (model_image model).groups g e)) (mine_itself g))) k (inl (below_itself c)))

      each : (cs : List Item) → ((c : Item) → Contains cs c → Contains (model_image model).others c)
          → All (λ c. find (is_there c.at) (model_image model).groups ≡ None) cs
      each [] h = All-nil (λ c. find (is_there c.at) (model_image model).groups ≡ None)
      each (c ∷ cs) h =
          All-cons (λ c. find (is_there c.at) (model_image model).groups ≡ None) c cs
          (avoided c (h c (contains_here c cs))) (each cs (λ d k. h d (contains_later c d cs k)))

  -- ---- is there an owner

  pub owner_or_none : (v : Address)
      → ((at : Address) × IsOwner model v at) ⊎ ((at : Address) → ¬ (IsOwner model v at))
  owner_or_none v =
      by (home_or_none Mine mine_itself v (model_image model).groups groups_apart
      (group_tests v model.groups))
      (home_or_none AtOrBelow below_itself v (model_image model).others others_below_apart
      (other_tests v model))
    where
      nobody : All (λ i. ¬ (Mine i v)) (model_image model).groups
          → All (λ i. ¬ (AtOrBelow i v)) (model_image model).others
          → (at : Address) → ¬ (IsOwner model v at)
      nobody n m at o =
          found_is (λ i. ¬ (Mine i v)) (is_there at)
          ((model_image model).groups ++ (model_image model).others) o.item
          (All-append (λ i. ¬ (Mine i v)) (model_image model).groups (model_image model).others n
          (All-weaker (λ i. (¬ (AtOrBelow i v)) × (is_group i.body ≡ false)) (λ i. ¬ (Mine i v))
          (λ i h k. h.0 (other_below i h.1 v k)) (model_image model).others
          (all_both (λ i. ¬ (AtOrBelow i v)) (λ i. is_group i.body ≡ false)
          (model_image model).others m (others_are model))))
          o.is o.mine

      by : IsHomeIn Mine (model_image model).groups v ⊎ All (λ i. ¬ (Mine i v)) (model_image model).groups
          → IsHomeIn AtOrBelow (model_image model).others v
          ⊎ All (λ i. ¬ (AtOrBelow i v)) (model_image model).others
          → ((at : Address) × IsOwner model v at) ⊎ ((at : Address) → ¬ (IsOwner model v at))
      by (inl h) o =
          inl (
            h.item.at,
            record {
              item = h.item;
              is = find-append (is_there h.item.at) (model_image model).groups (model_image model).others
                  ∙ ap (λ o. option_or o (find (is_there h.item.at) (model_image model).others)) h.is;
              mine = h.mine;
            },
          )
      by (inr n) (inl h) =
          inl (
            h.item.at,
            record {
              item = h.item;
              is = find-append (is_there h.item.at) (model_image model).groups (model_image model).others
                  ∙ ap₂ option_or (no_group_there h.item h.is) h.is;
              mine = inl h.mine;
            },
          )
      by (inr n) (inr m) = inr (nobody n m)

  -- ---- what is found

  module _ {X : Type 0} (part : Part X) (view : IsView part) (v : Address) where
    abbrev pub looked : Option X
    looked = look v (part (model_leaves bridging.made) (model_nodes bridging.made))

    in_groups : Option X
    in_groups =
        look v (part (leaves_of_each bridging.made.groups) (nodes_of_each bridging.made.groups))

    in_others : Option X
    in_others = look v (part (leaves_in bridging.made.others) (nodes_in bridging.made.others))

    by_parts : looked ≡ option_or in_groups in_others
    unfolding model_leaves model_nodes in_groups in_others
    by_parts =
        ap (look v) (view.joins (leaves_of_each bridging.made.groups)
        (leaves_in bridging.made.others) (nodes_of_each bridging.made.groups)
        (nodes_in bridging.made.others))
        ∙ look-append v
        (part (leaves_of_each bridging.made.groups) (nodes_of_each bridging.made.groups))
        (part (leaves_in bridging.made.others) (nodes_in bridging.made.others))

    none_in_groups : All (λ g. ¬ (Mine g v)) (model_image model).groups → in_groups ≡ None
    unfolding in_groups
    none_in_groups h =
        none_in_each setting costly bridging.choice bridging.chosen lawful part view v
        bridging.made.groups (model_groups_here setting costly lawful model valid bridging) h

    none_in_further : All (λ c. ¬ (Now c v)) (model_image model).others → in_others ≡ None
    unfolding in_others
    none_in_further h =
        none_in_others setting costly bridging.choice bridging.chosen lawful part view v
        bridging.made.others (model_others_here setting costly lawful model valid bridging) h

    pub nobody_looks : ((at : Address) → ¬ (IsOwner model v at)) → looked ≡ None
    nobody_looks h = by (home_or_none Mine mine_itself v (model_image model).groups groups_apart
        (group_tests v model.groups)) (home_or_none AtOrBelow below_itself v
        (model_image model).others others_below_apart (other_tests v model))
      where
        by : IsHomeIn Mine (model_image model).groups v
            ⊎ All (λ i. ¬ (Mine i v)) (model_image model).groups
            → IsHomeIn AtOrBelow (model_image model).others v
            ⊎ All (λ i. ¬ (AtOrBelow i v)) (model_image model).others → looked ≡ None
        by (inl g) o =
            absurd (h g.item.at (record {
              item = g.item;
              is = find-append (is_there g.item.at) (model_image model).groups
                  (model_image model).others
                  ∙ ap (λ o. option_or o (find (is_there g.item.at) (model_image model).others))
                  g.is;
              mine = g.mine;
            }))
        by (inr n) (inl g) =
            absurd (h g.item.at (record {
              item = g.item;
              is = find-append (is_there g.item.at) (model_image model).groups
                  (model_image model).others
                  ∙ ap₂ option_or (no_group_there g.item g.is) g.is;
              mine = inl g.mine;
            }))
        by (inr n) (inr m) =
            by_parts ∙ ap₂ option_or (none_in_groups n) (none_in_further
            (All-weaker (λ c. (¬ (AtOrBelow c v)) × ((w : Address) → Now c w → AtOrBelow c w))
            (λ c. ¬ (Now c v)) (λ c k o. k.0 (k.1 v o)) (model_image model).others
            (all_both (λ c. ¬ (AtOrBelow c v)) (λ c. (w : Address) → Now c w → AtOrBelow c w)
            (model_image model).others m
            (model_others_below setting costly lawful model valid bridging))))

    -- what stands there is what the owner holds
    pub owner_looks : (at : Address) → IsOwner model v at
        → looked ≡ look_in v part (held_of bridging at)
    unfolding in_groups in_others
    owner_looks at o =
        by (find (is_there at) (model_image model).groups) refl
        (sym (find-append (is_there at) (model_image model).groups (model_image model).others)
        ∙ o.is)
      where
        by : (f : Option Item) → find (is_there at) (model_image model).groups ≡ f
            → option_or (find (is_there at) (model_image model).groups)
            (find (is_there at) (model_image model).others) ≡ Some o.item
            → looked ≡ look_in v part (held_of bridging at)
        by (Some x) f e =
            let same : x ≡ o.item = same_Some x o.item
            (ap (λ o. option_or o (find (is_there at) (model_image model).others)) (sym f) ∙ e) in
            let there : find (is_there at) (model_image model).groups ≡ Some o.item =
            f ∙ ap Some same in
            let is = held_each_at (choice_of_item bridging.choice) at bridging.made.groups
            (keeps_own_each at bridging.made.groups) o.item there in
            by_parts
            ∙ ap (option_or in_groups) (none_in_further
            (found_is IsBeside (is_there at) (model_image model).groups o.item beside there v
            o.mine))
            ∙ option_or_none in_groups
            ∙ found_in_each setting costly bridging.choice bridging.chosen lawful part view v at
            bridging.made.groups (model_groups_here setting costly lawful model valid bridging)
            groups_apart o.item there o.mine
            ∙ ap (look_in v part) (is.is ∙ sym (ap
            (λ o. option_or o (held_at_in at bridging.made.others)) is.is))
          where
            option_or_none : (o : Option X) → option_or o None ≡ o
            option_or_none None = refl
            option_or_none (Some x) = refl
        by None f e =
            let there : find (is_there at) (model_image model).others ≡ Some o.item =
            ap (λ o. option_or o (find (is_there at) (model_image model).others)) (sym f) ∙ e in
            let now : Now o.item v = inl (other_below o.item
            (found_is (λ i. is_group i.body ≡ false) (is_there at) (model_image model).others o.item
            (others_are model) there) v o.mine) in
            by_parts
            ∙ ap (λ p. option_or p in_others) (none_in_groups
            (groups_avoid v o.item (is_there at) there now))
            ∙ found_in_others setting costly bridging.choice bridging.chosen lawful part view v at
            bridging.made.entries
            bridging.made.others (model_others_here setting costly lawful model valid bridging)
            others_apart o.item there now
            ∙ ap (look_in v part) (sym (ap
            (λ o. option_or o (held_at_in at bridging.made.others))
            (none_at_each at bridging.made.groups f)))
