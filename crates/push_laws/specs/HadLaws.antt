-- What found items had, as a map of addresses and the solver's model have it: their runs in the map's
-- order, the leaves that native groups have of their own, and the objective.
use Rattle.std.specs.Prelude.{◌≡◌, ◌≢◌, ◌⊎◌, ◌↔◌, zero, suc, Bool, true, false, cond, List, [], ◌∷◌, ◌++◌, All, AllPairs, Contains, filter, flat_map, is_some, map, Option, Some, None, refl}
use Rattle.std.specs.FinMap as finite
use Rattle.std.proofs.Common.{arith, inl, inr, sym, ap, subst, ◌∙◌, true≢false}
use Rattle.std.proofs.lemmas.List.{map-append}
use Rattle.std.proofs.lemmas.List.Elements.{All-append, All-cons, All-contains, All-contains_itself, All-filter, All-head, All-map, All-nil, All-tail, All-weaker, Contains-append_left, Contains-append_right, filter-append, filter_passes}
use Rattle.std.proofs.lemmas.List.Kept.{AllPairs-cons, AllPairs-filter}
use Rattle.address_laws.specs.Keys.{Mine, own as own_of}
use Rattle.address_map.specs.AddressMap.{AddressMap}
use Rattle.address_map.specs.Places.{addresses}
use Rattle.aff_core.specs.Address.{Address, address_cmp, address_eq-Decides, address_total}
use Rattle.aff_core.specs.declared.root.Root.TheVariants as root
use Rattle.expansion.specs.Read.{model_leaves}
use Rattle.found_plan.specs.Stood.{has_leaf, old_leaves, own_leaves}
use Rattle.fresh_bridging.specs.FreshBridging.{FreshBridging, leaves_of}
use Rattle.fresh_bridging.specs.Leaves.{leaf_objectives, leaf_rows, leaf_variables}
use Rattle.fresh_bridging.specs.ModelImage.{group_item, items_of, model_image, objective_items, row_item}
use Rattle.fresh_bridging.specs.TheRules.{Setting}
use Rattle.fresh_bridging.specs.Touched.{item_at}
use Rattle.item_core.specs.Item.{is_group, variables_of}
use Rattle.item_core.specs.declared.item.Item.{Item}
use Rattle.item_leaves.specs.ItemLeaves.{is_of, item_of, those_of}
use Rattle.leaf_update.specs.CoverLaws.{indices_among, objective_covers, rows_cover, variables_cover}
use Rattle.leaf_update.specs.LeavesLaws.{among_contained, contains_among}
use Rattle.leaf_update.specs.Named.{NamesEach}
use Rattle.leaf_update.specs.Others.{among, objective_addresses}
use Rattle.leaf_model.specs.LeafModel.{LeafModel}
use Rattle.leaf_model.specs.ReadThrough.{read_through}
use Rattle.local_laws.specs.ChangedLaws.{was}
use Rattle.local_laws.specs.GoneLaws.{kept_in}
use Rattle.local_laws.specs.Held.{is_there}
use Rattle.local_laws.specs.LookedLaws.{found_passes, nobody_looks, owner_or_none}
use Rattle.local_laws.specs.Owner.{IsOwner}
use Rattle.local_laws.specs.RunLaws.{runs_had}
use Rattle.local_laws.specs.Sound.{IsValidUnder}
use Rattle.local_laws.specs.Stays.{StaysAt}
use Rattle.local_laws.specs.StaysLaws.{found_is, others_are}
use Rattle.local_laws.specs.Views.{look, objectives_low, objectives_view, of_leaves, rows_low, rows_view, variables_view}
use Rattle.map_laws.specs.EachLaws.{all_both, contains_here, contains_later}
use Rattle.map_laws.specs.MadeLaws.{get_made}
use Rattle.map_laws.specs.PairLaws.{AllPairs-append, AllPairs-nil}
use Rattle.push_laws.specs.AgreeLaws.{own_variables}
use Rattle.push_laws.specs.RunListLaws.{Apart, each_of, each_stands, keys_once, no_run, numbered, only_run, runs_once, same_either}
use Rattle.push_laws.specs.SpliceLaws.{AreHadBy}
use Rattle.push_laws.specs.StandsLaws.{IsHadBy}
use Rattle.solver_store.specs.SolverModel.{Leaves}
use Rattle.solver_store.specs.declared.leaf.LeafObjective.{LeafObjective}
use Rattle.user_model.specs.Model.{ModelValue, variable_address}
use Rattle.user_model.specs.declared.group.Group.{Group}
use Rattle.user_model.specs.declared.group.GroupVar.{GroupVar}
use Rattle.user_model.specs.declared.objective.Objective.{Objective}
use Rattle.user_model.specs.declared.objective.Objective.TheVariants as objective
use Rattle.user_model.specs.declared.row.Row.{Row}

-- ---- what stood

module _ {setting next : Setting} {model after : ModelValue} (sound : IsValidUnder setting model)
    (sound_after : IsValidUnder next after)
    (old : FreshBridging setting model) (new : FreshBridging next after)
    (found : List Address) (apart : AllPairs (λ a b. ¬ (b ≡ a)) found)
    (others_stay : (at : Address) → ¬ (Contains found at) → StaysAt old new at)
    (places : AddressMap) (leaves : Leaves) (objective_at : Address)
    (names : NamesEach places leaves)
    (through : read_through places leaves objective_at ≡ leaves_of old) where
  -- addresses of a map that is made of entries
  stands_where : {X : Type 0} (es : List (Address × X)) (ats : List Address)
      → ((q : Address) → is_some (finite.get (finite.from_entries {R = address_cmp} es) q)
      ≡ among ats q) → (v : Address) → Contains ats v ↔ (look v es ≢ None)
  stands_where es ats covers v = (
    λ c none. true≢false (sym (among_contained v ats c) ∙ sym here_too ∙ ap is_some none),
    λ some. contains_among v ats (sym here_too ∙ there (look v es) some),
  )
    where
      here_too : is_some (look v es) ≡ among ats v
      here_too = ap is_some (sym (get_made address_total es v)) ∙ covers v

      there : {X : Type 0} (o : Option X) → o ≢ None → is_some o ≡ true
      there None n = absurd (n refl)
      there (Some x) n = refl

  abbrev row_addresses : List Address
  row_addresses = addresses places.rows.indices

  rows_stand : (v : Address) → Contains row_addresses v
      ↔ (was sound sound_after old new found (of_leaves leaf_rows) rows_view v ≢ None)
  rows_stand v =
      stands_where (flat_map leaf_rows (model_leaves old.made)) row_addresses
      (λ q. ap (λ (m : LeafModel). is_some (finite.get m.rows q)) (sym through)
      ∙ rows_cover places leaves objective_at names q) v

  pub rows_had : IsHadBy sound sound_after old new found apart others_stay (of_leaves leaf_rows)
      rows_view (flat_map (λ at. those_of at row_addresses) found)
  rows_had = record {
    are = runs_had sound sound_after old new found (of_leaves leaf_rows) rows_view rows_low
        row_addresses rows_stand;
    stood = λ v c. (rows_stand v).0
        (All-contains (Contains row_addresses) (flat_map (λ at. those_of at row_addresses) found) v
        (each_stands row_addresses found) c);
    once = runs_once row_addresses found (keys_once places.rows.indices) apart;
  }

  abbrev objective_there : List Address
  objective_there = objective_addresses leaves objective_at

  objective_stands : (v : Address) → Contains objective_there v
      ↔ (was sound sound_after old new found (of_leaves leaf_objectives) objectives_view v ≢ None)
  objective_stands v =
      stands_where (flat_map leaf_objectives (model_leaves old.made)) objective_there
      (λ q. ap (λ (m : LeafModel). is_some (finite.get m.objective q)) (sym through)
      ∙ objective_covers places leaves objective_at names q) v

  objective_runs : flat_map (λ at. those_of at objective_there) found
      ≡ cond (among found (item_of objective_at)) objective_there []
  objective_runs = by leaves.objective
    where
      by : (o : Option LeafObjective)
          → flat_map (λ a. those_of a (objective_addresses (record leaves { objective = o })
          objective_at)) found
          ≡ cond (among found (item_of objective_at))
          (objective_addresses (record leaves { objective = o }) objective_at) []
      by None = no_run found ∙ same_either (among found (item_of objective_at))
      by (Some o) = only_run objective_at found apart

  objective_once : Apart objective_there
  objective_once = by leaves.objective
    where
      by : (o : Option LeafObjective)
          → Apart (objective_addresses (record leaves { objective = o }) objective_at)
      by None = AllPairs-nil (λ a b. ¬ (b ≡ a))
      by (Some o) =
          AllPairs-cons (λ a b. ¬ (b ≡ a)) objective_at [] (All-nil (λ b. ¬ (b ≡ objective_at)))
          (AllPairs-nil (λ a b. ¬ (b ≡ a)))

  pub objective_had : IsHadBy sound sound_after old new found apart others_stay
      (of_leaves leaf_objectives) objectives_view
      (cond (among found (item_of objective_at)) objective_there [])
  objective_had =
      subst (IsHadBy sound sound_after old new found apart others_stay
      (of_leaves leaf_objectives) objectives_view) objective_runs
      (record {
        are = runs_had sound sound_after old new found (of_leaves leaf_objectives) objectives_view
            objectives_low objective_there objective_stands;
        stood = λ v c. (objective_stands v).0
            (All-contains (Contains objective_there)
            (flat_map (λ at. those_of at objective_there) found) v
            (each_stands objective_there found) c);
        once = runs_once objective_there found objective_once apart;
      })

  -- ---- variables: those of native groups, and those below items

  abbrev variable_addresses : List Address
  variable_addresses = addresses places.vars.indices

  variables_stand : (v : Address) → Contains variable_addresses v
      ↔ (was sound sound_after old new found (of_leaves leaf_variables) variables_view v ≢ None)
  variables_stand v =
      stands_where (flat_map leaf_variables (model_leaves old.made)) variable_addresses
      (λ q. ap (λ (m : LeafModel). is_some (finite.get m.variables q)) (sym through)
      ∙ variables_cover places leaves objective_at names q) v

  -- the groups among the found items, as they were
  pub record AreGroups (groups : List Group) : Type 0 where
    pub among_found :
        All (λ g. Contains found (group_item g).at
        × (item_at model (group_item g).at ≡ Some (group_item g))) groups
    pub all :
        (at : Address) (item : Item) → Contains found at → item_at model at ≡ Some item
        → is_group item.body ≡ true → Contains (map group_item groups) item
    pub once : Apart (own_variables groups)
    -- no item is a variable
    pub roots : All (λ at. ¬ (at.root ≡ root.Variable)) found

  module _ (groups : List Group) (are : AreGroups groups) where
    abbrev own : List Address
    own = flat_map (λ (g : Group). own_leaves places g.vars) groups

    abbrev Owned : Address → Type 0
    Owned v = (at : Address) × Contains found at × IsOwner model v at

    own_is : (gs : List Group)
        → flat_map (λ (g : Group). own_leaves places g.vars) gs
        ≡ filter (has_leaf places) (own_variables gs)
    own_is [] = refl
    own_is (g ∷ gs) =
        ap (λ l. own_leaves places g.vars ++ l) (own_is gs)
        ∙ sym (filter-append (has_leaf places) (numbered g.vars) (own_variables gs))
        ∙ ap (filter (has_leaf places))
        (sym (map-append (λ (v : GroupVar). variable_address v.number) g.vars
        (flat_map (λ (g : Group). g.vars) gs)))

    -- ---- owners

    is_variable : (vars : List GroupVar) → All (λ v. v.root ≡ root.Variable) (numbered vars)
    is_variable [] = All-nil (λ v. v.root ≡ root.Variable)
    is_variable (x ∷ xs) =
        All-cons (λ v. v.root ≡ root.Variable) (variable_address x.number) (numbered xs) refl
        (is_variable xs)

    own_variable : All (λ v. v.root ≡ root.Variable) own
    own_variable =
        subst (All (λ v. v.root ≡ root.Variable)) (sym (own_is groups))
        (All-filter (has_leaf places) (λ v. v.root ≡ root.Variable) (own_variables groups)
        (is_variable (flat_map (λ (g : Group). g.vars) groups)))

    own_owned : (gs : List Group)
        → All (λ g. Contains found (group_item g).at
        × (item_at model (group_item g).at ≡ Some (group_item g))) gs
        → All Owned (flat_map (λ (g : Group). own_leaves places g.vars) gs)
    own_owned [] h = All-nil Owned
    own_owned (g ∷ gs) h =
        let Here : Group → Type 0 = λ g. Contains found (group_item g).at
        × (item_at model (group_item g).at ≡ Some (group_item g)) in
        let is = All-head Here g gs h in
        All-append Owned (own_leaves places g.vars)
        (flat_map (λ (g : Group). own_leaves places g.vars) gs)
        (All-filter (has_leaf places) Owned (numbered g.vars)
        (All-weaker (Contains (numbered g.vars)) Owned
        (λ v c. (
          (group_item g).at,
          is.0,
          record { item = group_item g; is = is.1; mine = inr c },
        )) (numbered g.vars) (All-contains_itself (numbered g.vars))))
        (own_owned gs (All-tail Here g gs h))

    -- the variables that an item of the model has of its own are variables
    own_of_item : (at v : Address) (item : Item) → item_at model at ≡ Some item
        → Contains (own_of item) v → v.root ≡ root.Variable
    own_of_item at v item is c =
        All-contains (λ v. v.root ≡ root.Variable) (own_of item) v
        (found_is (λ i. All (λ v. v.root ≡ root.Variable) (own_of i)) (is_there at)
        (items_of model) item
        (All-append (λ i. All (λ v. v.root ≡ root.Variable) (own_of i))
        (model_image model).groups (model_image model).others
        (All-map (λ i. All (λ v. v.root ≡ root.Variable) (own_of i)) group_item model.groups
        (each_group model.groups))
        (All-weaker (λ i. is_group i.body ≡ false)
        (λ i. All (λ v. v.root ≡ root.Variable) (own_of i))
        (λ i e. subst (λ b. All (λ v. v.root ≡ root.Variable) (cond b (variables_of i.body) []))
        (sym e) (All-nil (λ v. v.root ≡ root.Variable)))
        (model_image model).others (others_are model))) is) c
      where
        each_group : (gs : List Group)
            → All (λ g. All (λ v. v.root ≡ root.Variable) (own_of (group_item g))) gs
        each_group [] = All-nil (λ g. All (λ v. v.root ≡ root.Variable) (own_of (group_item g)))
        each_group (g ∷ gs) =
            All-cons (λ g. All (λ v. v.root ≡ root.Variable) (own_of (group_item g))) g gs
            (is_variable g.vars) (each_group gs)

    -- an item of the model stands at its root
    at_root : (at : Address) (item : Item) → item_at model at ≡ Some item
        → item_of item.at ≡ at
    at_root at item is =
        sym (found_is (λ i. i.at ≡ item_of i.at) (is_there at) (items_of model) item
        (All-append (λ i. i.at ≡ item_of i.at) (model_image model).groups
        (model_image model).others
        (All-map (λ i. i.at ≡ item_of i.at) group_item model.groups (of_groups model.groups))
        (All-append (λ i. i.at ≡ item_of i.at) (map row_item model.rows)
        (objective_items model.objective)
        (All-map (λ i. i.at ≡ item_of i.at) row_item model.rows (of_rows model.rows))
        (of_objective model.objective))) is)
        ∙ (address_eq-Decides item.at at).0 (found_passes (is_there at) (items_of model) item is)
      where
        of_groups : (gs : List Group)
            → All (λ g. (group_item g).at ≡ item_of (group_item g).at) gs
        of_groups [] = All-nil (λ g. (group_item g).at ≡ item_of (group_item g).at)
        of_groups (g ∷ gs) =
            All-cons (λ g. (group_item g).at ≡ item_of (group_item g).at) g gs refl (of_groups gs)

        of_rows : (rs : List Row) → All (λ r. (row_item r).at ≡ item_of (row_item r).at) rs
        of_rows [] = All-nil (λ r. (row_item r).at ≡ item_of (row_item r).at)
        of_rows (r ∷ rs) =
            All-cons (λ r. (row_item r).at ≡ item_of (row_item r).at) r rs refl (of_rows rs)

        of_objective : (o : Objective) → All (λ i. i.at ≡ item_of i.at) (objective_items o)
        of_objective objective.Feasibility = All-nil (λ i. i.at ≡ item_of i.at)
        of_objective (objective.Plain sense var) =
            All-cons (λ i. i.at ≡ item_of i.at) _ [] refl (All-nil (λ i. i.at ≡ item_of i.at))
        of_objective (objective.Affine sense func) =
            All-cons (λ i. i.at ≡ item_of i.at) _ [] refl (All-nil (λ i. i.at ≡ item_of i.at))

    -- what an item has is below it, or a variable of its own
    item_or_own : (v b : Address) (o : IsOwner model v b)
        → (item_of v ≡ b) ⊎ Contains (own_of o.item) v
    item_or_own v b o = by o.mine
      where
        by : Mine o.item v → (item_of v ≡ b) ⊎ Contains (own_of o.item) v
        by (inl below) = inl (ap item_of below.is ∙ at_root b o.item o.is)
        by (inr c) = inr c

    run_owned : (v : Address) → Contains variable_addresses v → Contains found (item_of v)
        → Owned v
    run_owned v c within =
        by (owner_or_none setting sound.costly sound.lawful model sound.valid old v)
      where
        by : ((b : Address) × IsOwner model v b) ⊎ ((b : Address) → ¬ (IsOwner model v b))
            → Owned v
        by (inr n) =
            absurd ((variables_stand v).0 c
            (nobody_looks setting sound.costly sound.lawful model sound.valid old
            (of_leaves leaf_variables) variables_view v n))
        by (inl (b, o)) = which (item_or_own v b o)
          where
            which : (item_of v ≡ b) ⊎ Contains (own_of o.item) v → Owned v
            which (inl e) = (b, subst (Contains found) e within, o)
            which (inr k) =
                absurd (All-contains (λ at. ¬ (at.root ≡ root.Variable)) found (item_of v)
                are.roots within (own_of_item b v o.item o.is k))

    -- ---- all that stood

    in_flat : {X : Type 0} (f : X → List Address) (xs : List X) (x : X) (v : Address)
        → Contains xs x → Contains (f x) v → Contains (flat_map f xs) v
    in_flat f [] x v c k = absurd (omega (arith, c.1))
    in_flat f (y ∷ xs) x v (zero, inside, is) k =
        Contains-append_left (f y) (flat_map f xs) v (subst (λ z. Contains (f z) v) (sym is) k)
    in_flat f (y ∷ xs) x v (suc i, inside, is) k =
        Contains-append_right (f y) (flat_map f xs) v
        (in_flat f xs x v (i, omega (arith, inside), is) k)

    unmapped : (gs : List Group) (item : Item) → Contains (map group_item gs) item
        → (g : Group) × Contains gs g × (group_item g ≡ item)
    unmapped [] item c = absurd (omega (arith, c.1))
    unmapped (g ∷ gs) item (zero, inside, is) = (g, contains_here g gs, is)
    unmapped (g ∷ gs) item (suc i, inside, is) =
        let r = unmapped gs item (i, omega (arith, inside), is) in
        (r.0, contains_later g r.0 gs r.1, r.2)

    in_own : (v at : Address) → Contains found at → (o : IsOwner model v at)
        → Contains variable_addresses v → Contains (own_of o.item) v → Contains own v
    in_own v at within o there c = by (is_group o.item.body) refl c
      where
        by : (b : Bool) → is_group o.item.body ≡ b
            → Contains (cond b (variables_of o.item.body) []) v → Contains own v
        by false e k = absurd (omega (arith, k.1))
        by true e k =
            let g = unmapped groups o.item (are.all at o.item within o.is e) in
            in_flat (λ (g : Group). own_leaves places g.vars) groups g.0 v g.1
            (kept_in (has_leaf places) (numbered g.0.vars) v
            (subst (λ (i : Item). Contains (variables_of i.body) v) (sym g.2) k)
            (indices_among places.vars.indices v ∙ among_contained v variable_addresses there))

    pub variables_had : IsHadBy sound sound_after old new found apart others_stay
        (of_leaves leaf_variables) variables_view
        (own ++ flat_map (λ at. those_of at variable_addresses) found)
    variables_had = record {
      are = record {
        owners = λ v c. All-contains Owned
            (own ++ flat_map (λ at. those_of at variable_addresses) found) v all_owned c;
        all = λ v at c o some. each v at c o ((variables_stand v).1 some) (item_or_own v at o);
      };
      stood = λ v c. (variables_stand v).0 (All-contains (Contains variable_addresses)
          (own ++ flat_map (λ at. those_of at variable_addresses) found) v all_stand c);
      once = AllPairs-append (λ a b. ¬ (b ≡ a)) own
          (flat_map (λ at. those_of at variable_addresses) found)
          (subst Apart (sym (own_is groups))
          (AllPairs-filter (λ a b. ¬ (b ≡ a)) (has_leaf places) (own_variables groups) are.once))
          (runs_once variable_addresses found (keys_once places.vars.indices) apart)
          (All-weaker (λ v. v.root ≡ root.Variable)
          (λ v. All (λ w. ¬ (w ≡ v)) (flat_map (λ at. those_of at variable_addresses) found))
          (λ v is. All-weaker (λ w. Contains found (item_of w)) (λ w. ¬ (w ≡ v))
          (λ w c same. All-contains (λ at. ¬ (at.root ≡ root.Variable)) found (item_of w)
          are.roots c (ap (λ (a : Address). a.root) same ∙ is))
          (flat_map (λ at. those_of at variable_addresses) found)
          (each_of variable_addresses found)) own own_variable);
    }
      where
        all_owned : All Owned (own ++ flat_map (λ at. those_of at variable_addresses) found)
        all_owned =
            All-append Owned own (flat_map (λ at. those_of at variable_addresses) found)
            (own_owned groups are.among_found)
            (All-weaker (λ v. Contains variable_addresses v × Contains found (item_of v)) Owned
            (λ v h. run_owned v h.0 h.1)
            (flat_map (λ at. those_of at variable_addresses) found)
            (all_both (Contains variable_addresses) (λ v. Contains found (item_of v))
            (flat_map (λ at. those_of at variable_addresses) found)
            (each_stands variable_addresses found) (each_of variable_addresses found)))

        all_stand : All (Contains variable_addresses)
            (own ++ flat_map (λ at. those_of at variable_addresses) found)
        all_stand =
            All-append (Contains variable_addresses) own
            (flat_map (λ at. those_of at variable_addresses) found)
            (subst (All (Contains variable_addresses)) (sym (own_is groups))
            (All-weaker (λ v. has_leaf places v ≡ true) (Contains variable_addresses)
            (λ v e. contains_among v variable_addresses
            (sym (indices_among places.vars.indices v) ∙ e))
            (filter (has_leaf places) (own_variables groups))
            (filter_passes (has_leaf places) (own_variables groups))))
            (each_stands variable_addresses found)

        each : (v at : Address) → Contains found at → (o : IsOwner model v at)
            → Contains variable_addresses v
            → (item_of v ≡ at) ⊎ Contains (own_of o.item) v
            → Contains (own ++ flat_map (λ at. those_of at variable_addresses) found) v
        each v at c o there (inl e) =
            Contains-append_right own (flat_map (λ at. those_of at variable_addresses) found) v
            (in_flat (λ at. those_of at variable_addresses) found at v c
            (kept_in (is_of at) variable_addresses v there
            ((address_eq-Decides (item_of v) at).1 e)))
        each v at c o there (inr k) =
            Contains-append_left own (flat_map (λ at. those_of at variable_addresses) found) v
            (in_own v at c o there k)

    -- in all three maps
    pub had_is : AreHadBy sound sound_after old new found apart others_stay
        (old_leaves places leaves objective_at groups found)
    had_is = record { variables = variables_had; rows = rows_had; objective = objective_had }
