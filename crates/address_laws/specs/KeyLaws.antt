-- The addresses of what stands below an item are the item's, and each stands once.
use Rattle.std.specs.Prelude.{◌≡◌, ◌+◌, ◌<◌, ℕ, zero, suc, true, false, cond, List, [], ◌∷◌, ◌++◌, All, Contains, length, map, refl}
use Rattle.std.specs.List.{range_with_len}
use Rattle.std.proofs.Common.{arith, inl, inr, sym, ap, subst, ◌∙◌}
use Rattle.std.proofs.lemmas.List.{append-nil, length-append}
use Rattle.std.proofs.lemmas.List.Elements.{All-append, All-cons, All-head, All-nil, All-tail, All-weaker}
use Rattle.bridge_graph.specs.Hypergraph.{IsCostly}
use Rattle.bridge_graph.specs.declared.Choice.{Choice}
use Rattle.bridge_graph.specs.declared.Choice.TheVariants.{By}
use Rattle.expansion.specs.Bridged.{Bridged, EachBridged, EachBridgedIn, by, each, each_in, natively, none, none_in}
use Rattle.expansion.specs.Ranks.{RanksBelow}
use Rattle.aff_core.specs.Address.{Address, child_of}
use Rattle.item_core.specs.declared.item.Item.{Item}
use Rattle.item_core.specs.Item.{is_group, variables_of}
use Rattle.item_core.specs.Kind.{kind_number}
use Rattle.item_core.specs.KindOf.{kind_of_body}
use Rattle.item_core.specs.Valid.{below}
use Rattle.bridge_face.specs.ImageOf.{image_of}
use Rattle.bridge_face.specs.Law.{EdgeLaw, HasComponents, listed}
use Rattle.fresh_bridging.specs.CanLaws.{AreLawful, Can, law, rank_of}
use Rattle.map_laws.specs.EachLaws.{StandsFrom, all_both, all_first, all_second, stand_from}
use Rattle.fresh_bridging.specs.Entries.{Entry, put_in}
use Rattle.fresh_bridging.specs.ExistenceLaws.{ranked}
use Rattle.fresh_bridging.specs.OmitLaws.{IsBelow, IsBelowAt, apart, groups_are}
use Rattle.fresh_bridging.specs.TheRules.{AreChoices, Setting, edge_at, graph_of, rules_by}
use Rattle.address_laws.specs.Apart.{Avoids, Distinct, distinct-append}
use Rattle.address_laws.specs.ImageLaws.{others_alone}
use Rattle.address_laws.specs.Keys.{Mine, keys, keys_in, keys_of_each, own}
use Rattle.address_laws.specs.PutLaws.{group_stays}
use Rattle.address_laws.specs.Regions.{AreRegionsApart, AtOrBelow, at_child, apart_across, apart_children, apart_first, apart_less, apart_second}

-- ---- what the addresses of leaves and nodes are

-- the addresses of a leaf are its own, each once, and those of a node are the node's
pub record AreKeys (of_leaf of_node : Item → List Address) : Type 0 where
  pub leaf_mine : (item : Item) → All (Mine item) (of_leaf item)
  pub leaf_once : (item : Item) → Distinct (own item) → Distinct (of_leaf item)
  pub node_here : (item : Item) → All (λ k. k ≡ item.at) (of_node item)
  pub node_once : (item : Item) → Distinct (of_node item)

-- ---- addresses

pub itself_below : (at : Address) → at ≡ below at []
itself_below at = ap (λ l. record at { positions = l }) (sym (append-nil at.positions))

strictly_below : (at : Address) (j : ℕ) → IsBelowAt at j at → ⊥
strictly_below at j b =
    let longer = ap (λ (a : Address). length a.positions) b.is in
    omega (arith, longer, length-append at.positions (j ∷ b.rest))

-- components have addresses of their own
pub components_distinct : (at : Address) (n low : ℕ)
    → Distinct (map (child_of at) (range_with_len low n))
components_distinct at zero low = tt
components_distinct at (suc n) low =
    (later n (low + 1) low (omega arith), components_distinct at n (low + 1))
  where
    later : (m from i : ℕ) → i < from
        → Avoids (map (child_of at) (range_with_len from m)) (child_of at i)
    later zero from i h = All-nil (λ k. ¬ (k ≡ child_of at i))
    later (suc m) from i h =
        All-cons (λ k. ¬ (k ≡ child_of at i)) (child_of at from)
        (map (child_of at) (range_with_len (from + 1) m))
        (λ e.
        let same : from ≡ i = apart at from i (child_of at from) (record { rest = []; is = refl })
        (record { rest = []; is = e })
        in
        omega (arith, same, h))
        (later m (from + 1) i (omega (arith, h)))

component_below : (g : Item) (v : Address) (ns : List ℕ) → Contains (map (child_of g.at) ns) v
    → IsBelow g.at v
component_below g v [] (place, inside, is) = absurd (omega (arith, inside))
component_below g v (m ∷ ns) (zero, inside, is) = record { rest = m ∷ []; is = sym is }
component_below g v (m ∷ ns) (suc place, inside, is) =
    component_below g v ns (place, omega (arith, inside), is)

-- what is a child group's stands at or below it
pub group_below : (g : Item) → HasComponents g → is_group g.body ≡ true → (v : Address) → Mine g v
    → IsBelow g.at v
group_below g components h v (inl b) = b
group_below g components h v (inr c) =
    component_below g v (range_with_len 0 (length (variables_of g.body)))
    (subst (λ vs. Contains vs v) components
    (subst (λ b. Contains (cond b (variables_of g.body) []) v) h c))

-- and so does what is another item's
pub other_below : (c : Item) → is_group c.body ≡ false → (v : Address) → Mine c v → IsBelow c.at v
other_below c h v (inl b) = b
other_below c h v (inr (place, inside, is)) =
    let none : Contains [] v =
    subst (λ b. Contains (cond b (variables_of c.body) []) v) h (place, inside, is) in
    absurd (omega (arith, none.1))

pub own_none : (c : Item) → is_group c.body ≡ false → Distinct (own c)
own_none c h = subst (λ b. Distinct (cond b (variables_of c.body) [])) (sym h) tt

module _ (setting : Setting) (costly : IsCostly (graph_of setting)) (choice : ℕ → Choice)
    (chosen : AreChoices setting choice) (lawful : AreLawful setting) where
  -- an item that can be bridged, whose variables are distinct
  pub record IsHere (item : Item) : Type 0 where
    pub can : Can setting costly choice chosen item
    pub once : Distinct (own item)

  -- ---- what an edge makes

  module _ (item : Item) (can : Can setting costly choice chosen item) (n : ℕ)
      (e : choice (kind_number (kind_of_body item.body)) ≡ By n) where
    abbrev pub child_groups_of : List Item
    child_groups_of = (image_of (edge_at n) item).groups

    abbrev pub others_of : List Item
    others_of = (image_of (edge_at n) item).rows ++ listed (image_of (edge_at n) item).objective

    pub law_of : EdgeLaw (edge_at n) item (image_of (edge_at n) item)
    law_of = law setting costly choice chosen lawful item can n e

    pub groups_only : All (λ g. is_group g.body ≡ true) child_groups_of
    groups_only = groups_are (edge_at n) item

    pub no_groups : All (λ c. is_group c.body ≡ false) others_of
    no_groups = others_alone setting costly choice chosen lawful item can n e

    abbrev Lower : Item → Type 0
    Lower c =
        RanksBelow (Can setting costly choice chosen) (rank_of setting costly choice chosen)
        (rank_of setting costly choice chosen item) c

    pub groups_here : All IsHere child_groups_of
    groups_here =
        All-weaker (λ g. Lower g × (HasComponents g × (is_group g.body ≡ true))) IsHere
        (λ g h. record {
          can = h.0.can;
          once = subst Distinct
              (sym (ap (λ b. cond b (variables_of g.body) []) h.1.1 ∙ h.1.0))
              (components_distinct g.at (length (variables_of g.body)) 0);
        })
        child_groups_of
        (all_both Lower (λ g. HasComponents g × (is_group g.body ≡ true)) child_groups_of
        ((ranked setting costly choice chosen lawful).groups item n can e)
        (all_both HasComponents (λ g. is_group g.body ≡ true) child_groups_of law_of.components
        groups_only))

    module _ (inner : List Entry)
        (trees : EachBridged (rules_by choice) child_groups_of inner) where
      pub others_here : All (λ c. IsHere (put_in inner c)) others_of
      others_here =
          All-weaker (λ c. Lower (put_in inner c) × (is_group c.body ≡ false))
          (λ c. IsHere (put_in inner c))
          (λ c h. record {
            can = h.0.can;
            once = own_none (put_in inner c) (group_stays inner c.body ∙ h.1);
          })
          others_of
          (all_both (λ c. Lower (put_in inner c)) (λ c. is_group c.body ≡ false) others_of
          ((ranked setting costly choice chosen lawful).others item n inner can e trees) no_groups)

    -- ---- where the children stand

    all_apart : AreRegionsApart AtOrBelow (child_groups_of ++ others_of)
    all_apart = apart_children item.at (child_groups_of ++ others_of) 0 law_of.positions

    pub groups_below : All (λ g. (v : Address) → Mine g v → AtOrBelow g v) child_groups_of
    groups_below =
        All-weaker (λ g. HasComponents g × (is_group g.body ≡ true))
        (λ g. (v : Address) → Mine g v → AtOrBelow g v)
        (λ g h. group_below g h.0 h.1) child_groups_of
        (all_both HasComponents (λ g. is_group g.body ≡ true) child_groups_of law_of.components
        groups_only)

    pub groups_apart : AreRegionsApart Mine child_groups_of
    groups_apart =
        apart_less AtOrBelow Mine child_groups_of groups_below
        (apart_first AtOrBelow child_groups_of others_of all_apart)

    -- at or below a child is below the item
    abbrev IsUnder : Item → Type 0
    IsUnder c = (v : Address) → AtOrBelow c v → (j : ℕ) × IsBelowAt item.at j v

    all_under : All IsUnder (child_groups_of ++ others_of)
    all_under =
        All-weaker
        (StandsFrom (λ c. c.at) (child_of item.at) 0
        (0 + length (child_groups_of ++ others_of))) IsUnder
        (λ c s v b. (s.place, at_child item.at s.place c.at s.is v b))
        (child_groups_of ++ others_of)
        (stand_from (λ c. c.at) (child_of item.at) (child_groups_of ++ others_of) 0
        (0 + length (child_groups_of ++ others_of)) (omega arith) law_of.positions)

    pub under_mine : (v : Address) → (j : ℕ) × IsBelowAt item.at j v → Mine item v
    under_mine v b = inl (record { rest = b.0 ∷ b.1.rest; is = b.1.is })

    -- what is at or below a child that stands there is below the item
    regions_under : (Region : Item → Address → Type 0) (children : List Item)
        → All (λ c. (v : Address) → Region c v → AtOrBelow c v) children
        → All IsUnder children
        → All (λ c. (v : Address) → Region c v → (j : ℕ) × IsBelowAt item.at j v) children
    regions_under Region children below under =
        All-weaker (λ c. ((v : Address) → Region c v → AtOrBelow c v) × IsUnder c)
        (λ c. (v : Address) → Region c v → (j : ℕ) × IsBelowAt item.at j v)
        (λ c h v m. h.1 v (h.0 v m)) children
        (all_both (λ c. (v : Address) → Region c v → AtOrBelow c v) IsUnder children below under)

    pub groups_under : All (λ g. (v : Address) → Mine g v → (j : ℕ) × IsBelowAt item.at j v)
        child_groups_of
    groups_under = regions_under Mine child_groups_of groups_below
        (all_first IsUnder child_groups_of others_of all_under)

    module _ (inner : List Entry) where
      abbrev pub MineIn : Item → Address → Type 0
      MineIn c v = Mine (put_in inner c) v

      pub others_below : All (λ c. (v : Address) → MineIn c v → AtOrBelow c v) others_of
      others_below =
          All-weaker (λ c. is_group c.body ≡ false)
          (λ c. (v : Address) → MineIn c v → AtOrBelow c v)
          (λ c h v m. other_below (put_in inner c) (group_stays inner c.body ∙ h) v m)
          others_of no_groups

      pub others_apart : AreRegionsApart MineIn others_of
      others_apart =
          apart_less AtOrBelow MineIn others_of others_below
          (apart_second AtOrBelow child_groups_of others_of all_apart)

      pub others_under : All (λ c. (v : Address) → MineIn c v → (j : ℕ) × IsBelowAt item.at j v)
          others_of
      others_under = regions_under MineIn others_of others_below
          (all_second IsUnder child_groups_of others_of all_under)

      -- what is a child group's isn't a further child's
      pub beside : All (λ g. (v : Address) → Mine g v → All (λ c. ¬ (MineIn c v)) others_of)
          child_groups_of
      beside =
          All-weaker
          (λ g. ((v : Address) → AtOrBelow g v → All (λ c. ¬ (AtOrBelow c v)) others_of)
          × ((v : Address) → Mine g v → AtOrBelow g v))
          (λ g. (v : Address) → Mine g v → All (λ c. ¬ (MineIn c v)) others_of)
          (λ g h v m.
          All-weaker (λ c. (¬ (AtOrBelow c v)) × ((w : Address) → MineIn c w → AtOrBelow c w))
          (λ c. ¬ (MineIn c v)) (λ c k o. k.0 (k.1 v o)) others_of
          (all_both (λ c. ¬ (AtOrBelow c v)) (λ c. (w : Address) → MineIn c w → AtOrBelow c w)
          others_of (h.0 v (h.1 v m)) others_below))
          child_groups_of
          (all_both (λ g. (v : Address) → AtOrBelow g v → All (λ c. ¬ (AtOrBelow c v)) others_of)
          (λ g. (v : Address) → Mine g v → AtOrBelow g v) child_groups_of
          (apart_across AtOrBelow child_groups_of others_of all_apart) groups_below)

  -- ---- along the tree

  module _ (of_leaf of_node : Item → List Address) (are : AreKeys of_leaf of_node) where
    module _ (P : Address → Type 0) where
      mutual
        unfolding keys

        -- what holds of all that is the item's holds of each address that stands there
        pub within : {item : Item} {entries : List Entry}
            (tree : Bridged (rules_by choice) item entries)
            → IsHere item → ((v : Address) → Mine item v → P v) → All P (keys of_leaf of_node tree)
        within (natively {item} c) here h =
            All-weaker (Mine item) P h (of_leaf item) (are.leaf_mine item)
        within (by {item} {edge} {inner} c groups others) here h =
            All-append P (of_node item) (keys_of_each of_leaf of_node groups ++ keys_in of_leaf
            of_node others)
            (All-weaker (λ k. k ≡ item.at) P
            (λ k e. h k (inl (record { rest = []; is = e ∙ itself_below item.at })))
            (of_node item) (are.node_here item))
            (All-append P (keys_of_each of_leaf of_node groups) (keys_in of_leaf of_node others)
            (within_each groups (groups_here item here.can edge c)
            (All-weaker (λ g. (v : Address) → Mine g v → (j : ℕ) × IsBelowAt item.at j v)
            (λ g. (v : Address) → Mine g v → P v)
            (λ g k v m. h v (under_mine item here.can edge c v (k v m)))
            (child_groups_of item here.can edge c) (groups_under item here.can edge c)))
            (within_in others (others_here item here.can edge c inner groups)
            (All-weaker (λ x. (v : Address) → Mine (put_in inner x) v → (j : ℕ) × IsBelowAt item.at
            j v)
            (λ x. (v : Address) → Mine (put_in inner x) v → P v)
            (λ x k v m. h v (under_mine item here.can edge c v (k v m)))
            (others_of item here.can edge c) (others_under item here.can edge c inner))))

        pub within_each : {items : List Item} {entries : List Entry}
            (trees : EachBridged (rules_by choice) items entries)
            → All IsHere items → All (λ g. (v : Address) → Mine g v → P v) items
            → All P (keys_of_each of_leaf of_node trees)
        within_each none here h = All-nil P
        within_each (each {item} {items} first rest) here h =
            All-append P (keys of_leaf of_node first) (keys_of_each of_leaf of_node rest)
            (within first (All-head IsHere item items here)
            (All-head (λ g. (v : Address) → Mine g v → P v) item items h))
            (within_each rest (All-tail IsHere item items here)
            (All-tail (λ g. (v : Address) → Mine g v → P v) item items h))

        pub within_in : {inner : List Entry} {items : List Item}
            (trees : EachBridgedIn (rules_by choice) inner items)
            → All (λ c. IsHere (put_in inner c)) items
            → All (λ c. (v : Address) → Mine (put_in inner c) v → P v) items
            → All P (keys_in of_leaf of_node trees)
        within_in none_in here h = All-nil P
        within_in (each_in {inner} {item} {items} first rest) here h =
            All-append P (keys of_leaf of_node first) (keys_in of_leaf of_node rest)
            (within first (All-head (λ c. IsHere (put_in inner c)) item items here)
            (All-head (λ c. (v : Address) → Mine (put_in inner c) v → P v) item items h))
            (within_in rest (All-tail (λ c. IsHere (put_in inner c)) item items here)
            (All-tail (λ c. (v : Address) → Mine (put_in inner c) v → P v) item items h))

    -- what is nobody's doesn't stand there
    pub avoid_each : {items : List Item} {entries : List Entry}
        (trees : EachBridged (rules_by choice) items entries) → All IsHere items → (v : Address)
        → All (λ g. ¬ (Mine g v)) items → Avoids (keys_of_each of_leaf of_node trees) v
    avoid_each {items} trees here v h =
        within_each (λ k. ¬ (k ≡ v)) trees here
        (All-weaker (λ g. ¬ (Mine g v)) (λ g. (w : Address) → Mine g w → ¬ (w ≡ v))
        (λ g n w m e. n (subst (Mine g) e m)) items h)

    pub avoid_in : {inner : List Entry} {items : List Item}
        (trees : EachBridgedIn (rules_by choice) inner items)
        → All (λ c. IsHere (put_in inner c)) items → (v : Address)
        → All (λ c. ¬ (Mine (put_in inner c) v)) items → Avoids (keys_in of_leaf of_node trees) v
    avoid_in {inner} {items} trees here v h =
        within_in (λ k. ¬ (k ≡ v)) trees here
        (All-weaker (λ c. ¬ (Mine (put_in inner c) v))
        (λ c. (w : Address) → Mine (put_in inner c) w → ¬ (w ≡ v))
        (λ c n w m e. n (subst (Mine (put_in inner c)) e m)) items h)

    -- what isn't the item's doesn't stand below it
    pub avoid_below : (item : Item) (here : IsHere item) (n : ℕ)
        (e : choice (kind_number (kind_of_body item.body)) ≡ By n) {inner : List Entry}
        (groups : EachBridged (rules_by choice) (child_groups_of item here.can n e) inner)
        (others : EachBridgedIn (rules_by choice) inner (others_of item here.can n e))
        (v : Address) → ((j : ℕ) → ¬ (IsBelowAt item.at j v))
        → Avoids (keys_of_each of_leaf of_node groups ++ keys_in of_leaf of_node others) v
    avoid_below item here n e {inner} groups others v h =
        All-append (λ k. ¬ (k ≡ v)) (keys_of_each of_leaf of_node groups)
        (keys_in of_leaf of_node others)
        (avoid_each groups (groups_here item here.can n e) v
        (All-weaker (λ g. (w : Address) → Mine g w → (j : ℕ) × IsBelowAt item.at j w)
        (λ g. ¬ (Mine g v)) (λ g k m. let b = k v m in h b.0 b.1)
        (child_groups_of item here.can n e) (groups_under item here.can n e)))
        (avoid_in others (others_here item here.can n e inner groups) v
        (All-weaker (λ c. (w : Address) → Mine (put_in inner c) w → (j : ℕ) × IsBelowAt item.at j w)
        (λ c. ¬ (Mine (put_in inner c) v)) (λ c k m. let b = k v m in h b.0 b.1)
        (others_of item here.can n e) (others_under item here.can n e inner)))

    -- child groups' addresses aren't further children's
    pub keys_beside : (item : Item) (here : IsHere item) (n : ℕ)
        (e : choice (kind_number (kind_of_body item.body)) ≡ By n) {inner : List Entry}
        (groups : EachBridged (rules_by choice) (child_groups_of item here.can n e) inner)
        (others : EachBridgedIn (rules_by choice) inner (others_of item here.can n e))
        → All (Avoids (keys_in of_leaf of_node others)) (keys_of_each of_leaf of_node groups)
    keys_beside item here n e {inner} groups others =
        within_each (Avoids (keys_in of_leaf of_node others)) groups (groups_here item here.can n e)
        (All-weaker
        (λ g. (v : Address) → Mine g v
        → All (λ c. ¬ (Mine (put_in inner c) v)) (others_of item here.can n e))
        (λ g. (v : Address) → Mine g v → Avoids (keys_in of_leaf of_node others) v)
        (λ g k v m. avoid_in others (others_here item here.can n e inner groups) v (k v m))
        (child_groups_of item here.can n e) (beside item here.can n e inner))

    mutual
      unfolding keys

      -- each address stands once
      pub once_in_tree : {item : Item} {entries : List Entry}
          (tree : Bridged (rules_by choice) item entries) → IsHere item
          → Distinct (keys of_leaf of_node tree)
      once_in_tree (natively {item} c) here = are.leaf_once item here.once
      once_in_tree (by {item} {edge} {inner} c groups others) here =
          distinct-append (of_node item)
          (keys_of_each of_leaf of_node groups ++ keys_in of_leaf of_node others)
          (are.node_once item)
          (distinct-append (keys_of_each of_leaf of_node groups) (keys_in of_leaf of_node others)
          (once_in_each groups (groups_here item here.can edge c)
          (groups_apart item here.can edge c))
          (once_in_others others (others_here item here.can edge c inner groups)
          (others_apart item here.can edge c inner))
          (keys_beside item here edge c groups others))
          (All-weaker (λ k. k ≡ item.at)
          (Avoids (keys_of_each of_leaf of_node groups ++ keys_in of_leaf of_node others))
          (λ k is. subst
          (Avoids (keys_of_each of_leaf of_node groups ++ keys_in of_leaf of_node others)) (sym is)
          (avoid_below item here edge c groups others item.at (λ j. strictly_below item.at j)))
          (of_node item) (are.node_here item))

      pub once_in_each : {items : List Item} {entries : List Entry}
          (trees : EachBridged (rules_by choice) items entries)
          → All IsHere items → AreRegionsApart Mine items
          → Distinct (keys_of_each of_leaf of_node trees)
      once_in_each none here h = tt
      once_in_each (each {item} {items} first rest) here h =
          distinct-append (keys of_leaf of_node first) (keys_of_each of_leaf of_node rest)
          (once_in_tree first (All-head IsHere item items here))
          (once_in_each rest (All-tail IsHere item items here) h.1)
          (within (Avoids (keys_of_each of_leaf of_node rest)) first
          (All-head IsHere item items here)
          (λ v m. avoid_each rest (All-tail IsHere item items here) v (h.0 v m)))

      pub once_in_others : {inner : List Entry} {items : List Item}
          (trees : EachBridgedIn (rules_by choice) inner items)
          → All (λ c. IsHere (put_in inner c)) items
          → AreRegionsApart (λ c. Mine (put_in inner c)) items
          → Distinct (keys_in of_leaf of_node trees)
      once_in_others none_in here h = tt
      once_in_others (each_in {inner} {item} {items} first rest) here h =
          distinct-append (keys of_leaf of_node first) (keys_in of_leaf of_node rest)
          (once_in_tree first (All-head (λ c. IsHere (put_in inner c)) item items here))
          (once_in_others rest (All-tail (λ c. IsHere (put_in inner c)) item items here) h.1)
          (within (Avoids (keys_in of_leaf of_node rest)) first
          (All-head (λ c. IsHere (put_in inner c)) item items here)
          (λ v m. avoid_in rest (All-tail (λ c. IsHere (put_in inner c)) item items here) v
          (h.0 v m)))
