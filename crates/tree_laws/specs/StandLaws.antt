-- The induction along a bridging: what stands below an item stands for it.
use Rattle.std.specs.Prelude.{◌≡◌, ℕ, List, [], ◌∷◌, ◌++◌, All, Contains, drop, length, map, take}
use Rattle.std.proofs.Common.{sym, ap, subst, ◌∙◌}
use Rattle.std.proofs.lemmas.List.Elements.{All-head, All-tail, All-nil}
use Rattle.bridge_graph.specs.Hypergraph.{IsCostly}
use Rattle.bridge_graph.specs.declared.Choice.{Choice}
use Rattle.bridge_graph.specs.declared.Choice.TheVariants.{By, Native}
use Rattle.expansion.specs.Bridged.{Bridged, EachBridged, EachBridgedIn, by, each, each_in, natively, none, none_in}
use Rattle.expansion.specs.Read.{leaves, leaves_in, leaves_of_each}
use Rattle.ratio_core.specs.Rational.{Rational, zero_ℚ, ◌+ℚ◌}
use Rattle.aff_core.specs.Address.{Address}
use Rattle.dual_laws.specs.Held.{DualsHold, DualRow, IsHeld, adjoint}
use Rattle.item_core.specs.declared.item.Item.{Item}
use Rattle.item_core.specs.Item.{variables_of}
use Rattle.item_core.specs.Kind.{kind_number}
use Rattle.item_core.specs.KindOf.{kind_of_body}
use Rattle.bridge_face.specs.ImageOf.{image_of}
use Rattle.bridge_face.specs.Law.{Carries, ChildDuals, held, held_body, inner_of}
use Rattle.fresh_bridging.specs.CanLaws.{AreLawful}
use Rattle.fresh_bridging.specs.Entries.{Entry, put_in}
use Rattle.fresh_bridging.specs.TheRules.{AreChoices, Setting, edge_at, graph_of, outer_entries, own_entries, rules_by}
use Rattle.address_laws.specs.Apart.{Distinct, distinct-first, distinct-second}
use Rattle.address_laws.specs.LeafKeys.{no_keys}
use Rattle.address_laws.specs.ImageLaws.{Misses}
use Rattle.address_laws.specs.KeyLaws.{IsHere}
use Rattle.address_laws.specs.Keys.{keys, keys_in, keys_of_each, own}
use Rattle.tree_laws.specs.Carried.{LeafAnswerDuals, StandFor, back, backs, group_held, group_helds, leaf_helds, through}
use Rattle.tree_laws.specs.DownLaws.{each_joined, first_balance, rest_balance, stand_itself}
use Rattle.tree_laws.specs.LevelLaws.{IsLevel, duals_of_first, duals_of_second, group_duals, groups_balance, other_duals, others_zero, stand_leaves}
use Rattle.tree_laws.specs.NodeLaws.{keys_under, left, left_rest, level, target, target_stands}
use Rattle.tree_laws.specs.SeenLaws.{IsGroupHere, IsRowHere, groups_at, others_at}
use Rattle.tree_laws.specs.BackLaws.{last_back}
use Rattle.tree_laws.specs.TreeLaws.{carried, first_zero, group_carries, native_group, native_row, outer_through, rest_missed, rest_zero, row_carries, row_quiet, row_through}

module _ (setting : Setting) (costly : IsCostly (graph_of setting)) (choice : ℕ → Choice)
    (chosen : AreChoices setting choice) (lawful : AreLawful setting) (d : LeafAnswerDuals) where
  abbrev GroupThere : Item → Type 0
  GroupThere g = IsGroupHere setting costly choice chosen lawful g

  abbrev RowThere : Item → Type 0
  RowThere c = IsRowHere setting costly choice chosen lawful c

  -- ---- what is asked

  -- of groups, the duals of the leaves below them and the numbers of their variables
  pub record GroupsReady {groups : List Item} {entries : List Entry}
      (trees : EachBridged (rules_by choice) groups entries)
      (w : Address → Rational) : Type 0 where
    pub here : All GroupThere groups
    pub distinct : Distinct (keys_of_each own no_keys trees)
    pub distinct_inner : Distinct (inner_of groups)
    pub duals : DualsHold (leaf_helds d (leaves_of_each trees))
    pub balance : (v : Address) → Contains (keys_of_each own no_keys trees) v
        → adjoint (map (through entries) (group_helds d.bound w groups)) v
        ≡ adjoint (leaf_helds d (leaves_of_each trees)) v

  -- of rows and objectives, the duals of the leaves below them
  pub record RowsReady {inner : List Entry} {items : List Item}
      (trees : EachBridgedIn (rules_by choice) inner items) : Type 0 where
    pub here : All (λ c. RowThere (put_in inner c)) items
    pub distinct : Distinct (keys_in own no_keys trees)
    pub duals : DualsHold (leaf_helds d (leaves_in trees))
    pub missed : (v : Address) → Contains (keys_in own no_keys trees) v
        → All (λ c. Misses v (put_in inner c)) items
    pub zero : (v : Address) → Contains (keys_in own no_keys trees) v
        → adjoint (leaf_helds d (leaves_in trees)) v ≡ zero_ℚ

  pub record GroupReady {group : Item} {entries : List Entry}
      (tree : Bridged (rules_by choice) group entries) (w : Address → Rational) : Type 0 where
    pub here : GroupThere group
    pub duals : DualsHold (leaf_helds d (leaves tree))
    pub balance : (v : Address) → Contains (keys own no_keys tree) v
        → adjoint (through entries (group_held d.bound w group) ∷ []) v
        ≡ adjoint (leaf_helds d (leaves tree)) v

  pub record RowReady {item : Item} {entries : List Entry}
      (tree : Bridged (rules_by choice) item entries) : Type 0 where
    pub here : RowThere item
    pub duals : DualsHold (leaf_helds d (leaves tree))
    pub zero : (v : Address) → Contains (keys own no_keys tree) v
        → adjoint (leaf_helds d (leaves tree)) v ≡ zero_ℚ

  -- ---- what is said

  -- what stands below rows stands for them, and what stands below groups for these, their variables
  -- with these numbers
  abbrev RowsStand : {inner : List Entry} {items : List Item}
      → EachBridgedIn (rules_by choice) inner items → Type 0
  RowsStand {inner} {items} trees =
      StandFor (held d.bound (map (put_in inner) items) (backs d trees))
      (leaf_helds d (leaves_in trees))

  abbrev GroupsStand : {groups : List Item} {entries : List Entry}
      → EachBridged (rules_by choice) groups entries → (Address → Rational) → Type 0
  GroupsStand {groups} {entries} trees w =
      StandFor (map (through entries) (group_helds d.bound w groups))
      (leaf_helds d (leaves_of_each trees))

  -- ---- lists, the first and the rest

  module _ {item : Item} {items : List Item} {entries others : List Entry}
      (first : Bridged (rules_by choice) item entries)
      (rest : EachBridged (rules_by choice) items others) (w : Address → Rational)
      (ready : GroupsReady (each first rest) w) where
    first_group : GroupReady first w
    unfolding leaves keys
    first_group = record {
      here = All-head GroupThere item items ready.here;
      duals = duals_of_first d (leaves first) (leaves_of_each rest) ready.duals;
      balance = first_balance setting costly choice chosen lawful d first rest ready.here w
          ready.distinct ready.distinct_inner ready.balance;
    }

    rest_groups : GroupsReady rest w
    unfolding leaves keys
    rest_groups = record {
      here = All-tail GroupThere item items ready.here;
      distinct =
          distinct-second (keys own no_keys first) (keys_of_each own no_keys rest) ready.distinct;
      distinct_inner = distinct-second (variables_of item.body) (inner_of items)
          ready.distinct_inner;
      duals = duals_of_second d (leaves first) (leaves_of_each rest) ready.duals;
      balance = rest_balance setting costly choice chosen lawful d first rest ready.here w
          ready.distinct ready.distinct_inner ready.balance;
    }

    groups_joined : StandFor (through entries (group_held d.bound w item) ∷ [])
        (leaf_helds d (leaves first))
        → GroupsStand rest w → GroupsStand (each first rest) w
    unfolding leaves keys
    groups_joined s t =
        each_joined setting costly choice chosen lawful d first rest ready.here w ready.distinct
        ready.distinct_inner ready.balance s t

  module _ {inner : List Entry} {item : Item} {items : List Item} {entries : List Entry}
      (first : Bridged (rules_by choice) (put_in inner item) entries)
      (rest : EachBridgedIn (rules_by choice) inner items)
      (ready : RowsReady (each_in {item = item} first rest)) where
    first_row : RowReady first
    unfolding leaves keys
    first_row = record {
      here = All-head (λ c. RowThere (put_in inner c)) item items ready.here;
      duals = duals_of_first d (leaves first) (leaves_in rest) ready.duals;
      zero = first_zero setting costly choice chosen lawful d first rest ready.here ready.distinct
          ready.missed ready.zero;
    }

    rest_rows : RowsReady rest
    unfolding leaves keys
    rest_rows = record {
      here = All-tail (λ c. RowThere (put_in inner c)) item items ready.here;
      distinct = distinct-second (keys own no_keys first) (keys_in own no_keys rest) ready.distinct;
      duals = duals_of_second d (leaves first) (leaves_in rest) ready.duals;
      missed = rest_missed setting costly choice chosen lawful d first rest ready.here
          ready.distinct ready.missed ready.zero;
      zero = rest_zero setting costly choice chosen lawful d first rest ready.here ready.distinct
          ready.missed ready.zero;
    }

  -- ---- a level

  module _ (groups others : List Item) (inner : List Entry)
      (gs : EachBridged (rules_by choice) groups inner)
      (os : EachBridgedIn (rules_by choice) inner others) (ts : List DualRow)
      (lv : IsLevel setting costly choice chosen lawful d groups others inner gs os ts) where
    pub level_rows : RowsReady os
    level_rows = record {
      here = lv.others_here;
      distinct =
          distinct-second (keys_of_each own no_keys gs) (keys_in own no_keys os) lv.distinct;
      duals = other_duals setting costly choice chosen lawful d groups others inner gs os ts lv;
      missed = lv.missed;
      zero = others_zero setting costly choice chosen lawful d groups others inner gs os ts lv;
    }

    pub level_groups : (w : Address → Rational)
        → ((v : Address) → w v +ℚ adjoint (held d.bound others (backs d os)) v ≡ adjoint ts v)
        → RowsStand os → GroupsReady gs w
    level_groups w rest rows = record {
      here = lv.groups_here;
      distinct = distinct-first (keys_of_each own no_keys gs) (keys_in own no_keys os) lv.distinct;
      distinct_inner = lv.distinct_inner;
      duals = group_duals setting costly choice chosen lawful d groups others inner gs os ts lv;
      balance = groups_balance setting costly choice chosen lawful d groups others inner gs os ts
          lv w rest rows;
    }

  -- ---- nodes

  module _ (item : Item) (here : IsHere setting costly choice chosen lawful item) (n : ℕ)
      (e : choice (kind_number (kind_of_body item.body)) ≡ By n) (inner : List Entry)
      (gs : EachBridged (rules_by choice)
      (groups_at setting costly choice chosen lawful item here n e) inner)
      (os : EachBridgedIn (rules_by choice) inner
      (others_at setting costly choice chosen lawful item here n e)) where
    abbrev below : List DualRow
    below = leaf_helds d (leaves_of_each gs ++ leaves_in os)

    abbrev target_by : List Rational → DualRow
    target_by w = target setting costly choice chosen lawful d item here n e inner gs os w

    -- the item with these numbers, where they balance what stands below its children
    node_stands : (w : List Rational) → DualsHold below
        → ((v : Address) → Contains (keys_of_each own no_keys gs ++ keys_in own no_keys os) v
        → adjoint (through inner (target_by w) ∷ []) v ≡ adjoint below v)
        → ((duals : ChildDuals)
        → duals.rows ≡ take (length (image_of (edge_at n) item).rows) (backs d os)
        → duals.objective ≡ drop (length (image_of (edge_at n) item).rows) (backs d os)
        → Carries (edge_at n) item duals w)
        → (RowsReady os → RowsStand os)
        → ((v : Address → Rational) → GroupsReady gs v → GroupsStand gs v)
        → StandFor (through inner (target_by w) ∷ []) below
    node_stands w duals balance carries rows_stand groups_stand =
        let groups = groups_at setting costly choice chosen lawful item here n e in
        let others = others_at setting costly choice chosen lawful item here n e in
        let lv = level setting costly choice chosen lawful d item here n e inner gs os w duals
        balance in
        let numbers = left setting costly choice chosen lawful d item here n e inner gs os w duals
        balance in
        let rows = rows_stand (level_rows groups others inner gs os (target_by w ∷ []) lv) in
        target_stands setting costly choice chosen lawful d item here n e inner gs os w duals
        balance carries rows
        (groups_stand numbers
        (level_groups groups others inner gs os (target_by w ∷ []) lv numbers
        (left_rest setting costly choice chosen lawful d item here n e inner gs os w duals balance)
        rows))

  module _ (item : Item) (is : RowThere item) (n : ℕ)
      (e : choice (kind_number (kind_of_body item.body)) ≡ By n) (inner : List Entry)
      (gs : EachBridged (rules_by choice)
      (groups_at setting costly choice chosen lawful item is.here n e) inner)
      (os : EachBridgedIn (rules_by choice) inner
      (others_at setting costly choice chosen lawful item is.here n e))
      (ready : RowReady (by {item = item} {edge = n} {inner = inner} e gs os)) where
    abbrev carried_dual : List Rational
    carried_dual = carried setting costly choice chosen lawful d item is n e (backs d os)

    row_balance : (v : Address) → Contains (keys_of_each own no_keys gs ++ keys_in own no_keys os) v
        → adjoint (through inner (target_by item is.here n e inner gs os carried_dual) ∷ []) v
        ≡ adjoint (below item is.here n e inner gs os) v
    unfolding leaves keys
    row_balance v c =
        row_quiet setting costly choice chosen lawful d item is n e inner gs carried_dual v
        (keys_under setting costly choice chosen lawful d item is.here n e inner gs os v c)
        ∙ sym (ready.zero v c)

    row_node : (RowsReady os → RowsStand os)
        → ((v : Address → Rational) → GroupsReady gs v → GroupsStand gs v)
        → StandFor (held_body d.bound item.body (back d
        (by {item = item} {edge = n} {inner = inner} e gs os)) ∷ [])
        (leaf_helds d (leaves (by {item = item} {edge = n} {inner = inner} e gs os)))
    unfolding leaves back
    row_node rows_stand groups_stand =
        subst (λ h. StandFor (h ∷ []) (leaf_helds d (leaves_of_each gs ++ leaves_in os)))
        (row_through setting costly choice chosen lawful d item is n e inner gs carried_dual)
        (node_stands item is.here n e inner gs os carried_dual ready.duals row_balance
        (row_carries setting costly choice chosen lawful d item is n e (backs d os)
        (last_back setting costly choice chosen lawful d item is n e inner gs os))
        rows_stand groups_stand)

  module _ (item : Item) (is : GroupThere item) (n : ℕ)
      (e : choice (kind_number (kind_of_body item.body)) ≡ By n) (inner : List Entry)
      (gs : EachBridged (rules_by choice)
      (groups_at setting costly choice chosen lawful item is.here n e) inner)
      (os : EachBridgedIn (rules_by choice) inner
      (others_at setting costly choice chosen lawful item is.here n e))
      (w : Address → Rational)
      (ready : GroupReady (by {item = item} {edge = n} {inner = inner} e gs os) w) where
    abbrev numbers : List Rational
    numbers = map w (variables_of item.body)

    group_balance : (v : Address)
        → Contains (keys_of_each own no_keys gs ++ keys_in own no_keys os) v
        → adjoint (through inner (target_by item is.here n e inner gs os numbers) ∷ []) v
        ≡ adjoint (below item is.here n e inner gs os) v
    unfolding leaves keys
    group_balance v c =
        ap (λ h. adjoint (h ∷ []) v)
        (sym (outer_through setting costly choice chosen lawful d item is n e inner w))
        ∙ ready.balance v c

    group_node : (RowsReady os → RowsStand os)
        → ((v : Address → Rational) → GroupsReady gs v → GroupsStand gs v)
        → StandFor (through (outer_entries n item inner) (group_held d.bound w item) ∷ [])
        (leaf_helds d (leaves (by {item = item} {edge = n} {inner = inner} e gs os)))
    unfolding leaves
    group_node rows_stand groups_stand =
        subst (λ h. StandFor (h ∷ []) (leaf_helds d (leaves_of_each gs ++ leaves_in os)))
        (sym (outer_through setting costly choice chosen lawful d item is n e inner w))
        (node_stands item is.here n e inner gs os numbers ready.duals group_balance
        (λ duals rs o. group_carries setting costly choice chosen lawful d item is n e inner w
        duals)
        rows_stand groups_stand)

  -- ---- natively

  native_row_stands : (item : Item) (c : (rules_by choice).choice item ≡ Native)
      → RowReady (natively {item = item} c)
      → StandFor (held_body d.bound item.body (back {rules = rules_by choice} d
      (natively {item = item} c)) ∷ [])
      (leaf_helds d (leaves {Item = Item} {Entry = Entry} {rules = rules_by choice}
      (natively {item = item} c)))
  unfolding leaves back
  native_row_stands item c ready =
      native_row setting costly choice chosen lawful d item ready.here ready.duals

  native_group_stands : (item : Item) (c : (rules_by choice).choice item ≡ Native)
      (w : Address → Rational) → GroupReady (natively {item = item} c) w
      → StandFor (through (own_entries item) (group_held d.bound w item) ∷ [])
      (leaf_helds d (leaves {Item = Item} {Entry = Entry} {rules = rules_by choice}
      (natively {item = item} c)))
  unfolding leaves keys
  native_group_stands item c w ready =
      native_group setting costly choice chosen lawful d item ready.here ready.duals w
      ready.balance

  -- ---- along the tree

  rows_none : StandFor [] (leaf_helds d [])
  rows_none = stand_itself [] (All-nil IsHeld)

  mutual
    unfolding leaves back

    pub row_stands : {item : Item} {entries : List Entry}
        (tree : Bridged (rules_by choice) item entries) → RowReady tree
        → StandFor (held_body d.bound item.body (back d tree) ∷ []) (leaf_helds d (leaves tree))
    row_stands (natively {item} c) ready = native_row_stands item c ready
    row_stands (by {item} {edge} {inner} c groups others) ready =
        row_node item ready.here edge c inner groups others ready (λ r. rows_stand others r)
        (λ w r. groups_stand groups w r)

    pub rows_stand : {inner : List Entry} {items : List Item}
        (trees : EachBridgedIn (rules_by choice) inner items) → RowsReady trees → RowsStand trees
    rows_stand none_in ready = rows_none
    rows_stand (each_in {inner} {item} {items} first rest) ready =
        stand_leaves d
        (held_body d.bound (put_in inner item).body (back d first) ∷ [])
        (held d.bound (map (put_in inner) items) (backs d rest)) (leaves first) (leaves_in rest)
        (row_stands first (first_row first rest ready))
        (rows_stand rest (rest_rows first rest ready))

    pub group_stands : {group : Item} {entries : List Entry}
        (tree : Bridged (rules_by choice) group entries) (w : Address → Rational)
        → GroupReady tree w
        → StandFor (through entries (group_held d.bound w group) ∷ []) (leaf_helds d (leaves tree))
    group_stands (natively {item} c) w ready = native_group_stands item c w ready
    group_stands (by {item} {edge} {inner} c groups others) w ready =
        group_node item ready.here edge c inner groups others w ready (λ r. rows_stand others r)
        (λ v r. groups_stand groups v r)

    pub groups_stand : {groups : List Item} {entries : List Entry}
        (trees : EachBridged (rules_by choice) groups entries) (w : Address → Rational)
        → GroupsReady trees w → GroupsStand trees w
    groups_stand none w ready = rows_none
    groups_stand (each {item} {items} {entries} {others} first rest) w ready =
        groups_joined first rest w ready
        (group_stands first w (first_group first rest w ready))
        (groups_stand rest w (rest_groups first rest w ready))
