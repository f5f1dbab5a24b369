-- One level of a bridging: groups, and further children with the groups' expressions put in. What
-- stands below the children stands for them where it balances what is above.
use Rattle.std.specs.Prelude.{◌≡◌, ◌⊎◌, ℕ, true, false, List, [], ◌∷◌, ◌++◌, All, Contains, map}
use Rattle.std.proofs.Common.{inl, inr, sym, ap, ap₂, subst, ◌∙◌}
use Rattle.std.proofs.lemmas.List.{map-append}
use Rattle.std.proofs.lemmas.List.Elements.{All-head, All-map, All-tail, All-weaker, Contains-append_left, Contains-append_right}
use Rattle.bridge_graph.specs.Hypergraph.{IsCostly}
use Rattle.bridge_graph.specs.declared.Choice.{Choice}
use Rattle.expansion.specs.Bridged.{EachBridged, EachBridgedIn}
use Rattle.expansion.specs.Read.{leaves_in, leaves_of_each}
use Rattle.ratio_core.specs.Rational.{Rational, zero_ℚ, ◌*ℚ◌, ◌+ℚ◌}
use Rattle.rational_laws.specs.Dot.{dot}
use Rattle.rational_laws.specs.Field.{*ℚ-zero, +ℚ-*ℚ, +ℚ-zero, +ℚ_cancel, one-*ℚ, zero-*ℚ, zero-+ℚ}
use Rattle.aff_core.specs.Address.{Address}
use Rattle.aff_core.specs.Function.{coefficient}
use Rattle.aff_core.specs.FunctionLaws.{coefficient-variable_other}
use Rattle.aff_core.specs.FunctionLists.{coefficients}
use Rattle.aff_core.specs.KeyOrder.{address_order}
use Rattle.aff_core.specs.Points.{unit}
use Rattle.linear_laws.specs.ListLaws.{weighed_variables}
use Rattle.linear_laws.specs.SupportLaws.{count}
use Rattle.linear_laws.specs.UnitLaws.{same_or_other}
use Rattle.rational_laws.specs.Sums.{sum_by_ℚ-append}
use Rattle.dual_laws.specs.Held.{DualsHold, DualRow, IsHeld, adjoint, adjoint_of}
use Rattle.dual_laws.specs.PullLaws.{adjoint-append}
use Rattle.item_core.specs.declared.item.Item.{Item}
use Rattle.item_core.specs.Item.{is_group, variables_of}
use Rattle.bridge_face.specs.Law.{expressed, held, inner_of}
use Rattle.fresh_bridging.specs.CanLaws.{AreLawful}
use Rattle.map_laws.specs.EachLaws.{all_first, all_second}
use Rattle.fresh_bridging.specs.Entries.{Entry, put_in}
use Rattle.fresh_bridging.specs.TheRules.{AreChoices, Setting, graph_of, rules_by}
use Rattle.address_laws.specs.Apart.{Avoids, Distinct, counted_never, counted_once, in_or_not, in_second}
use Rattle.address_laws.specs.LeafKeys.{no_keys}
use Rattle.address_laws.specs.ImageLaws.{Misses}
use Rattle.address_laws.specs.Keys.{keys_in, keys_of_each, own}
use Rattle.tree_laws.specs.Carried.{LeafAnswerDuals, StandFor, backs, group_held, group_helds, leaf_held, leaf_helds, seen_at, through}
use Rattle.tree_laws.specs.LookupLaws.{components, itself}
use Rattle.tree_laws.specs.PutLaws.{all_put, group_row_functions, row_misses}
use Rattle.tree_laws.specs.SeenLaws.{IsGroupHere, IsRowHere, components_of_each, leaves_of_each_miss}
use Rattle.tree_laws.specs.ThroughLaws.{HeldMisses, adjoints_missed, adjoints_through, duals_from_through, pull_alike, stand_both}

-- ---- leaves

module _ (d : LeafAnswerDuals) where
  pub leaf_missed : (v : Address) (items : List Item) → All (Misses v) items
      → adjoint (leaf_helds d items) v ≡ zero_ℚ
  leaf_missed v items m =
      adjoints_missed (leaf_helds d items) v
      (All-map (HeldMisses v) (leaf_held d) items
      (All-weaker (Misses v) (λ i. HeldMisses v (leaf_held d i)) (λ i h. row_misses i.body v h)
      items
      m))

  pub adjoint_of_leaves : (xs ys : List Item) (v : Address)
      → adjoint (leaf_helds d (xs ++ ys)) v
      ≡ adjoint (leaf_helds d xs) v +ℚ adjoint (leaf_helds d ys) v
  adjoint_of_leaves xs ys v =
      ap (λ hs. adjoint hs v) (map-append (leaf_held d) xs ys)
      ∙ adjoint-append (leaf_helds d xs) (leaf_helds d ys) v

  pub duals_of_first : (xs ys : List Item) → DualsHold (leaf_helds d (xs ++ ys))
      → DualsHold (leaf_helds d xs)
  duals_of_first xs ys h =
      all_first IsHeld (leaf_helds d xs) (leaf_helds d ys)
      (subst DualsHold (map-append (leaf_held d) xs ys) h)

  pub duals_of_second : (xs ys : List Item) → DualsHold (leaf_helds d (xs ++ ys))
      → DualsHold (leaf_helds d ys)
  duals_of_second xs ys h =
      all_second IsHeld (leaf_helds d xs) (leaf_helds d ys)
      (subst DualsHold (map-append (leaf_held d) xs ys) h)

  pub stand_leaves : (hs gs : List DualRow) (xs ys : List Item) → StandFor hs (leaf_helds d xs)
      → StandFor gs (leaf_helds d ys) → StandFor (hs ++ gs) (leaf_helds d (xs ++ ys))
  stand_leaves hs gs xs ys s t =
      subst (StandFor (hs ++ gs)) (sym (map-append (leaf_held d) xs ys))
      (stand_both hs (leaf_helds d xs) gs (leaf_helds d ys) s t)

-- ---- numbers of variables

pub weighed_group : (bound : Rational) (w : Address → Rational) (g : Item) (v : Address)
    → is_group g.body ≡ true
    → adjoint_of (group_held bound w g) v ≡ count (variables_of g.body) v *ℚ w v
weighed_group bound w g v h =
    ap (λ fs. dot (map w (variables_of g.body)) (coefficients fs v)) (group_row_functions g.body h)
    ∙ weighed_variables w (variables_of g.body) v

-- groups weigh a variable by its number, as often as it stands there
pub groups_weigh : (bound : Rational) (w : Address → Rational) (groups : List Item) (v : Address)
    → All (λ g. is_group g.body ≡ true) groups
    → adjoint (group_helds bound w groups) v ≡ count (inner_of groups) v *ℚ w v
groups_weigh bound w [] v h = sym (zero-*ℚ (w v))
groups_weigh bound w (g ∷ groups) v h =
    ap₂ ◌+ℚ◌
    (weighed_group bound w g v (All-head (λ x. is_group x.body ≡ true) g groups h))
    (groups_weigh bound w groups v (All-tail (λ x. is_group x.body ≡ true) g groups h))
    ∙ sym (+ℚ-*ℚ (count (variables_of g.body) v) (count (inner_of groups) v) (w v))
    ∙ ap (λ q. q *ℚ w v)
    (sym (sum_by_ℚ-append (λ u. unit u v) (variables_of g.body) (inner_of groups)))

-- ---- a level

module _ (setting : Setting) (costly : IsCostly (graph_of setting)) (choice : ℕ → Choice)
    (chosen : AreChoices setting choice) (lawful : AreLawful setting) (d : LeafAnswerDuals) where
  abbrev pub GroupHere : Item → Type 0
  GroupHere g = IsGroupHere setting costly choice chosen lawful g

  abbrev pub RowHere : Item → Type 0
  RowHere c = IsRowHere setting costly choice chosen lawful c

  module _ (groups others : List Item) (inner : List Entry)
      (gs : EachBridged (rules_by choice) groups inner)
      (os : EachBridgedIn (rules_by choice) inner others) where
    abbrev pub group_keys : List Address
    group_keys = keys_of_each own no_keys gs

    abbrev pub other_keys : List Address
    other_keys = keys_in own no_keys os

    abbrev pub all_leaves : List Item
    all_leaves = leaves_of_each gs ++ leaves_in os

    abbrev pub other_helds : List DualRow
    other_helds = held d.bound others (backs d os)

    -- what is above balances what stands below, and nothing of a further child is mentioned above
    -- it or beside it
    pub record IsLevel (ts : List DualRow) : Type 0 where
      pub groups_here : All GroupHere groups
      pub others_here : All (λ c. RowHere (put_in inner c)) others
      pub rows_only : All (λ c. is_group c.body ≡ false) others
      pub distinct : Distinct (group_keys ++ other_keys)
      pub distinct_inner : Distinct (inner_of groups)
      pub duals : DualsHold (leaf_helds d all_leaves)
      pub balance : (v : Address) → Contains (group_keys ++ other_keys) v
          → adjoint (map (through inner) ts) v ≡ adjoint (leaf_helds d all_leaves) v
      pub quiet : (v : Address) → Contains other_keys v
          → adjoint (map (through inner) ts) v ≡ zero_ℚ
      pub missed : (v : Address) → Contains other_keys v
          → All (λ c. Misses v (put_in inner c)) others
      -- a leaf variable of a group that isn't a component of it isn't mentioned at all
      pub outside : (v : Address) → Contains group_keys v → Avoids (inner_of groups) v
          → (adjoint ts v ≡ zero_ℚ) × (adjoint other_helds v ≡ zero_ℚ)

    module _ (ts : List DualRow) (level : IsLevel ts) where
      -- what stands below groups has no part in the further children's leaves
      pub others_zero : (v : Address) → Contains other_keys v
          → adjoint (leaf_helds d (leaves_in os)) v ≡ zero_ℚ
      others_zero v c =
          sym (zero-+ℚ (adjoint (leaf_helds d (leaves_in os)) v))
          ∙ ap (λ q. q +ℚ adjoint (leaf_helds d (leaves_in os)) v)
          (sym (leaf_missed d v (leaves_of_each gs)
          (leaves_of_each_miss setting costly choice chosen lawful gs level.groups_here v
          (in_second group_keys other_keys v level.distinct c))))
          ∙ sym (adjoint_of_leaves d (leaves_of_each gs) (leaves_in os) v)
          ∙ sym (level.balance v (Contains-append_right group_keys other_keys v c))
          ∙ level.quiet v c

      pub other_duals : DualsHold (leaf_helds d (leaves_in os))
      other_duals = duals_of_second d (leaves_of_each gs) (leaves_in os) level.duals

      pub group_duals : DualsHold (leaf_helds d (leaves_of_each gs))
      group_duals = duals_of_first d (leaves_of_each gs) (leaves_in os) level.duals

      -- the numbers of the groups' variables are what is left for them
      module _ (w : Address → Rational)
          (rest : (v : Address) → w v +ℚ adjoint other_helds v ≡ adjoint ts v)
          (rows : StandFor (held d.bound (map (put_in inner) others) (backs d os))
          (leaf_helds d (leaves_in os))) where
        abbrev pub children : List DualRow
        children = group_helds d.bound w groups ++ other_helds

        groups_only : All (λ g. is_group g.body ≡ true) groups
        groups_only =
            All-weaker GroupHere (λ g. is_group g.body ≡ true) (λ g h. h.group) groups
            level.groups_here

        -- in the place of the further children
        rows_through : StandFor (map (through inner) other_helds) (leaf_helds d (leaves_in os))
        rows_through =
            subst (λ hs. StandFor hs (leaf_helds d (leaves_in os)))
            (all_put inner d.bound others (backs d os) level.rows_only) rows

        pub meets : (s : Address) → Contains (inner_of groups) s
            → adjoint children s ≡ adjoint ts s
        meets s c =
            adjoint-append (group_helds d.bound w groups) other_helds s
            ∙ ap (λ q. q +ℚ adjoint other_helds s)
            (groups_weigh d.bound w groups s groups_only
            ∙ ap (λ q. q *ℚ w s) (counted_once (inner_of groups) s level.distinct_inner c)
            ∙ one-*ℚ (w s))
            ∙ rest s

        outer_same : (v : Address) → Contains group_keys v → Avoids (inner_of groups) v
            → adjoint children v ≡ adjoint ts v
        outer_same v c h =
            adjoint-append (group_helds d.bound w groups) other_helds v
            ∙ ap₂ ◌+ℚ◌
            (groups_weigh d.bound w groups v groups_only
            ∙ ap (λ q. q *ℚ w v) (counted_never (inner_of groups) v h) ∙ zero-*ℚ (w v))
            (level.outside v c h).1
            ∙ +ℚ-zero zero_ℚ ∙ sym (level.outside v c h).0

        alike : (v : Address) → Contains group_keys v → (u : Address)
            → adjoint children u *ℚ seen_at inner v u ≡ adjoint ts u *ℚ seen_at inner v u
        alike v c u = by (in_or_not (inner_of groups) u)
          where
            same : components inner ≡ inner_of groups
            same = components_of_each setting costly choice chosen lawful gs level.groups_here

            unseen : Avoids (inner_of groups) u → ¬ (u ≡ v) → seen_at inner v u ≡ zero_ℚ
            unseen h n =
                ap (λ x. coefficient (expressed x) v)
                (itself inner u (subst (λ l. Avoids l u) (sym same) h))
                ∙ coefficient-variable_other address_order u v (λ k. n (sym k))

            by : Contains (inner_of groups) u ⊎ Avoids (inner_of groups) u
                → adjoint children u *ℚ seen_at inner v u ≡ adjoint ts u *ℚ seen_at inner v u
            by (inl k) = ap (λ q. q *ℚ seen_at inner v u) (meets u k)
            by (inr h) =
                same_or_other
                (adjoint children u *ℚ seen_at inner v u ≡ adjoint ts u *ℚ seen_at inner v u) u v
                (λ e. ap (λ q. q *ℚ seen_at inner v u)
                (outer_same u (subst (Contains group_keys) (sym e) c) h))
                (λ n. ap (λ q. adjoint children u *ℚ q) (unseen h n)
                ∙ *ℚ-zero (adjoint children u)
                ∙ sym (ap (λ q. adjoint ts u *ℚ q) (unseen h n) ∙ *ℚ-zero (adjoint ts u)))

        split_through : map (through inner) children
            ≡ map (through inner) (group_helds d.bound w groups) ++ map (through inner) other_helds
        split_through = map-append (through inner) (group_helds d.bound w groups) other_helds

        -- so the groups balance what stands below them
        pub groups_balance : (v : Address) → Contains group_keys v
            → adjoint (map (through inner) (group_helds d.bound w groups)) v
            ≡ adjoint (leaf_helds d (leaves_of_each gs)) v
        groups_balance v c =
            +ℚ_cancel (adjoint (map (through inner) (group_helds d.bound w groups)) v)
            (adjoint (leaf_helds d (leaves_of_each gs)) v)
            (adjoint (leaf_helds d (leaves_in os)) v)
            (ap (λ q. adjoint (map (through inner) (group_helds d.bound w groups)) v +ℚ q)
            (sym (rows_through.same v))
            ∙ sym (adjoint-append (map (through inner) (group_helds d.bound w groups))
            (map (through inner) other_helds) v)
            ∙ ap (λ hs. adjoint hs v) (sym split_through)
            ∙ adjoints_through inner children v
            ∙ pull_alike children ts (seen_at inner v) (alike v c)
            ∙ sym (adjoints_through inner ts v)
            ∙ level.balance v (Contains-append_left group_keys other_keys v c)
            ∙ adjoint_of_leaves d (leaves_of_each gs) (leaves_in os) v)

        module _ (below : StandFor (map (through inner) (group_helds d.bound w groups))
            (leaf_helds d (leaves_of_each gs))) where
          -- and what stands below all children stands for them
          pub level_stands : StandFor (map (through inner) children) (leaf_helds d all_leaves)
          level_stands =
              subst (λ hs. StandFor hs (leaf_helds d all_leaves)) (sym split_through)
              (stand_leaves d (map (through inner) (group_helds d.bound w groups))
              (map (through inner) other_helds) (leaves_of_each gs) (leaves_in os) below
              rows_through)

          pub children_hold : DualsHold children
          children_hold = duals_from_through inner children level_stands.holds
