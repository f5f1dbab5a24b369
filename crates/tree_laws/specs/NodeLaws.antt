-- A bridged item and its children: what stands below the children stands for the item, by the law
-- of its edge.
use Rattle.std.specs.Prelude.{◌≡◌, ◌⊎◌, ◌+◌, ℕ, suc, Bool, true, false, cond, List, [], ◌∷◌, ◌++◌, All, Contains, drop, length, map, take, refl}
use Rattle.std.proofs.Common.{arith, inl, inr, sym, ap, ap₂, subst, ◌∙◌}
use Rattle.std.proofs.lemmas.List.{length-append, length-drop, length-map, length-take}
use Rattle.std.proofs.lemmas.List.Elements.{All-append, All-cons, All-contains, All-contains_itself, All-head, All-map, All-nil, All-tail, All-weaker}
use Rattle.bridge_graph.specs.Hypergraph.{IsCostly}
use Rattle.bridge_graph.specs.declared.Choice.{Choice}
use Rattle.bridge_graph.specs.declared.Choice.TheVariants.{By}
use Rattle.expansion.specs.Bridged.{EachBridged, EachBridgedIn, by, each_in, none_in}
use Rattle.expansion.specs.Read.{leaves_in, leaves_of_each}
use Rattle.ratio_core.specs.Rational.{Rational, zero_ℚ, ◌+ℚ◌, ◌-ℚ◌, ◌≤ℚ◌}
use Rattle.rational_laws.specs.Field.{+ℚ-zero, -ℚ-+ℚ_cancel}
use Rattle.aff_core.specs.Address.{Address}
use Rattle.aff_core.specs.Arithmetic.{composed}
use Rattle.aff_core.specs.Function.{coefficient}
use Rattle.dual_laws.specs.Held.{DualsHold, DualRow, IsHeld, adjoint, adjoint_of, gap, gap_of}
use Rattle.item_core.specs.declared.image.Image.{Image}
use Rattle.item_core.specs.declared.item.Item.{Item}
use Rattle.item_core.specs.Item.{functions_of, is_group, variables_of}
use Rattle.item_core.specs.Kind.{kind_number}
use Rattle.item_core.specs.KindOf.{kind_of_body}
use Rattle.bridge_face.specs.ImageOf.{image_of}
use Rattle.bridge_face.specs.Law.{Carries, ChildDuals, IsCovered, Miss, expressed, held, held_body, held_children, held_item, inner_of, listed, row_functions, standing}
use Rattle.fresh_bridging.specs.CanLaws.{AreLawful}
use Rattle.fresh_bridging.specs.Entries.{Entry, function_in, put_in}
use Rattle.fresh_bridging.specs.OmitLaws.{IsBelowAt}
use Rattle.fresh_bridging.specs.TheRules.{AreChoices, Setting, edge_at, graph_of, rules_by}
use Rattle.address_laws.specs.Apart.{Avoids, Distinct, avoids, distinct-append, in_or_not, in_second, not_in}
use Rattle.address_laws.specs.LeafKeys.{no_keys, variables_are}
use Rattle.address_laws.specs.ImageLaws.{Misses}
use Rattle.address_laws.specs.KeyLaws.{IsHere, groups_apart, groups_here, groups_under, law_of, no_groups, once_in_tree, others_here, others_under, within_each, within_in}
use Rattle.address_laws.specs.Keys.{Mine, keys, keys_in, keys_of_each, own}
use Rattle.address_laws.specs.Regions.{AreRegionsApart}
use Rattle.tree_laws.specs.Carried.{LeafAnswerDuals, StandFor, backs, group_held, group_helds, leaf_helds, through}
use Rattle.tree_laws.specs.LevelLaws.{IsLevel, children_hold, level_stands, meets}
use Rattle.tree_laws.specs.LookupLaws.{Missed, components, composed_misses}
use Rattle.tree_laws.specs.PutLaws.{row_misses}
use Rattle.tree_laws.specs.SeenLaws.{IsGroupHere, child_groups_here, child_rows_here, children_miss, components_of_each, groups_at, omit_each, others_at, own_is, row_misses_below, rows_miss}
use Rattle.tree_laws.specs.ThroughLaws.{HeldMisses, adjoints_missed, stand_after, stand_through}

-- ---- components are distinct

avoid_inner : (groups : List Item) (v : Address) → All (λ g. is_group g.body ≡ true) groups
    → All (λ g. ¬ (Mine g v)) groups → Avoids (inner_of groups) v
avoid_inner [] v h n = All-nil (λ k. ¬ (k ≡ v))
avoid_inner (g ∷ groups) v h n =
    All-append (λ k. ¬ (k ≡ v)) (variables_of g.body) (inner_of groups)
    (avoids (variables_of g.body) v
    (λ c. All-head (λ x. ¬ (Mine x v)) g groups n
    (inr (subst (λ l. Contains l v)
    (sym (own_is g (All-head (λ x. is_group x.body ≡ true) g groups h))) c))))
    (avoid_inner groups v (All-tail (λ x. is_group x.body ≡ true) g groups h)
    (All-tail (λ x. ¬ (Mine x v)) g groups n))

pub inner_distinct : (groups : List Item) → All (λ g. is_group g.body ≡ true) groups
    → All (λ g. Distinct (own g)) groups → AreRegionsApart Mine groups → Distinct (inner_of groups)
inner_distinct [] h d a = tt
inner_distinct (g ∷ groups) h d a =
    distinct-append (variables_of g.body) (inner_of groups)
    (subst Distinct same (All-head (λ x. Distinct (own x)) g groups d))
    (inner_distinct groups (All-tail (λ x. is_group x.body ≡ true) g groups h)
    (All-tail (λ x. Distinct (own x)) g groups d) a.1)
    (All-weaker (Contains (variables_of g.body)) (Avoids (inner_of groups))
    (λ v c. avoid_inner groups v (All-tail (λ x. is_group x.body ≡ true) g groups h)
    (a.0 v (inr (subst (λ l. Contains l v) (sym same) c))))
    (variables_of g.body) (All-contains_itself (variables_of g.body)))
  where
    same : own g ≡ variables_of g.body
    same = own_is g (All-head (λ x. is_group x.body ≡ true) g groups h)

-- ---- lists of children with their duals

pub held_missed : (bound : Rational) (v : Address) (items : List Item) (ys : List (List Rational))
    → All (Misses v) items → All (HeldMisses v) (held bound items ys)
held_missed bound v [] ys m = All-nil (HeldMisses v)
held_missed bound v (c ∷ cs) [] m = All-nil (HeldMisses v)
held_missed bound v (c ∷ cs) (y ∷ ys) m =
    All-cons (HeldMisses v) (held_body bound c.body y) (held bound cs ys)
    (row_misses c.body v (All-head (Misses v) c cs m))
    (held_missed bound v cs ys (All-tail (Misses v) c cs m))

held_none : (bound : Rational) (items : List Item) → held bound items [] ≡ []
held_none bound [] = refl
held_none bound (c ∷ cs) = refl

pub held_split : (bound : Rational) (rows others : List Item) (ys : List (List Rational))
    → held bound rows (take (length rows) ys) ++ held bound others (drop (length rows) ys)
    ≡ held bound (rows ++ others) ys
held_split bound [] others ys = refl
held_split bound (r ∷ rows) others [] = held_none bound others
held_split bound (r ∷ rows) others (y ∷ ys) =
    ap (λ l. held_body bound r.body y ∷ l) (held_split bound rows others ys)

held_groups : (bound : Rational) (w : Address → Rational) (groups : List Item)
    → held bound groups (map (λ g. map w (variables_of g.body)) groups)
    ≡ group_helds bound w groups
held_groups bound w [] = refl
held_groups bound w (g ∷ groups) =
    ap (λ l. group_held bound w g ∷ l) (held_groups bound w groups)

-- ---- one row with its dual, as a list

pub one_stands : (h : DualRow) (ls : List DualRow) → IsHeld h
    → ((v : Address) → adjoint_of h v ≡ adjoint ls v) → gap ls ≤ℚ gap_of h
    → StandFor (h ∷ []) ls
one_stands h ls i same gaps = record {
  holds = All-cons IsHeld h [] i (All-nil IsHeld);
  same = λ v. +ℚ-zero (adjoint_of h v) ∙ same v;
  gaps = subst (λ q. gap ls ≤ℚ q) (sym (+ℚ-zero (gap_of h))) gaps;
}

module _ (setting : Setting) (costly : IsCostly (graph_of setting)) (choice : ℕ → Choice)
    (chosen : AreChoices setting choice) (lawful : AreLawful setting) (d : LeafAnswerDuals) where
  module _ {inner : List Entry} where
    pub length-backs : {items : List Item} (trees : EachBridgedIn (rules_by choice) inner items)
        → length (backs d trees) ≡ length items
    unfolding backs
    length-backs none_in = refl
    length-backs (each_in first rest) = ap suc (length-backs rest)

  module _ (item : Item) (here : IsHere setting costly choice chosen lawful item) (n : ℕ)
      (e : choice (kind_number (kind_of_body item.body)) ≡ By n) where
    abbrev pub image : Image
    image = image_of (edge_at n) item

    abbrev pub groups : List Item
    groups = groups_at setting costly choice chosen lawful item here n e

    abbrev pub others : List Item
    others = others_at setting costly choice chosen lawful item here n e

    module _ (inner : List Entry) (gs : EachBridged (rules_by choice) groups inner)
        (os : EachBridgedIn (rules_by choice) inner others) where
      abbrev pub group_keys : List Address
      group_keys = keys_of_each own no_keys gs

      abbrev pub other_keys : List Address
      other_keys = keys_in own no_keys os

      abbrev pub all_leaves : List Item
      all_leaves = leaves_of_each gs ++ leaves_in os

      abbrev pub other_helds : List DualRow
      other_helds = held d.bound others (backs d os)

      abbrev pub target : List Rational → DualRow
      target w = held_item d.bound item image w

      -- ---- leaf variables stand below the item

      abbrev IsUnder : Address → Type 0
      IsUnder v = (j : ℕ) × IsBelowAt item.at j v

      groups_stand_under : All IsUnder group_keys
      groups_stand_under =
          within_each setting costly choice chosen lawful own no_keys variables_are IsUnder gs
          (groups_here setting costly choice chosen lawful item here.can n e)
          (groups_under setting costly choice chosen lawful item here.can n e)

      others_stand_under : All IsUnder other_keys
      others_stand_under =
          within_in setting costly choice chosen lawful own no_keys variables_are IsUnder os
          (others_here setting costly choice chosen lawful item here.can n e inner gs)
          (others_under setting costly choice chosen lawful item here.can n e inner)

      pub keys_under : (v : Address) → Contains (group_keys ++ other_keys) v → IsUnder v
      keys_under v c =
          All-contains IsUnder (group_keys ++ other_keys) v
          (All-append IsUnder group_keys other_keys groups_stand_under others_stand_under) c

      item_misses : (v : Address) → IsUnder v → is_group item.body ≡ false
          → Miss (functions_of item.body) v
      item_misses v b row =
          row_misses_below setting costly choice chosen lawful item
          (record { here = here; row = row }) b.0 v b.1

      same_components : components inner ≡ inner_of groups
      same_components =
          components_of_each setting costly choice chosen lawful gs
          (child_groups_here setting costly choice chosen lawful item here n e)

      -- ---- what the item's own functions, or a group's expressions, mention

      standing_misses : (v : Address) → IsUnder v → Avoids (inner_of groups) v
          → Miss (standing item image) v
      standing_misses v b h = by (is_group item.body) refl
        where
          by : (t : Bool) → is_group item.body ≡ t
              → Miss (cond t (map expressed image.exprs) (row_functions item.body)) v
          by true g =
              (law_of setting costly choice chosen lawful item here.can n e).expressed v
              (not_in (inner_of groups) v h)
          by false g = row_misses item.body v (item_misses v b g)

      standing_missed : (v : Address) → IsUnder v → All (Missed inner v) (standing item image)
      standing_missed v b = by (in_or_not (components inner) v)
        where
          by : Contains (components inner) v ⊎ Avoids (components inner) v
              → All (Missed inner v) (standing item image)
          by (inl c) = λ k z end. inr c
          by (inr h) =
              All-weaker (λ f. coefficient f v ≡ zero_ℚ) (Missed inner v) (λ f z. inl z)
              (standing item image)
              (standing_misses v b (subst (λ l. Avoids l v) same_components h))

      target_quiet : (w : List Rational) (v : Address) → Contains other_keys v
          → Avoids group_keys v
          → adjoint (map (through inner) (target w ∷ [])) v ≡ zero_ℚ
      target_quiet w v c h =
          adjoints_missed (through inner (target w) ∷ []) v
          (All-cons (HeldMisses v) (through inner (target w)) []
          (All-map (λ f. coefficient f v ≡ zero_ℚ) (composed (function_in inner))
          (standing item image)
          (All-weaker (Missed inner v)
          (λ f. coefficient (composed (function_in inner) f) v ≡ zero_ℚ)
          (λ f m. composed_misses inner f v
          (omit_each setting costly choice chosen lawful gs
          (child_groups_here setting costly choice chosen lawful item here n e) v h) m)
          (standing item image)
          (standing_missed v (All-contains IsUnder other_keys v others_stand_under c))))
          (All-nil (HeldMisses v)))

      keys_distinct : Distinct (group_keys ++ other_keys)
      unfolding keys
      keys_distinct =
          once_in_tree setting costly choice chosen lawful own no_keys variables_are (by e gs os)
          here

      pub components_distinct : Distinct (inner_of groups)
      components_distinct =
          inner_distinct groups
          (All-weaker (IsGroupHere setting costly choice chosen lawful)
          (λ g. is_group g.body ≡ true) (λ g h. h.group) groups
          (child_groups_here setting costly choice chosen lawful item here n e))
          (All-weaker (IsHere setting costly choice chosen lawful) (λ g. Distinct (own g))
          (λ g h. h.once) groups
          (groups_here setting costly choice chosen lawful item here.can n e))
          (groups_apart setting costly choice chosen lawful item here.can n e)

      -- ---- the level below the item

      module _ (w : List Rational) (duals : DualsHold (leaf_helds d all_leaves))
          (balance : (v : Address) → Contains (group_keys ++ other_keys) v
          → adjoint (through inner (target w) ∷ []) v ≡ adjoint (leaf_helds d all_leaves) v)
        where
          pub level : IsLevel setting costly choice chosen lawful d groups others inner gs os
              (target w ∷ [])
          level = record {
            groups_here = child_groups_here setting costly choice chosen lawful item here n e;
            others_here = child_rows_here setting costly choice chosen lawful item here n e inner
                gs;
            rows_only = no_groups setting costly choice chosen lawful item here.can n e;
            distinct = keys_distinct;
            distinct_inner = components_distinct;
            duals = duals;
            balance = balance;
            quiet = λ v c. target_quiet w v c (in_second group_keys other_keys v keys_distinct c);
            missed = λ v c.
                rows_miss setting costly choice chosen lawful item here n e inner gs v
                (item_misses v (All-contains IsUnder other_keys v others_stand_under c))
                (in_second group_keys other_keys v keys_distinct c);
            outside = λ v c h.
                let b = All-contains IsUnder group_keys v groups_stand_under c in (
                  adjoints_missed (target w ∷ []) v
                      (All-cons (HeldMisses v) (target w) [] (standing_misses v b h)
                      (All-nil (HeldMisses v))),
                  adjoints_missed other_helds v
                      (held_missed d.bound v others (backs d os)
                      (children_miss setting costly choice chosen lawful item here n e v
                      (item_misses v b) (not_in (inner_of groups) v h))),
                );
          }

          -- the numbers that are left for the child groups' variables
          pub left : Address → Rational
          left v = adjoint (target w ∷ []) v -ℚ adjoint other_helds v

          pub left_rest : (v : Address) → left v +ℚ adjoint other_helds v ≡ adjoint (target w ∷ [])
              v
          unfolding left
          left_rest v = -ℚ-+ℚ_cancel (adjoint (target w ∷ []) v) (adjoint other_helds v)

          module _ (carries : (duals : ChildDuals)
              → duals.rows ≡ take (length image.rows) (backs d os)
              → duals.objective ≡ drop (length image.rows) (backs d os)
              → Carries (edge_at n) item duals w)
              (rows : StandFor (held d.bound (map (put_in inner) others) (backs d os))
              (leaf_helds d (leaves_in os)))
              (below : StandFor (map (through inner) (group_helds d.bound left groups))
              (leaf_helds d (leaves_of_each gs))) where
            abbrev child_duals : ChildDuals
            child_duals = record {
              groups = map (λ g. map left (variables_of g.body)) groups;
              rows = take (length image.rows) (backs d os);
              objective = drop (length image.rows) (backs d os);
            }

            abbrev all_children : List DualRow
            all_children = group_helds d.bound left groups ++ other_helds

            children_are : held_children d.bound image child_duals ≡ all_children
            children_are =
                ap₂ ◌++◌ (held_groups d.bound left groups)
                (held_split d.bound image.rows (listed image.objective) (backs d os))

            counted : length (backs d os) ≡ length image.rows + length (listed image.objective)
            counted = length-backs os ∙ length-append image.rows (listed image.objective)

            covered : IsCovered d.bound item image child_duals w
            covered =
                (law_of setting costly choice chosen lawful item here.can n e).duals d.bound
                child_duals w
                (record {
                  each = record {
                    groups = length-map groups (λ g. map left (variables_of g.body));
                    rows = omega (arith, counted, length-take (length image.rows) (backs d os));
                    objective = omega (
                      arith,
                      counted,
                      length-drop (length image.rows)
                          (backs d os),
                    );
                  };
                  carries = carries child_duals refl refl;
                  hold = subst DualsHold (sym children_are)
                      (children_hold setting costly choice chosen lawful d groups others inner gs os
                      (target w ∷ []) level left left_rest rows below);
                  inner =
                      All-weaker (Contains (inner_of groups))
                      (λ v. adjoint_of (target w) v
                      ≡ adjoint (held_children d.bound image child_duals) v)
                      (λ v c. sym (+ℚ-zero (adjoint_of (target w) v))
                      ∙ sym (meets setting costly choice chosen lawful d groups others inner gs os
                      (target w ∷ []) level left left_rest rows v c)
                      ∙ ap (λ hs. adjoint hs v) (sym children_are))
                      (inner_of groups) (All-contains_itself (inner_of groups));
                })

            pub target_stands : StandFor (through inner (target w) ∷ []) (leaf_helds d all_leaves)
            target_stands =
                stand_after (through inner (target w) ∷ []) (map (through inner) all_children)
                (leaf_helds d all_leaves)
                (stand_through inner (target w ∷ []) all_children
                (one_stands (target w) all_children covered.holds
                (λ v. covered.same v ∙ ap (λ hs. adjoint hs v) children_are)
                (subst (λ hs. gap hs ≤ℚ gap_of (target w)) children_are covered.gaps)))
                (level_stands setting costly choice chosen lawful d groups others inner gs os
                (target w ∷ []) level left left_rest rows below)
