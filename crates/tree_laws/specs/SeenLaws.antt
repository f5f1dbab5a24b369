-- What stands below an item mentions what the item mentions, and the leaf variables that stand
-- there, alone.
use Rattle.std.specs.Prelude.{◌≡◌, ◌⊎◌, ℕ, Bool, true, false, cond, List, [], ◌∷◌, ◌++◌, All, Contains, length, map, refl}
use Rattle.std.specs.List.{zip}
use Rattle.std.proofs.Common.{inl, inr, sym, ap, ap₂, subst, ◌∙◌, true≢false}
use Rattle.std.proofs.lemmas.List.{length-map, map-append}
use Rattle.std.proofs.lemmas.List.Elements.{All-append, All-cons, All-head, All-map, All-nil, All-tail, All-weaker}
use Rattle.bridge_graph.specs.Hypergraph.{IsCostly}
use Rattle.bridge_graph.specs.declared.Choice.{Choice}
use Rattle.bridge_graph.specs.declared.Choice.TheVariants.{By}
use Rattle.expansion.specs.Bridged.{Bridged, EachBridged, EachBridgedIn, by, each, each_in, natively, none, none_in}
use Rattle.expansion.specs.Read.{leaves, leaves_in, leaves_of_each}
use Rattle.ratio_core.specs.Rational.{zero_ℚ}
use Rattle.aff_core.specs.Address.{Address, address_cmp}
use Rattle.aff_core.specs.Arithmetic.{composed}
use Rattle.aff_core.specs.Function.{coefficient, variable}
use Rattle.item_core.specs.declared.image.Expression.TheVariants.{Kept}
use Rattle.item_core.specs.declared.item.Item.{Item}
use Rattle.item_core.specs.Item.{functions_of, is_group, variables_of}
use Rattle.item_core.specs.Kind.{kind_number}
use Rattle.item_core.specs.KindOf.{kind_of_body}
use Rattle.item_core.specs.Valid.{NamesNothingBelow}
use Rattle.bridge_face.specs.ImageOf.{image_of}
use Rattle.bridge_face.specs.Law.{Miss, MentionsKnown, expressed, inner_of}
use Rattle.fresh_bridging.specs.BodyLaws.{functions_put}
use Rattle.fresh_bridging.specs.CanLaws.{AreLawful}
use Rattle.map_laws.specs.EachLaws.{all_both, all_from_map, all_first, all_second, all_seconds}
use Rattle.fresh_bridging.specs.Entries.{Entry, function_in, put_in, put_into}
use Rattle.fresh_bridging.specs.MentionLaws.{AllOmit, Omits}
use Rattle.fresh_bridging.specs.OmitLaws.{IsBelowAt, own_omit}
use Rattle.fresh_bridging.specs.TheRules.{AreChoices, Setting, edge_at, graph_of, outer_entries, rules_by}
use Rattle.address_laws.specs.Apart.{Avoids, in_or_not, not_in}
use Rattle.address_laws.specs.LeafKeys.{no_keys}
use Rattle.address_laws.specs.ImageLaws.{Misses, named_in_groups, variables_miss}
use Rattle.address_laws.specs.KeyLaws.{IsHere, child_groups_of, groups_here, groups_only, law_of, no_groups, others_here, others_of}
use Rattle.address_laws.specs.Keys.{keys, keys_in, keys_of_each, own}
use Rattle.address_laws.specs.PutLaws.{group_stays}
use Rattle.tree_laws.specs.LookupLaws.{Missed, components, composed_misses, given_components, own_components, put_misses}
use Rattle.tree_laws.specs.PutLaws.{group_functions}

-- ---- components

pub own_is : (item : Item) → is_group item.body ≡ true → own item ≡ variables_of item.body
own_is item h = ap (λ b. cond b (variables_of item.body) []) h

pub own_none_is : (item : Item) → is_group item.body ≡ false → own item ≡ []
own_none_is item h = ap (λ b. cond b (variables_of item.body) []) h

module _ (setting : Setting) (costly : IsCostly (graph_of setting)) (choice : ℕ → Choice)
    (chosen : AreChoices setting choice) (lawful : AreLawful setting) where
  abbrev Here : Item → Type 0
  Here item = IsHere setting costly choice chosen lawful item

  -- a group that is here
  pub record IsGroupHere (g : Item) : Type 0 where
    pub here : IsHere setting costly choice chosen lawful g
    pub group : is_group g.body ≡ true

  -- a row or an objective that is here
  pub record IsRowHere (c : Item) : Type 0 where
    pub here : IsHere setting costly choice chosen lawful c
    pub row : is_group c.body ≡ false

  -- ---- of an edge

  module _ (item : Item) (here : IsHere setting costly choice chosen lawful item) (n : ℕ)
      (e : choice (kind_number (kind_of_body item.body)) ≡ By n) where
    abbrev pub groups_at : List Item
    groups_at = child_groups_of setting costly choice chosen lawful item here.can n e

    abbrev pub others_at : List Item
    others_at = others_of setting costly choice chosen lawful item here.can n e

    pub child_groups_here : All IsGroupHere groups_at
    child_groups_here =
        All-weaker (λ g. Here g × (is_group g.body ≡ true)) IsGroupHere
        (λ g h. record { here = h.0; group = h.1 }) groups_at
        (all_both Here (λ g. is_group g.body ≡ true) groups_at
        (groups_here setting costly choice chosen lawful item here.can n e)
        (groups_only setting costly choice chosen lawful item here.can n e))

    pub exprs_count : is_group item.body ≡ true
        → length (image_of (edge_at n) item).exprs ≡ length (variables_of item.body)
    exprs_count g =
        (law_of setting costly choice chosen lawful item here.can n e).exprs g
        ∙ ap length (group_functions item.body g)
        ∙ length-map (variables_of item.body) (variable {R = address_cmp})

    -- the further children don't mention what neither the item nor the child groups have
    pub children_miss : (v : Address)
        → (is_group item.body ≡ false → Miss (functions_of item.body) v)
        → ¬ (Contains (inner_of groups_at) v) → All (Misses v) others_at
    children_miss v item_misses outer = by (is_group item.body) refl
      where
        by : (b : Bool) → is_group item.body ≡ b → All (Misses v) others_at
        by true g = named_in_groups setting costly choice chosen lawful item here.can n e g v outer
        by false g =
            All-weaker (MentionsKnown item (image_of (edge_at n) item)) (Misses v)
            (λ c k. k v (item_misses g) outer) others_at
            (law_of setting costly choice chosen lawful item here.can n e).mentioned

  -- ---- components of bridged groups

  mutual
    pub components_of : {group : Item} {entries : List Entry}
        → Bridged (rules_by choice) group entries → IsGroupHere group
        → components entries ≡ variables_of group.body
    components_of (natively {item} c) is =
        ap (λ b. components (cond b
        (map (λ u. record { component = u; expression = Kept u }) (variables_of item.body)) []))
        is.group
        ∙ own_components (variables_of item.body)
    components_of (by {item} {edge} {inner} c groups others) is =
        given_components inner (variables_of item.body) (image_of (edge_at edge) item).exprs
        (exprs_count item is.here edge c is.group)

    pub components_of_each : {groups : List Item} {entries : List Entry}
        → EachBridged (rules_by choice) groups entries → All IsGroupHere groups
        → components entries ≡ inner_of groups
    components_of_each none all = refl
    components_of_each (each {item} {items} {entries} {others} first rest) all =
        map-append (λ e. e.component) entries others
        ∙ ap₂ ◌++◌ (components_of first (All-head IsGroupHere item items all))
        (components_of_each rest (All-tail IsGroupHere item items all))

  -- ---- expressions mention the leaf variables alone

  outer_omits : (item : Item) (is : IsGroupHere item) (n : ℕ)
      (e : choice (kind_number (kind_of_body item.body)) ≡ By n) (inner : List Entry) (v : Address)
      → components inner ≡ inner_of (groups_at item is.here n e) → AllOmit v inner
      → AllOmit v (outer_entries n item inner)
  outer_omits item is n e inner v same omit =
      All-map (λ x. Omits v x.expression)
      (λ p. record { component = p.0; expression = put_into inner p.1 })
      (zip (variables_of item.body) (image_of (edge_at n) item).exprs)
      (All-weaker (λ p. Missed inner v (expressed p.1)) (λ p. Omits v (put_into inner p.1))
      (λ p h. put_misses inner p.1 v omit h)
      (zip (variables_of item.body) (image_of (edge_at n) item).exprs)
      (all_seconds (λ x. Missed inner v (expressed x)) (variables_of item.body)
      (image_of (edge_at n) item).exprs missed))
    where
      missed : All (λ x. Missed inner v (expressed x)) (image_of (edge_at n) item).exprs
      missed = by (in_or_not (components inner) v)
        where
          by : Contains (components inner) v ⊎ Avoids (components inner) v
              → All (λ x. Missed inner v (expressed x)) (image_of (edge_at n) item).exprs
          by (inl c) = λ k d end. inr c
          by (inr h) =
              All-weaker (λ x. coefficient (expressed x) v ≡ zero_ℚ)
              (λ x. Missed inner v (expressed x)) (λ x z. inl z) (image_of (edge_at n) item).exprs
              (all_from_map (λ f. coefficient f v ≡ zero_ℚ) expressed
              (image_of (edge_at n) item).exprs
              ((law_of setting costly choice chosen lawful item is.here.can n e).expressed v
              (λ c. not_in (components inner) v h (subst (λ l. Contains l v) (sym same) c))))

  mutual
    unfolding keys

    pub omit_tree : {group : Item} {entries : List Entry}
        (tree : Bridged (rules_by choice) group entries)
        → IsGroupHere group → (v : Address) → Avoids (keys own no_keys tree) v → AllOmit v entries
    omit_tree (natively {item} c) is v h =
        subst (λ b. AllOmit v (cond b
        (map (λ u. record { component = u; expression = Kept u }) (variables_of item.body)) []))
        (sym is.group)
        (own_omit (variables_of item.body) v
        (not_in (variables_of item.body) v (subst (λ l. Avoids l v) (own_is item is.group) h)))
    omit_tree (by {item} {edge} {inner} c groups others) is v h =
        outer_omits item is edge c inner v
        (components_of_each groups (child_groups_here item is.here edge c))
        (omit_each groups (child_groups_here item is.here edge c) v
        (all_first (λ k. ¬ (k ≡ v)) (keys_of_each own no_keys groups) (keys_in own no_keys others)
        h))

    pub omit_each : {groups : List Item} {entries : List Entry}
        (trees : EachBridged (rules_by choice) groups entries)
        → All IsGroupHere groups → (v : Address) → Avoids (keys_of_each own no_keys trees) v
        → AllOmit v entries
    omit_each none all v h = All-nil (λ e. Omits v e.expression)
    omit_each (each {item} {items} {entries} {others} first rest) all v h =
        All-append (λ e. Omits v e.expression) entries others
        (omit_tree first (All-head IsGroupHere item items all) v
        (all_first (λ k. ¬ (k ≡ v)) (keys own no_keys first) (keys_of_each own no_keys rest) h))
        (omit_each rest (All-tail IsGroupHere item items all) v
        (all_second (λ k. ¬ (k ≡ v)) (keys own no_keys first) (keys_of_each own no_keys rest) h))

  -- ---- and so do leaves

  pub put_in_misses : (inner : List Entry) (c : Item) (v : Address) → is_group c.body ≡ false
      → AllOmit v inner → All (Missed inner v) (functions_of c.body) → Misses v (put_in inner c)
  put_in_misses inner c v row omit missed =
      subst (λ fs. Miss fs v) (sym (functions_put inner c.body row))
      (All-map (λ f. coefficient f v ≡ zero_ℚ) (composed (function_in inner)) (functions_of c.body)
      (All-weaker (Missed inner v) (λ f. coefficient (composed (function_in inner) f) v ≡ zero_ℚ)
      (λ f h. composed_misses inner f v omit h) (functions_of c.body) missed))

  module _ (item : Item) (here : IsHere setting costly choice chosen lawful item) (n : ℕ)
      (e : choice (kind_number (kind_of_body item.body)) ≡ By n) (inner : List Entry)
      (groups : EachBridged (rules_by choice) (groups_at item here n e) inner) where
    pub child_rows_here : All (λ c. IsRowHere (put_in inner c)) (others_at item here n e)
    child_rows_here =
        All-weaker (λ c. Here (put_in inner c) × (is_group c.body ≡ false))
        (λ c. IsRowHere (put_in inner c))
        (λ c h. record { here = h.0; row = group_stays inner c.body ∙ h.1 })
        (others_at item here n e)
        (all_both (λ c. Here (put_in inner c)) (λ c. is_group c.body ≡ false)
        (others_at item here n e)
        (others_here setting costly choice chosen lawful item here.can n e inner groups)
        (no_groups setting costly choice chosen lawful item here.can n e))

    pub rows_miss : (v : Address)
        → (is_group item.body ≡ false → Miss (functions_of item.body) v)
        → Avoids (keys_of_each own no_keys groups) v
        → All (λ c. Misses v (put_in inner c)) (others_at item here n e)
    rows_miss v item_misses h =
        All-weaker (λ c. All (Missed inner v) (functions_of c.body) × (is_group c.body ≡ false))
        (λ c. Misses v (put_in inner c))
        (λ c k. put_in_misses inner c v k.1
        (omit_each groups (child_groups_here item here n e) v h) k.0)
        (others_at item here n e)
        (all_both (λ c. All (Missed inner v) (functions_of c.body)) (λ c. is_group c.body ≡ false)
        (others_at item here n e) missed
        (no_groups setting costly choice chosen lawful item here.can n e))
      where
        same : components inner ≡ inner_of (groups_at item here n e)
        same = components_of_each groups (child_groups_here item here n e)

        missed : All (λ c. All (Missed inner v) (functions_of c.body)) (others_at item here n e)
        missed = by (in_or_not (components inner) v)
          where
            by : Contains (components inner) v ⊎ Avoids (components inner) v
                → All (λ c. All (Missed inner v) (functions_of c.body)) (others_at item here n e)
            by (inl c) = λ k d end. λ j g ends. inr c
            by (inr out) =
                All-weaker (Misses v) (λ c. All (Missed inner v) (functions_of c.body))
                (λ c m. All-weaker (λ f. coefficient f v ≡ zero_ℚ) (Missed inner v)
                (λ f z. inl z) (functions_of c.body) m)
                (others_at item here n e)
                (children_miss item here n e v item_misses
                (λ c. not_in (components inner) v out (subst (λ l. Contains l v) (sym same) c)))

  group_misses : (item : Item) (v : Address) → is_group item.body ≡ true → Avoids (own item) v
      → Misses v item
  group_misses item v g h =
      subst (λ fs. Miss fs v) (sym (group_functions item.body g))
      (variables_miss (variables_of item.body) v (subst (λ l. Avoids l v) (own_is item g) h))

  mutual
    unfolding keys leaves

    pub leaves_miss : {item : Item} {entries : List Entry}
        (tree : Bridged (rules_by choice) item entries)
        → IsHere setting costly choice chosen lawful item → (v : Address)
        → (is_group item.body ≡ false → Miss (functions_of item.body) v)
        → Avoids (keys own no_keys tree) v → All (Misses v) (leaves tree)
    leaves_miss (natively {item} c) here v item_misses h =
        All-cons (Misses v) item [] (by (is_group item.body) refl) (All-nil (Misses v))
      where
        by : (b : Bool) → is_group item.body ≡ b → Misses v item
        by true g = group_misses item v g h
        by false g = item_misses g
    leaves_miss (by {item} {edge} {inner} c groups others) here v item_misses h =
        All-append (Misses v) (leaves_of_each groups) (leaves_in others)
        (leaves_of_each_miss groups (child_groups_here item here edge c) v
        (all_first (λ k. ¬ (k ≡ v)) (keys_of_each own no_keys groups) (keys_in own no_keys others)
        h))
        (leaves_in_miss others (child_rows_here item here edge c inner groups) v
        (rows_miss item here edge c inner groups v item_misses
        (all_first (λ k. ¬ (k ≡ v)) (keys_of_each own no_keys groups) (keys_in own no_keys others)
        h))
        (all_second (λ k. ¬ (k ≡ v)) (keys_of_each own no_keys groups) (keys_in own no_keys others)
        h))

    pub leaves_of_each_miss : {items : List Item} {entries : List Entry}
        (trees : EachBridged (rules_by choice) items entries)
        → All IsGroupHere items → (v : Address) → Avoids (keys_of_each own no_keys trees) v
        → All (Misses v) (leaves_of_each trees)
    leaves_of_each_miss none all v h = All-nil (Misses v)
    leaves_of_each_miss (each {item} {items} first rest) all v h =
        All-append (Misses v) (leaves first) (leaves_of_each rest)
        (leaves_miss first (All-head IsGroupHere item items all).here v
        (λ row. absurd (true≢false (sym (All-head IsGroupHere item items all).group ∙ row)))
        (all_first (λ k. ¬ (k ≡ v)) (keys own no_keys first) (keys_of_each own no_keys rest) h))
        (leaves_of_each_miss rest (All-tail IsGroupHere item items all) v
        (all_second (λ k. ¬ (k ≡ v)) (keys own no_keys first) (keys_of_each own no_keys rest) h))

    pub leaves_in_miss : {inner : List Entry} {items : List Item}
        (trees : EachBridgedIn (rules_by choice) inner items)
        → All (λ c. IsRowHere (put_in inner c)) items → (v : Address)
        → All (λ c. Misses v (put_in inner c)) items → Avoids (keys_in own no_keys trees) v
        → All (Misses v) (leaves_in trees)
    leaves_in_miss none_in all v m h = All-nil (Misses v)
    leaves_in_miss (each_in {inner} {item} {items} first rest) all v m h =
        All-append (Misses v) (leaves first) (leaves_in rest)
        (leaves_miss first (All-head (λ c. IsRowHere (put_in inner c)) item items all).here v
        (λ row. All-head (λ c. Misses v (put_in inner c)) item items m)
        (all_first (λ k. ¬ (k ≡ v)) (keys own no_keys first) (keys_in own no_keys rest) h))
        (leaves_in_miss rest (All-tail (λ c. IsRowHere (put_in inner c)) item items all) v
        (All-tail (λ c. Misses v (put_in inner c)) item items m)
        (all_second (λ k. ¬ (k ≡ v)) (keys own no_keys first) (keys_in own no_keys rest) h))

  -- ---- an item doesn't mention what stands below it

  pub row_misses_below : (item : Item) → IsRowHere item → (j : ℕ) (v : Address)
      → IsBelowAt item.at j v → Miss (functions_of item.body) v
  row_misses_below item is j v b =
      All-weaker (NamesNothingBelow item.at) (λ f. coefficient f v ≡ zero_ℚ)
      (λ f h. subst (λ u. coefficient f u ≡ zero_ℚ) (sym b.is) (h (j ∷ b.rest)))
      (functions_of item.body) (is.here.can.valid.others is.row)
