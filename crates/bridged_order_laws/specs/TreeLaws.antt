-- Below an item the objective's leaf stands last: above each leaf variable and each leaf row.
use Rattle.std.specs.Prelude.{◌≡◌, ◌⊎◌, ◌+◌, ◌<◌, ℕ, Bool, true, false, List, [], ◌∷◌, ◌++◌, All, length, map, refl}
use Rattle.std.specs.List.{range_with_len}
use Rattle.std.specs.declared.cmp.Ordering.TheVariants.{Less}
use Rattle.std.proofs.Common.{arith, inl, inr, sym, ap₂, append-nil, subst, true≢false, ◌∙◌}
use Rattle.std.proofs.lemmas.List.Elements.{All-append, All-head, All-nil, All-tail, All-weaker}
use Rattle.bridge_graph.specs.Hypergraph.{IsCostly}
use Rattle.bridge_graph.specs.declared.Choice.{Choice}
use Rattle.bridge_graph.specs.declared.Choice.TheVariants.{By}
use Rattle.expansion.specs.Bridged.{Bridged, EachBridged, EachBridgedIn, by, each, each_in, natively, none, none_in}
use Rattle.aff_core.specs.Address.{Address, address_cmp, child_of}
use Rattle.item_core.specs.declared.item.Body.{Body}
use Rattle.item_core.specs.declared.item.Body.TheVariants.{AffineObj, PlainObj}
use Rattle.item_core.specs.declared.item.Item.{Item}
use Rattle.item_core.specs.Item.{is_group}
use Rattle.item_core.specs.Kind.{kind_number}
use Rattle.item_core.specs.KindOf.{kind_of_body}
use Rattle.bridge_face.specs.ImageOf.{image_of}
use Rattle.bridge_face.specs.Law.{is_objective, listed}
use Rattle.fresh_bridging.specs.CanLaws.{AreLawful, Can}
use Rattle.fresh_bridging.specs.Entries.{Entry, put_in}
use Rattle.fresh_bridging.specs.OmitLaws.{IsBelowAt}
use Rattle.fresh_bridging.specs.TheRules.{AreChoices, Setting, edge_at, graph_of, rules_by}
use Rattle.map_laws.specs.EachLaws.{StandsFrom, all_both, cons_head, cons_tail, stand_first, stand_from, stand_second}
use Rattle.address_laws.specs.ImageLaws as image
use Rattle.address_laws.specs.KeyLaws.{AreKeys, IsHere, groups_below, groups_here, groups_only, law_of, no_groups, other_below, others_here, within, within_each}
use Rattle.address_laws.specs.Keys.{Mine, keys, keys_in, keys_of_each}
use Rattle.address_laws.specs.LeafKeys.{alone_are, no_keys, objective_keys, objectives_alone}
use Rattle.address_laws.specs.PutLaws.{group_stays, objective_stays}
use Rattle.address_laws.specs.Regions.{AtOrBelow, at_child}
use Rattle.bridged_order_laws.specs.AboveLaws.{AllBefore, Before, both_before, child_less, none_before}

-- ---- items

abbrev pub IsNoObjective : Item → Type 0
IsNoObjective c = is_objective c.body ≡ false

abbrev pub IsNoGroup : Item → Type 0
IsNoGroup c = is_group c.body ≡ false

group_plain : (b : Body) → is_group b ≡ true → is_objective b ≡ false
group_plain (PlainObj sense var) h = absurd (true≢false (sym h))
group_plain (AffineObj sense func) h = absurd (true≢false (sym h))
group_plain _ h = refl

-- no leaf objective but of an objective
plain_keys : (item : Item) → IsNoObjective item → objective_keys item ≡ []
plain_keys item h = by item.body h
  where
    by : (b : Body) → is_objective b ≡ false
        → objective_keys (record { at = item.at; body = b }) ≡ []
    by (PlainObj sense var) h = absurd (true≢false h)
    by (AffineObj sense func) h = absurd (true≢false h)
    by _ h = refl

-- of items one after another the objective is the last, and what is at or below another is below
-- what is at or below it
abbrev pub LeadInOrder : List Item → Type 0
LeadInOrder [] = Unit {0}
LeadInOrder (x ∷ xs) =
    (xs ≡ [])
    ⊎ (IsNoObjective x
    × All (λ y. is_objective y.body ≡ true → (v o : Address) → AtOrBelow x v → AtOrBelow y o
    → address_cmp v o ≡ Less) xs
    × LeadInOrder xs)

-- items at the positions of an address from one on
abbrev Placed : Address → ℕ → List Item → Type 0
Placed at low items =
    map (λ (c : Item). c.at) items ≡ map (child_of at) (range_with_len low (length items))

-- of two lists one after the other the second is placed behind the first
placed_second : (at : Address) (xs ys : List Item) (low : ℕ) → Placed at low (xs ++ ys)
    → Placed at (low + length xs) ys
placed_second at [] ys low e =
    let same : low ≡ low + 0 = omega arith in subst (λ n. Placed at n ys) same e
placed_second at (x ∷ xs) ys low e =
    let same : (low + 1) + length xs ≡ low + length (x ∷ xs) = omega arith in
    subst (λ n. Placed at n ys) same
    (placed_second at xs ys (low + 1)
    (cons_tail x.at (child_of at low) (map (λ (c : Item). c.at) (xs ++ ys))
    (map (child_of at) (range_with_len (low + 1) (length (xs ++ ys)))) e))

-- where plain items come first, and then one more
leads_placed : (at : Address) (xs : List Item) (low : ℕ) (last : Item)
    → Placed at low (xs ++ last ∷ []) → All IsNoObjective xs → LeadInOrder (xs ++ last ∷ [])
leads_placed at [] low last e h = inl refl
leads_placed at (x ∷ xs) low last e h =
    inr (
      All-head IsNoObjective x xs h,
      All-weaker
          (StandsFrom (λ (c : Item). c.at) (child_of at) (low + 1)
          ((low + 1) + length (xs ++ last ∷ [])))
          (λ y. is_objective y.body ≡ true → (v o : Address) → AtOrBelow x v → AtOrBelow y o
          → address_cmp v o ≡ Less)
          (λ y s is v o b c. child_less at low s.place v o (omega (arith, s.from))
          (at_child at low x.at here v b) (at_child at s.place y.at s.is o c))
          (xs ++ last ∷ [])
          (stand_from (λ (c : Item). c.at) (child_of at) (xs ++ last ∷ []) (low + 1)
          ((low + 1) + length (xs ++ last ∷ [])) (omega arith) rest),
      leads_placed at xs (low + 1) last rest (All-tail IsNoObjective x xs h),
    )
  where
    here : x.at ≡ child_of at low
    here = cons_head x.at (child_of at low) (map (λ (c : Item). c.at) (xs ++ last ∷ []))
        (map (child_of at) (range_with_len (low + 1) (length (xs ++ last ∷ [])))) e

    rest : Placed at (low + 1) (xs ++ last ∷ [])
    rest = cons_tail x.at (child_of at low) (map (λ (c : Item). c.at) (xs ++ last ∷ []))
        (map (child_of at) (range_with_len (low + 1) (length (xs ++ last ∷ [])))) e

module _ (setting : Setting) (costly : IsCostly (graph_of setting)) (choice : ℕ → Choice)
    (chosen : AreChoices setting choice) (lawful : AreLawful setting) where
  abbrev Here : Item → Type 0
  Here item = IsHere setting costly choice chosen lawful item

  abbrev HereIn : List Entry → Item → Type 0
  HereIn inner c = Here (put_in inner c)

  objectives : AreKeys objective_keys no_keys
  objectives = alone_are objective_keys objectives_alone

  -- ---- what an edge makes

  module _ (item : Item) (can : Can setting costly choice chosen item) (n : ℕ)
      (e : choice (kind_number (kind_of_body item.body)) ≡ By n) where
    abbrev Groups : List Item
    Groups = (image_of (edge_at n) item).groups

    abbrev Others : List Item
    Others = (image_of (edge_at n) item).rows ++ listed (image_of (edge_at n) item).objective

    groups_plain : All IsNoObjective Groups
    groups_plain =
        All-weaker (λ g. is_group g.body ≡ true) IsNoObjective (λ g h. group_plain g.body h) Groups
        (groups_only setting costly choice chosen lawful item can n e)

    rows_plain : All IsNoObjective (image_of (edge_at n) item).rows
    rows_plain = image.rows_alone setting costly choice chosen lawful item can n e

    others_plain : IsNoObjective item → All IsNoObjective Others
    others_plain h =
        All-append IsNoObjective (image_of (edge_at n) item).rows
        (listed (image_of (edge_at n) item).objective) rows_plain
        (subst (λ x. All IsNoObjective (listed x))
        (sym (image.no_child_objective setting costly choice chosen lawful item can n e h))
        (All-nil IsNoObjective))

    placed : Placed item.at 0 (Groups ++ Others)
    placed = (law_of setting costly choice chosen lawful item can n e).positions

    -- the objective that an objective leads to stands last
    others_lead : is_objective item.body ≡ true → LeadInOrder Others
    others_lead h =
        let has = image.child_objective setting costly choice chosen lawful item can n e h in
        subst (λ x. LeadInOrder ((image_of (edge_at n) item).rows ++ listed x)) (sym has.is)
        (leads_placed item.at (image_of (edge_at n) item).rows (0 + length Groups) has.child
        (subst (λ x. Placed item.at (0 + length Groups)
        ((image_of (edge_at n) item).rows ++ listed x)) has.is
        (placed_second item.at Groups Others 0 placed))
        rows_plain)

    -- what stands at or below a child group is below what stands at or below another child
    abbrev BelowOthers : Address → Type 0
    BelowOthers v = (j : ℕ) × (j < length Groups) × IsBelowAt item.at j v

    groups_first : All (λ g. (v : Address) → Mine g v → BelowOthers v) Groups
    groups_first =
        All-weaker
        (λ g. StandsFrom (λ (c : Item). c.at) (child_of item.at) 0 (0 + length Groups) g
        × ((v : Address) → Mine g v → AtOrBelow g v))
        (λ g. (v : Address) → Mine g v → BelowOthers v)
        (λ g h v m. (
          h.0.place,
          omega (arith, h.0.to),
          at_child item.at h.0.place g.at h.0.is v (h.1 v m),
        ))
        Groups
        (all_both (StandsFrom (λ (c : Item). c.at) (child_of item.at) 0 (0 + length Groups))
        (λ g. (v : Address) → Mine g v → AtOrBelow g v) Groups
        (stand_first (λ (c : Item). c.at) (child_of item.at) Groups Others 0 placed)
        (groups_below setting costly choice chosen lawful item can n e))

    others_after : (vs : List Address) → All BelowOthers vs
        → All (λ y. is_objective y.body ≡ true → (o : Address) → AtOrBelow y o → Before vs o)
        Others
    others_after vs h =
        All-weaker
        (StandsFrom (λ (c : Item). c.at) (child_of item.at) (0 + length Groups)
        (0 + length (Groups ++ Others)))
        (λ y. is_objective y.body ≡ true → (o : Address) → AtOrBelow y o → Before vs o)
        (λ y s is o b. All-weaker BelowOthers (λ v. address_cmp v o ≡ Less)
        (λ v p. child_less item.at p.0 s.place v o (omega (arith, p.1, s.from)) p.2
        (at_child item.at s.place y.at s.is o b)) vs h)
        Others
        (stand_second (λ (c : Item). c.at) (child_of item.at) Groups Others 0 placed)

  -- ---- items that are no objectives have no leaf objective

  mutual
    unfolding keys

    pub none_of : {item : Item} {entries : List Entry}
        (tree : Bridged (rules_by choice) item entries)
        → Here item → IsNoObjective item → keys objective_keys no_keys tree ≡ []
    none_of (natively {item} c) here h = plain_keys item h
    none_of (by {item} {edge} {inner} c groups others) here h =
        ap₂ ◌++◌
        (none_of_each groups
        (groups_here setting costly choice chosen lawful item here.can edge c)
        (groups_plain item here.can edge c))
        (none_of_others others
        (others_here setting costly choice chosen lawful item here.can edge c inner groups)
        (others_plain item here.can edge c h))

    pub none_of_each : {items : List Item} {entries : List Entry}
        (trees : EachBridged (rules_by choice) items entries) → All Here items
        → All IsNoObjective items → keys_of_each objective_keys no_keys trees ≡ []
    none_of_each none here h = refl
    none_of_each (each {item} {items} first rest) here h =
        ap₂ ◌++◌
        (none_of first (All-head Here item items here) (All-head IsNoObjective item items h))
        (none_of_each rest (All-tail Here item items here) (All-tail IsNoObjective item items h))

    pub none_of_others : {inner : List Entry} {items : List Item}
        (trees : EachBridgedIn (rules_by choice) inner items) → All (HereIn inner) items
        → All IsNoObjective items → keys_in objective_keys no_keys trees ≡ []
    none_of_others none_in here h = refl
    none_of_others {inner} (each_in {item = item} {items = items} first rest) here h =
        ap₂ ◌++◌
        (none_of first (All-head (HereIn inner) item items here)
        (objective_stays inner item.body ∙ All-head IsNoObjective item items h))
        (none_of_others rest (All-tail (HereIn inner) item items here)
        (All-tail IsNoObjective item items h))

  -- ---- the leaf objectives of further items are above these addresses

  cross_one : (item : Item) {now : Item} {entries : List Entry} (b : Bool)
      → is_objective item.body ≡ b → (tree : Bridged (rules_by choice) now entries) → Here now
      → IsNoGroup now → is_objective now.body ≡ is_objective item.body → (vs : List Address)
      → (is_objective item.body ≡ true → (o : Address) → AtOrBelow now o → Before vs o)
      → AllBefore vs (keys objective_keys no_keys tree)
  cross_one item {now} true e tree here alone same vs h =
      within setting costly choice chosen lawful objective_keys no_keys objectives (Before vs)
      tree here (λ o m. h e o (other_below now alone o m))
  cross_one item {now} false e tree here alone same vs h =
      subst (AllBefore vs) (sym (none_of tree here (same ∙ e))) (All-nil (Before vs))

  pub cross : {inner : List Entry} {items : List Item}
      (trees : EachBridgedIn (rules_by choice) inner items) → All (HereIn inner) items
      → All IsNoGroup items → (vs : List Address)
      → All (λ y. is_objective y.body ≡ true → (o : Address) → AtOrBelow y o → Before vs o) items
      → AllBefore vs (keys_in objective_keys no_keys trees)
  unfolding keys
  cross none_in here alone vs h = All-nil (Before vs)
  cross {inner} (each_in {item = item} {items = items} first rest) here alone vs h =
      All-append (Before vs) (keys objective_keys no_keys first)
      (keys_in objective_keys no_keys rest)
      (cross_one item (is_objective item.body) refl first
      (All-head (HereIn inner) item items here)
      (group_stays inner item.body ∙ All-head IsNoGroup item items alone)
      (objective_stays inner item.body) vs
      (All-head (λ y. is_objective y.body ≡ true → (o : Address) → AtOrBelow y o → Before vs o)
      item items h))
      (cross rest (All-tail (HereIn inner) item items here) (All-tail IsNoGroup item items alone)
      vs
      (All-tail (λ y. is_objective y.body ≡ true → (o : Address) → AtOrBelow y o → Before vs o)
      item items h))

  -- ---- in each tree

  nothing_in : {inner : List Entry} {items : List Item} (of_leaf : Item → List Address)
      (trees : EachBridgedIn (rules_by choice) inner items) → items ≡ []
      → keys_in of_leaf no_keys trees ≡ []
  unfolding keys
  nothing_in of_leaf none_in e = refl
  nothing_in of_leaf (each_in {item = item} {items = items} first rest) e =
      absurd (no_items item items e)
    where
      no_items : (x : Item) (xs : List Item) → x ∷ xs ≡ [] → ⊥
      no_items x xs e = cc

  module _ (of_leaf : Item → List Address) (are : AreKeys of_leaf no_keys)
      (native : (item : Item) → is_objective item.body ≡ true → of_leaf item ≡ []) where
    mutual
      unfolding keys

      pub last_in_tree : {item : Item} {entries : List Entry}
          (tree : Bridged (rules_by choice) item entries) → Here item
          → AllBefore (keys of_leaf no_keys tree) (keys objective_keys no_keys tree)
      last_in_tree (natively {item} c) here = by_class (is_objective item.body) refl
        where
          by_class : (b : Bool) → is_objective item.body ≡ b
              → AllBefore (of_leaf item) (objective_keys item)
          by_class true e =
              subst (λ vs. AllBefore vs (objective_keys item)) (sym (native item e))
              (none_before (objective_keys item))
          by_class false e =
              subst (AllBefore (of_leaf item)) (sym (plain_keys item e))
              (All-nil (Before (of_leaf item)))
      last_in_tree (by {item} {edge} {inner} c groups others) here =
          by_class (is_objective item.body) refl
          (last_in_others others
          (others_here setting costly choice chosen lawful item here.can edge c inner groups)
          (no_groups setting costly choice chosen lawful item here.can edge c))
        where
          no_og : keys_of_each objective_keys no_keys groups ≡ []
          no_og = none_of_each groups
              (groups_here setting costly choice chosen lawful item here.can edge c)
              (groups_plain item here.can edge c)

          by_class : (b : Bool) → is_objective item.body ≡ b
              → (LeadInOrder (Others item here.can edge c)
              → AllBefore (keys_in of_leaf no_keys others) (keys_in objective_keys no_keys others))
              → AllBefore (keys_of_each of_leaf no_keys groups ++ keys_in of_leaf no_keys others)
              (keys_of_each objective_keys no_keys groups
              ++ keys_in objective_keys no_keys others)
          by_class true e rest =
              subst
              (λ os. AllBefore
              (keys_of_each of_leaf no_keys groups ++ keys_in of_leaf no_keys others)
              (os ++ keys_in objective_keys no_keys others))
              (sym no_og)
              (both_before (keys_of_each of_leaf no_keys groups) (keys_in of_leaf no_keys others)
              (keys_in objective_keys no_keys others)
              (cross others
              (others_here setting costly choice chosen lawful item here.can edge c inner groups)
              (no_groups setting costly choice chosen lawful item here.can edge c)
              (keys_of_each of_leaf no_keys groups)
              (others_after item here.can edge c (keys_of_each of_leaf no_keys groups)
              (within_each setting costly choice chosen lawful of_leaf no_keys are
              (BelowOthers item here.can edge c) groups
              (groups_here setting costly choice chosen lawful item here.can edge c)
              (groups_first item here.can edge c))))
              (rest (others_lead item here.can edge c e)))
          by_class false e rest =
              subst
              (AllBefore
              (keys_of_each of_leaf no_keys groups ++ keys_in of_leaf no_keys others))
              (sym (ap₂ ◌++◌ no_og (none_of_others others
              (others_here setting costly choice chosen lawful item here.can edge c inner groups)
              (others_plain item here.can edge c e))))
              (All-nil (Before
              (keys_of_each of_leaf no_keys groups ++ keys_in of_leaf no_keys others)))

      pub last_in_others : {inner : List Entry} {items : List Item}
          (trees : EachBridgedIn (rules_by choice) inner items) → All (HereIn inner) items
          → All IsNoGroup items → LeadInOrder items
          → AllBefore (keys_in of_leaf no_keys trees) (keys_in objective_keys no_keys trees)
      last_in_others none_in here alone leads = All-nil (Before [])
      last_in_others {inner} (each_in {item = item} {items = items} first rest) here alone
          (inl e) =
          subst
          (λ vs. AllBefore (keys of_leaf no_keys first ++ vs)
          (keys objective_keys no_keys first ++ keys_in objective_keys no_keys rest))
          (sym (nothing_in of_leaf rest e))
          (subst
          (λ os. AllBefore (keys of_leaf no_keys first ++ [])
          (keys objective_keys no_keys first ++ os))
          (sym (nothing_in objective_keys rest e))
          (subst
          (λ vs. AllBefore vs (keys objective_keys no_keys first ++ []))
          (sym (append-nil (keys of_leaf no_keys first)))
          (subst (AllBefore (keys of_leaf no_keys first))
          (sym (append-nil (keys objective_keys no_keys first)))
          (last_in_tree first (All-head (HereIn inner) item items here)))))
      last_in_others {inner} (each_in {item = item} {items = items} first rest) here alone
          (inr (plain, before, leads)) =
          subst
          (λ os. AllBefore (keys of_leaf no_keys first ++ keys_in of_leaf no_keys rest)
          (os ++ keys_in objective_keys no_keys rest))
          (sym (none_of first (All-head (HereIn inner) item items here)
          (objective_stays inner item.body ∙ plain)))
          (both_before (keys of_leaf no_keys first) (keys_in of_leaf no_keys rest)
          (keys_in objective_keys no_keys rest)
          (cross rest (All-tail (HereIn inner) item items here)
          (All-tail IsNoGroup item items alone) (keys of_leaf no_keys first)
          (All-weaker
          (λ y. is_objective y.body ≡ true → (v o : Address) → AtOrBelow item v → AtOrBelow y o
          → address_cmp v o ≡ Less)
          (λ y. is_objective y.body ≡ true → (o : Address) → AtOrBelow y o
          → Before (keys of_leaf no_keys first) o)
          (λ y h is o b. All-weaker (AtOrBelow item) (λ v. address_cmp v o ≡ Less)
          (λ v a. h is v o a b) (keys of_leaf no_keys first)
          (within setting costly choice chosen lawful of_leaf no_keys are (AtOrBelow item) first
          (All-head (HereIn inner) item items here)
          (λ v m. other_below (put_in inner item)
          (group_stays inner item.body ∙ All-head IsNoGroup item items alone) v m)))
          items before))
          (last_in_others rest (All-tail (HereIn inner) item items here)
          (All-tail IsNoGroup item items alone) leads))
