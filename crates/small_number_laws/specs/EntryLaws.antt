-- The expressions of a bridged group: each weighs at most 2, and 1 where no free variables are
-- split below it; its constant is small, and 0 where the group's set has no single number.
use Rattle.std.specs.Prelude.{◌≡◌, ◌⊎◌, ℕ, ◌+◌, ◌*◌, ◌^◌, ◌≤◌, Bool, true, false, cond, List, [], ◌∷◌, All, map, refl}
use Rattle.std.proofs.Common.{inl, inr, sym, ap, subst, ◌∙◌, arith}
use Rattle.std.specs.List.{zip}
use Rattle.std.proofs.lemmas.List.Elements.{All-append, All-cons, All-head, All-map, All-nil, All-tail, All-weaker}
use Rattle.aff_core.specs.Address.{Address}
use Rattle.aff_core.specs.Function.{variable}
use Rattle.bridge_face.specs.ImageOf.{image_of}
use Rattle.bridge_face.specs.Law.{LeadsToKind}
use Rattle.bridge_graph.specs.Hypergraph.{IsCostly}
use Rattle.bridge_graph.specs.declared.Choice.{Choice}
use Rattle.bridge_graph.specs.declared.Choice.TheVariants.{By}
use Rattle.expansion.specs.Bridged.{Bridged, EachBridged, by, each, natively, none}
use Rattle.expansion.specs.Ranks.{RanksBelow}
use Rattle.fresh_bridging.specs.CanLaws.{AreLawful, Can, down, rank_of, same_entry}
use Rattle.map_laws.specs.EachLaws.{all_both, all_first, all_seconds}
use Rattle.fresh_bridging.specs.Entries.{Entry, put_into}
use Rattle.fresh_bridging.specs.ExistenceLaws.{ranked}
use Rattle.fresh_bridging.specs.OmitLaws.{IsGroup, child_groups, edge_law, others_in}
use Rattle.fresh_bridging.specs.TheRules.{AreChoices, Setting, edge_at, graph_of, outer_entries, rules_by}
use Rattle.item_core.specs.declared.family.Family.{Family}
use Rattle.item_core.specs.declared.family.Family.TheVariants as family
use Rattle.item_core.specs.declared.image.Expression.{Expression}
use Rattle.item_core.specs.declared.image.Expression.TheVariants.{Kept}
use Rattle.item_core.specs.declared.item.Item.{Item}
use Rattle.item_core.specs.declared.kind.Kind.{Kind}
use Rattle.item_core.specs.Edge.{children_of, edge_entry, family_of, source_of}
use Rattle.item_core.specs.Item.{is_group, set_of, variables_of}
use Rattle.item_core.specs.Kind.{kind_number}
use Rattle.item_core.specs.KindOf.{kind_of_body}
use Rattle.small_number_laws.specs.BodyLaws.{IsBodyWithin, IsEntryWithin, into_within}
use Rattle.small_number_laws.specs.FamilyLaws.{IsExpressionWithin, exprs_within, groups_within, has_exprs, lifted, no_exprs, widened}
use Rattle.small_number_laws.specs.LevelLaws.{KeepsLevels, fewer_left, left_of, levels_kept, lifts_at, most_left, one_less_left, one_splits, passed_by, some_left, splits_at}
use Rattle.small_number_laws.specs.ShapeLaws.{group_itself}
use Rattle.small_number_laws.specs.SmallNumbers.{set_numbers}
use Rattle.small_number_laws.specs.Whole.{AreSmall}
use Rattle.small_number_laws.specs.WithinLaws.{variable_within, within_more}

-- how large the constants of a kind's expressions are
abbrev pub reach : Kind → ℕ
reach kind = cond (lifts_at kind) (2 ^ 40) 0

pub reach_small : (kind : Kind) → reach kind ≤ 2 ^ 40
reach_small kind = either_way (lifts_at kind)
  where
    either_way : (b : Bool) → cond b (2 ^ 40) 0 ≤ 2 ^ 40
    either_way true = omega arith
    either_way false = omega arith

own_within : (l c : ℕ) (b : Bool) (vars : List Address) → 1 ≤ l
    → All (IsEntryWithin l c)
    (cond b (map (λ v. record { component = v; expression = Kept v }) vars) [])
own_within l c false vars h = All-nil (IsEntryWithin l c)
own_within l c true vars h = each_own vars
  where
    each_own : (vs : List Address)
        → All (IsEntryWithin l c) (map (λ v. record { component = v; expression = Kept v }) vs)
    each_own [] = All-nil (IsEntryWithin l c)
    each_own (v ∷ vs) =
        All-cons (IsEntryWithin l c) (record { component = v; expression = Kept v })
        (map (λ u. record { component = u; expression = Kept u }) vs)
        (within_more 1 l 0 c (variable v) h (omega arith) (variable_within v)) (each_own vs)

-- components, by those of the child groups
made_within : (l c m d w x : ℕ) (inner : List Entry) (vars : List Address) (exprs : List Expression)
    → 1 ≤ m → w * m ≤ l → x + w * d ≤ c → All (IsEntryWithin m d) inner
    → All (IsExpressionWithin w x) exprs
    → All (IsEntryWithin l c)
    (map (λ p. record { component = p.0; expression = put_into inner p.1 }) (zip vars exprs))
made_within l c m d w x inner vars exprs one wide far all own =
    All-map (IsEntryWithin l c) (λ p. record {
      component = p.0;
      expression = put_into inner p.1;
    }) (zip vars exprs)
    (All-weaker (λ p. IsExpressionWithin w x p.1)
    (λ p. IsExpressionWithin l c (put_into inner p.1))
    (λ p h. within_more (w * m) l (x + w * d) c _ wide far
    (into_within m d inner one all w x p.1 h))
    (zip vars exprs) (all_seconds (IsExpressionWithin w x) vars exprs own))

none_made : (l c : ℕ) (inner : List Entry) (vars : List Address) (exprs : List Expression)
    → exprs ≡ []
    → All (IsEntryWithin l c)
    (map (λ p. record { component = p.0; expression = put_into inner p.1 }) (zip vars exprs))
none_made l c inner vars exprs e =
    subst (λ es. All (IsEntryWithin l c)
    (map (λ p. record { component = p.0; expression = put_into inner p.1 }) (zip vars es)))
    (sym e) (nothing vars)
  where
    nothing : (vs : List Address)
        → All (IsEntryWithin l c)
        (map (λ p. record { component = p.0; expression = put_into inner p.1 })
        (zip vs []))
    nothing [] = All-nil (IsEntryWithin l c)
    nothing (v ∷ vs) = All-nil (IsEntryWithin l c)

free_or_not : (f : Family) → (f ≡ family.FreeVar) ⊎ (widened f ≡ 1)
free_or_not family.FreeVar = inl refl
free_or_not _ = inr refl

lift_or_not : (f : Family) → (f ≡ family.VectorizeVar) ⊎ (lifted f ≡ 0)
lift_or_not family.VectorizeVar = inl refl
lift_or_not _ = inr refl

-- ---- along the bridging of a group

module _ (setting : Setting) (costly : IsCostly (graph_of setting)) (choice : ℕ → Choice)
    (chosen : AreChoices setting choice) (lawful : AreLawful setting) where
  abbrev pub splits_left : Item → ℕ
  splits_left item = left_of setting costly choice chosen splits_at (kind_of_body item.body)

  -- a group whose expressions weigh at most l, with constants of at most c
  pub record IsGroupWithin (l c : ℕ) (group : Item) : Type 0 where
    pub is : IsGroup setting costly choice chosen lawful group
    pub small : AreSmall (set_numbers (set_of group.body))
    pub wide : 1 + splits_left group ≤ l
    pub far : reach (kind_of_body group.body) ≤ c

  -- ---- a chosen edge

  module _ (item : Item) (can : Can setting costly choice chosen item) (n : ℕ)
      (e : choice (kind_number (kind_of_body item.body)) ≡ By n) where
    abbrev family_here : Family
    family_here = family_of (edge_at n)

    abbrev groups_here : List Item
    groups_here = (image_of (edge_at n) item).groups

    -- what the table says of the edge
    pub levels : KeepsLevels (edge_entry (edge_at n))
    levels =
        subst KeepsLevels (sym (same_entry setting costly choice chosen lawful item can n e))
        (levels_kept n (down setting costly choice chosen lawful item can n e).entry
        (down setting costly choice chosen lawful item can n e).is_entry.here)

    pub source : kind_of_body item.body ≡ source_of (edge_at n)
    source =
        (down setting costly choice chosen lawful item can n e).source
        ∙ ap (λ x. x.source) (sym (same_entry setting costly choice chosen lawful item can n e))

    abbrev pub IsLower : Item → Type 0
    IsLower g =
        RanksBelow (Can setting costly choice chosen) (rank_of setting costly choice chosen)
        (rank_of setting costly choice chosen item) g

    pub lower_groups : All IsLower groups_here
    lower_groups = (ranked setting costly choice chosen lawful).groups item n can e

    leading_groups : All (λ g. LeadsToKind (edge_at n) g.body) groups_here
    leading_groups =
        all_first (λ g. LeadsToKind (edge_at n) g.body) groups_here
        (others_in setting costly choice chosen lawful item can n e)
        (edge_law setting costly choice chosen lawful item can n e).kinds

    module _ (is : is_group item.body ≡ true) (small : AreSmall (set_numbers (set_of item.body)))
      where
        small_groups : All (λ g. IsBodyWithin (2 ^ 53) g.body) groups_here
        small_groups =
            groups_within item (2 ^ 53) (group_itself (2 ^ 53) item.body is (omega arith) small)
            (omega arith) family_here (edge_at n)

        -- groups below, with what their kinds allow
        below_within : (m d : ℕ)
            → ((g : Item) → IsLower g → LeadsToKind (edge_at n) g.body → 1 + splits_left g ≤ m)
            → ((g : Item) → LeadsToKind (edge_at n) g.body → reach (kind_of_body g.body) ≤ d)
            → All (IsGroupWithin m d) groups_here
        below_within m d wide far =
            let Leads : Item → Type 0 = λ g. LeadsToKind (edge_at n) g.body in
            let Small : Item → Type 0 = λ g. IsBodyWithin (2 ^ 53) g.body in
            let Group : Item → Type 0 = IsGroup setting costly choice chosen lawful in
            All-weaker (λ g. Group g × (IsLower g × (Leads g × Small g))) (IsGroupWithin m d)
            (λ g h. record {
              is = h.0;
              small = h.1.1.1.set;
              wide = wide g h.1.0 h.1.1.0;
              far = far g h.1.1.0;
            })
            groups_here
            (all_both Group (λ g. IsLower g × (Leads g × Small g)) groups_here
            (child_groups setting costly choice chosen lawful item can n e)
            (all_both IsLower (λ g. Leads g × Small g) groups_here lower_groups
            (all_both Leads Small groups_here leading_groups small_groups)))

    -- ---- a group's components by the edge

    module _ (l c : ℕ) (inner : List Entry) (h : IsGroupWithin l c item)
        (below : (m d : ℕ) → All (IsGroupWithin m d) groups_here → All (IsEntryWithin m d) inner)
      where
        small_exprs : All (IsExpressionWithin (widened family_here) (lifted family_here))
            (image_of (edge_at n) item).exprs
        small_exprs = exprs_within family_here (edge_at n) item h.small

        lifted_here : lifted family_here ≤ c
        lifted_here = elim (lift_or_not family_here) [
          | inl is ↦
              let at : lifts_at (kind_of_body item.body) ≡ true = ap lifts_at source
              ∙ levels.lifts is in
              omega (arith, h.far, ap lifted is, ap (λ b. cond b (2 ^ 40) 0) at)
          | inr unlifted ↦ omega (arith, unlifted)
        ]

        -- the groups below have no constants
        unlifted_below : has_exprs family_here ≡ true → (g : Item) → LeadsToKind (edge_at n) g.body
            → reach (kind_of_body g.body) ≤ 0
        unlifted_below has g leads =
            let low : lifts_at (kind_of_body g.body) ≡ false =
            passed_by lifts_at (children_of (edge_at n)) (kind_of_body g.body)
            (levels.unlifted has) leads in
            omega (arith, ap (λ b. cond b (2 ^ 40) 0) low)

        made_by : (m : ℕ) → has_exprs family_here ≡ true → 1 ≤ m → widened family_here * m ≤ l
            → ((g : Item) → IsLower g → LeadsToKind (edge_at n) g.body → 1 + splits_left g ≤ m)
            → All (IsEntryWithin l c) (outer_entries n item inner)
        made_by m has one wide each_wide =
            made_within l c m 0 (widened family_here) (lifted family_here) inner
            (variables_of item.body) (image_of (edge_at n) item).exprs one wide
            (omega (arith, lifted_here))
            (below m 0 (below_within h.is.is_group h.small m 0 each_wide (unlifted_below has)))
            small_exprs

        pub by_edge : All (IsEntryWithin l c) (outer_entries n item inner)
        by_edge = with_exprs (has_exprs family_here) refl
          where
            with_exprs : (b : Bool) → has_exprs family_here ≡ b
                → All (IsEntryWithin l c) (outer_entries n item inner)
            with_exprs false has =
                none_made l c inner (variables_of item.body) (image_of (edge_at n) item).exprs
                (no_exprs family_here (edge_at n) item has)
            with_exprs true has = elim (free_or_not family_here) [
              | inl is ↦
                  let at : splits_at (kind_of_body item.body) ≡ true = ap splits_at source
                  ∙ levels.splits is in
                  let some = some_left setting costly choice chosen splits_at
                  (kind_of_body item.body) at in
                  made_by 1 has (omega arith) (omega (arith, h.wide, some, ap widened is))
                  (λ g lower leads. omega (
                    arith,
                    one_less_left setting costly choice chosen splits_at (kind_of_body g.body)
                        (kind_of_body item.body) at lower.below,
                    most_left setting costly choice chosen splits_at (kind_of_body item.body),
                    one_splits,
                  ))
              | inr single ↦
                  made_by l has (omega (arith, h.wide))
                  (omega (arith, ap (λ w. w * l) single))
                  (λ g lower leads. omega (
                    arith,
                    fewer_left setting costly choice chosen splits_at (kind_of_body g.body)
                        (kind_of_body item.body) lower.below,
                    h.wide,
                  ))
            ]

  mutual
    pub entries_within : {group : Item} {entries : List Entry}
        → Bridged (rules_by choice) group entries → (l c : ℕ) → IsGroupWithin l c group
        → All (IsEntryWithin l c) entries
    entries_within (natively {item} k) l c h =
        own_within l c (is_group item.body) (variables_of item.body) (omega (arith, h.wide))
    entries_within (by {item} {edge} {inner} k groups others) l c h =
        by_edge item h.is.can edge k l c inner h (λ m d all. each_within groups m d all)

    pub each_within : {groups : List Item} {entries : List Entry}
        → EachBridged (rules_by choice) groups entries → (l c : ℕ)
        → All (IsGroupWithin l c) groups → All (IsEntryWithin l c) entries
    each_within none l c all = All-nil (IsEntryWithin l c)
    each_within (each {item} {items} {entries} {others} first rest) l c all =
        All-append (IsEntryWithin l c) entries others
        (entries_within first l c (All-head (IsGroupWithin l c) item items all))
        (each_within rest l c (All-tail (IsGroupWithin l c) item items all))
