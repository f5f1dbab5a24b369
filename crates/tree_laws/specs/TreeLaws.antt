-- Duals down a whole bridging, of groups and of rows: what stands below an item stands for it,
-- where the leaves' duals hold and balance at the leaf variables below.
use Rattle.std.specs.Prelude.{◌≡◌, ◌⊎◌, ℕ, true, false, cond, List, [], ◌∷◌, ◌++◌, All, Contains, drop, length, map, take, refl}
use Rattle.std.proofs.Common.{inl, inr, sym, ap, ap₂, subst, ◌∙◌, true≢false}
use Rattle.std.proofs.lemmas.List.{append-nil, length-map}
use Rattle.std.proofs.lemmas.List.Elements.{All-append, All-cons, All-contains, All-contains_itself, All-head, All-nil, All-tail, All-weaker, Contains-append_left, Contains-append_right}
use Rattle.bridge_graph.specs.Hypergraph.{IsCostly}
use Rattle.bridge_graph.specs.declared.Choice.{Choice}
use Rattle.bridge_graph.specs.declared.Choice.TheVariants.{By}
use Rattle.expansion.specs.Bridged.{Bridged, EachBridged, EachBridgedIn}
use Rattle.expansion.specs.Read.{leaves, leaves_in}
use Rattle.ratio_core.specs.Rational.{Rational, one_ℚ, zero_ℚ, ◌*ℚ◌, ◌+ℚ◌}
use Rattle.rational_laws.specs.Field.{+ℚ-zero, one-*ℚ, zero-+ℚ}
use Rattle.aff_core.specs.Address.{Address, address_cmp}
use Rattle.aff_core.specs.Arithmetic.{composed}
use Rattle.aff_core.specs.Function.{Function, coefficient, variable}
use Rattle.dual_laws.specs.Held.{DualsHold, DualRow, adjoint}
use Rattle.linear_laws.specs.SupportLaws.{count}
use Rattle.item_core.specs.declared.image.Expression.{Expression}
use Rattle.item_core.specs.declared.image.Expression.TheVariants.{Kept, Bridged as Made}
use Rattle.item_core.specs.declared.item.Body.{Body}
use Rattle.item_core.specs.declared.item.Body.TheVariants.{PlainObj, AffineObj}
use Rattle.item_core.specs.declared.item.Item.{Item}
use Rattle.item_core.specs.Item.{is_group, variables_of}
use Rattle.item_core.specs.Kind.{kind_number}
use Rattle.item_core.specs.KindOf.{kind_of_body}
use Rattle.bridge_face.specs.BackOf.{back_of, first_of}
use Rattle.bridge_face.specs.ImageOf.{image_of}
use Rattle.bridge_face.specs.Law.{Carries, ChildDuals, Miss, expressed, held_body, held_item, inner_of, is_objective, row_functions, row_set}
use Rattle.fresh_bridging.specs.CanLaws.{AreLawful}
use Rattle.fresh_bridging.specs.Entries.{Entry, expression_in, function_in, put_in, put_into}
use Rattle.fresh_bridging.specs.MentionLaws.{composed-variable}
use Rattle.fresh_bridging.specs.OmitLaws.{IsBelowAt}
use Rattle.fresh_bridging.specs.TheRules.{AreChoices, Setting, edge_at, graph_of, outer_entries, own_entries, rules_by}
use Rattle.address_laws.specs.Apart.{Avoids, Distinct, counted_once, in_first, in_or_not, in_second}
use Rattle.address_laws.specs.LeafKeys.{no_keys}
use Rattle.address_laws.specs.ImageLaws.{Misses}
use Rattle.address_laws.specs.KeyLaws.{groups_under}
use Rattle.address_laws.specs.Keys.{Mine, keys, keys_in, own}
use Rattle.tree_laws.specs.Carried.{LeafAnswerDuals, StandFor, group_held, leaf_held, leaf_helds, row_dual, through}
use Rattle.tree_laws.specs.DownLaws.{group_through, stand_itself}
use Rattle.tree_laws.specs.LevelLaws.{adjoint_of_leaves, groups_weigh, leaf_missed}
use Rattle.tree_laws.specs.LookupLaws.{components, given_lookup, itself, own_lookup}
use Rattle.tree_laws.specs.PutLaws.{group_functions, group_row_functions, row_misses}
use Rattle.tree_laws.specs.SeenLaws.{IsGroupHere, IsRowHere, child_groups_here, components_of_each, exprs_count, groups_at, leaves_in_miss, leaves_miss, own_is, row_misses_below}
use Rattle.tree_laws.specs.ThroughLaws.{HeldMisses, adjoints_missed, untouched}

-- ---- a native group, and one that an edge rewrites

abbrev with_functions : DualRow → List Function → DualRow
with_functions h fs = record h { functions = fs }

own_functions : (vars : List Address) (vs : List Address)
    → map (function_in (map (λ u. record { component = u; expression = Kept u }) vars)) vs
    ≡ map (variable {R = address_cmp}) vs
own_functions vars [] = refl
own_functions vars (v ∷ vs) =
    ap₂ ◌∷◌ (ap expressed (own_lookup vars v)) (own_functions vars vs)

-- a native group's variables stand for themselves
pub native_through : (bound : Rational) (w : Address → Rational) (g : Item) → is_group g.body ≡ true
    → through (own_entries g) (group_held bound w g) ≡ group_held bound w g
native_through bound w g h =
    ap (λ b. through (cond b
    (map (λ u. record { component = u; expression = Kept u }) (variables_of g.body)) [])
    (group_held bound w g)) h
    ∙ ap (with_functions (group_held bound w g))
    (group_through bound w g
    (map (λ u. record { component = u; expression = Kept u }) (variables_of g.body)) h
    ∙ own_functions (variables_of g.body) (variables_of g.body)
    ∙ sym (group_row_functions g.body h))

leaf_group : (d : LeafAnswerDuals) (g : Item) → is_group g.body ≡ true
    → leaf_held d g ≡ group_held d.bound d.numbers g
leaf_group d g h =
    ap (λ b. held_body d.bound g.body
    (cond b (map d.numbers (variables_of g.body)) (row_dual d g))) h

leaf_row : (d : LeafAnswerDuals) (c : Item) → is_group c.body ≡ false
    → leaf_held d c ≡ held_body d.bound c.body (row_dual d c)
leaf_row d c h =
    ap (λ b. held_body d.bound c.body
    (cond b (map d.numbers (variables_of c.body)) (row_dual d c))) h

pub same_numbers : (w z : Address → Rational) (vars : List Address) → All (λ v. w v ≡ z v) vars
    → map w vars ≡ map z vars
same_numbers w z [] h = refl
same_numbers w z (v ∷ vs) h =
    ap₂ ◌∷◌ (All-head (λ u. w u ≡ z u) v vs h)
    (same_numbers w z vs (All-tail (λ u. w u ≡ z u) v vs h))

-- each expression with the groups' expressions put in
put_functions : (inner : List Entry) (exprs : List Expression)
    → map expressed (map (put_into inner) exprs)
    ≡ map (composed (function_in inner)) (map expressed exprs)
put_functions inner [] = refl
put_functions inner (e ∷ es) = ap₂ ◌∷◌ (one e) (put_functions inner es)
  where
    one : (x : Expression)
        → expressed (put_into inner x) ≡ composed (function_in inner) (expressed x)
    one (Kept var) = sym (composed-variable (function_in inner) var)
    one (Made func) = refl

looked_up : (entries : List Entry) (vars : List Address)
    → map (function_in entries) vars ≡ map expressed (map (expression_in entries) vars)
looked_up entries [] = refl
looked_up entries (v ∷ vs) = ap (λ fs. function_in entries v ∷ fs) (looked_up entries vs)

pub no_objective : (b : Body) → is_group b ≡ true → is_objective b ≡ false
no_objective (PlainObj sense var) h = absurd (true≢false (sym h))
no_objective (AffineObj sense func) h = absurd (true≢false (sym h))
no_objective _ h = refl

module _ (setting : Setting) (costly : IsCostly (graph_of setting)) (choice : ℕ → Choice)
    (chosen : AreChoices setting choice) (lawful : AreLawful setting) (d : LeafAnswerDuals) where
  abbrev GroupThere : Item → Type 0
  GroupThere g = IsGroupHere setting costly choice chosen lawful g

  abbrev RowThere : Item → Type 0
  RowThere c = IsRowHere setting costly choice chosen lawful c

  -- ---- natively

  pub native_group : (g : Item) → GroupThere g → DualsHold (leaf_helds d (g ∷ []))
      → (w : Address → Rational)
      → ((v : Address) → Contains (own g) v
      → adjoint (through (own_entries g) (group_held d.bound w g) ∷ []) v
      ≡ adjoint (leaf_helds d (g ∷ [])) v)
      → StandFor (through (own_entries g) (group_held d.bound w g) ∷ []) (leaf_helds d (g ∷ []))
  native_group g is duals w balance =
      subst (λ h. StandFor (h ∷ []) (leaf_helds d (g ∷ [])))
      (leaf_group d g is.group
      ∙ ap (held_body d.bound g.body) (sym (same_numbers w d.numbers (variables_of g.body) same))
      ∙ sym (native_through d.bound w g is.group))
      (stand_itself (leaf_helds d (g ∷ [])) duals)
    where
      alone : All (λ x. is_group x.body ≡ true) (g ∷ [])
      alone = All-cons (λ x. is_group x.body ≡ true) g [] is.group
          (All-nil (λ x. is_group x.body ≡ true))

      once : (v : Address) → Contains (variables_of g.body) v → count (inner_of (g ∷ [])) v ≡ one_ℚ
      once v c =
          ap (λ l. count l v) (append-nil (variables_of g.body))
          ∙ counted_once (variables_of g.body) v (subst Distinct (own_is g is.group) is.here.once) c

      weigh : (z : Address → Rational) (v : Address) → Contains (variables_of g.body) v
          → adjoint (group_held d.bound z g ∷ []) v ≡ z v
      weigh z v c =
          groups_weigh d.bound z (g ∷ []) v alone ∙ ap (λ q. q *ℚ z v) (once v c) ∙ one-*ℚ (z v)

      same : All (λ v. w v ≡ d.numbers v) (variables_of g.body)
      same =
          All-weaker (Contains (variables_of g.body)) (λ v. w v ≡ d.numbers v)
          (λ v c. sym (weigh w v c)
          ∙ ap (λ h. adjoint (h ∷ []) v) (sym (native_through d.bound w g is.group))
          ∙ balance v (subst (λ l. Contains l v) (sym (own_is g is.group)) c)
          ∙ ap (λ h. adjoint (h ∷ []) v) (leaf_group d g is.group)
          ∙ weigh d.numbers v c)
          (variables_of g.body) (All-contains_itself (variables_of g.body))

  pub native_row : (c : Item) → RowThere c → DualsHold (leaf_helds d (c ∷ []))
      → StandFor (held_body d.bound c.body (row_dual d c) ∷ []) (leaf_helds d (c ∷ []))
  native_row c is duals =
      subst (λ h. StandFor (h ∷ []) (leaf_helds d (c ∷ []))) (leaf_row d c is.row)
      (stand_itself (leaf_helds d (c ∷ [])) duals)

  -- ---- a group's own expressions are those of its edge

  module _ (item : Item) (is : GroupThere item) (n : ℕ)
      (e : choice (kind_number (kind_of_body item.body)) ≡ By n) (inner : List Entry)
      (w : Address → Rational) where
    abbrev group_target : DualRow
    group_target =
        held_item d.bound item (image_of (edge_at n) item) (map w (variables_of item.body))

    pub outer_through : through (outer_entries n item inner) (group_held d.bound w item)
        ≡ through inner group_target
    outer_through =
        ap (with_functions (group_held d.bound w item))
        (group_through d.bound w item (outer_entries n item inner) is.group
        ∙ looked_up (outer_entries n item inner) (variables_of item.body)
        ∙ ap (map expressed)
        (given_lookup inner (variables_of item.body) (image_of (edge_at n) item).exprs
        (subst Distinct (own_is item is.group) is.here.once)
        (exprs_count setting costly choice chosen lawful item is.here n e is.group))
        ∙ put_functions inner (image_of (edge_at n) item).exprs
        ∙ ap (λ b. map (composed (function_in inner))
        (cond b (map expressed (image_of (edge_at n) item).exprs) (row_functions item.body)))
        (sym is.group))

    pub group_carries : (duals : ChildDuals)
        → Carries (edge_at n) item duals (map w (variables_of item.body))
    group_carries duals = record {
      by_rule = λ row other. absurd (true≢false (sym is.group ∙ row));
      by_objective = λ o. absurd (true≢false (sym o ∙ no_objective item.body is.group));
      by_component = λ g.
          length-map (variables_of item.body) w
          ∙ sym (ap length (group_functions item.body g)
          ∙ length-map (variables_of item.body) (variable {R = address_cmp}));
    }

  -- ---- a row mentions nothing of what stands below it

  module _ (item : Item) (is : RowThere item) (n : ℕ)
      (e : choice (kind_number (kind_of_body item.body)) ≡ By n) where
    abbrev Below : Address → Type 0
    Below v = (j : ℕ) × IsBelowAt item.at j v

    below_of_groups : (groups : List Item) → All GroupThere groups
        → All (λ g. (v : Address) → Mine g v → Below v) groups → All Below (inner_of groups)
    below_of_groups [] here h = All-nil Below
    below_of_groups (g ∷ groups) here h =
        All-append Below (variables_of g.body) (inner_of groups)
        (All-weaker (Contains (variables_of g.body)) Below
        (λ v c. All-head (λ x. (u : Address) → Mine x u → Below u) g groups h v
        (inr (subst (λ l. Contains l v) (sym (own_is g (All-head GroupThere g groups here).group))
        c)))
        (variables_of g.body) (All-contains_itself (variables_of g.body)))
        (below_of_groups groups (All-tail GroupThere g groups here)
        (All-tail (λ x. (u : Address) → Mine x u → Below u) g groups h))

    abbrev child_groups : List Item
    child_groups = groups_at setting costly choice chosen lawful item is.here n e

    components_below : All Below (inner_of child_groups)
    components_below =
        below_of_groups child_groups
        (child_groups_here setting costly choice chosen lawful item is.here n e)
        (groups_under setting costly choice chosen lawful item is.here.can n e)

    pub misses : (v : Address) → Below v → Miss (row_functions item.body) v
    misses v b =
        row_misses item.body v
        (row_misses_below setting costly choice chosen lawful item is b.0 v b.1)

    module _ (inner : List Entry) (gs : EachBridged (rules_by choice) child_groups inner)
        (w : List Rational) where
      abbrev row_target : DualRow
      row_target = held_item d.bound item (image_of (edge_at n) item) w

      same_components : components inner ≡ inner_of child_groups
      same_components =
          components_of_each setting costly choice chosen lawful gs
          (child_groups_here setting costly choice chosen lawful item is.here n e)

      pub all_untouched : (fs : List Function)
          → ((v : Address) → Below v → Miss fs v) → map (composed (function_in inner)) fs ≡ fs
      all_untouched [] h = refl
      all_untouched (f ∷ fs) h =
          ap₂ ◌∷◌ (untouched inner f alone)
          (all_untouched fs (λ v b. All-tail (λ g. coefficient g v ≡ zero_ℚ) f fs (h v b)))
        where
          alone : (u : Address) → ¬ (coefficient f u ≡ zero_ℚ)
              → function_in inner u ≡ variable u
          alone u some = by (in_or_not (components inner) u)
            where
              by : Contains (components inner) u ⊎ Avoids (components inner) u
                  → function_in inner u ≡ variable u
              by (inl c) =
                  absurd (some (All-head (λ g. coefficient g u ≡ zero_ℚ) f fs
                  (h u (All-contains Below (inner_of child_groups) u components_below
                  (subst (λ l. Contains l u) same_components c)))))
              by (inr out) = ap expressed (itself inner u out)

      pub row_through : through inner row_target ≡ held_body d.bound item.body w
      row_through =
          ap (λ b. through inner (record {
            duals = w;
            functions = cond b (map expressed (image_of (edge_at n) item).exprs)
                (row_functions item.body);
            set = row_set d.bound item.body;
          })) is.row
          ∙ ap (with_functions (held_body d.bound item.body w))
          (all_untouched (row_functions item.body) misses)

      pub row_quiet : (v : Address) → Below v
          → adjoint (through inner row_target ∷ []) v ≡ zero_ℚ
      row_quiet v b =
          ap (λ h. adjoint (h ∷ []) v) row_through
          ∙ adjoints_missed (held_body d.bound item.body w ∷ []) v
          (All-cons (HeldMisses v) (held_body d.bound item.body w) [] (misses v b)
          (All-nil (HeldMisses v)))

    -- what is carried to a row or an objective
    abbrev pub carried : List (List Rational) → List Rational
    carried ys =
        cond (is_objective item.body) d.objective
        (back_of (edge_at n) item (take (length (image_of (edge_at n) item).rows) ys))

    pub row_carries : (ys : List (List Rational))
        → (is_objective item.body ≡ true
        → first_of (drop (length (image_of (edge_at n) item).rows) ys) ≡ d.objective)
        → (duals : ChildDuals)
        → duals.rows ≡ take (length (image_of (edge_at n) item).rows) ys
        → duals.objective ≡ drop (length (image_of (edge_at n) item).rows) ys
        → Carries (edge_at n) item duals (carried ys)
    row_carries ys last duals rows objective = record {
      by_rule = λ row o.
          ap (λ b. cond b d.objective
          (back_of (edge_at n) item (take (length (image_of (edge_at n) item).rows) ys))) o
          ∙ ap (back_of (edge_at n) item) (sym rows);
      by_objective = λ o.
          ap (λ b. cond b d.objective
          (back_of (edge_at n) item (take (length (image_of (edge_at n) item).rows) ys))) o
          ∙ sym (ap first_of objective ∙ last o);
      by_component = λ g. absurd (true≢false (sym g ∙ is.row));
    }

  -- ---- lists of rows, the first and the rest

  module _ {inner : List Entry} {item : Item} {items : List Item} {entries : List Entry}
      (first : Bridged (rules_by choice) (put_in inner item) entries)
      (rest : EachBridgedIn (rules_by choice) inner items)
      (here : All (λ c. RowThere (put_in inner c)) (item ∷ items))
      (distinct : Distinct (keys own no_keys first ++ keys_in own no_keys rest))
      (missed : (v : Address) → Contains (keys own no_keys first ++ keys_in own no_keys rest) v
      → All (λ c. Misses v (put_in inner c)) (item ∷ items))
      (zero : (v : Address) → Contains (keys own no_keys first ++ keys_in own no_keys rest) v
      → adjoint (leaf_helds d (leaves first ++ leaves_in rest)) v ≡ zero_ℚ) where
    pub first_zero : (v : Address) → Contains (keys own no_keys first) v
        → adjoint (leaf_helds d (leaves first)) v ≡ zero_ℚ
    first_zero v c =
        let inside = Contains-append_left (keys own no_keys first) (keys_in own no_keys rest) v c in
        sym (+ℚ-zero (adjoint (leaf_helds d (leaves first)) v))
        ∙ ap (λ q. adjoint (leaf_helds d (leaves first)) v +ℚ q)
        (sym (leaf_missed d v (leaves_in rest)
        (leaves_in_miss setting costly choice chosen lawful rest
        (All-tail (λ x. RowThere (put_in inner x)) item items here) v
        (All-tail (λ x. Misses v (put_in inner x)) item items (missed v inside))
        (in_first (keys own no_keys first) (keys_in own no_keys rest) v distinct c))))
        ∙ sym (adjoint_of_leaves d (leaves first) (leaves_in rest) v)
        ∙ zero v inside

    pub rest_zero : (v : Address) → Contains (keys_in own no_keys rest) v
        → adjoint (leaf_helds d (leaves_in rest)) v ≡ zero_ℚ
    rest_zero v c =
        let inside = Contains-append_right (keys own no_keys first) (keys_in own no_keys rest) v c
        in
        sym (zero-+ℚ (adjoint (leaf_helds d (leaves_in rest)) v))
        ∙ ap (λ q. q +ℚ adjoint (leaf_helds d (leaves_in rest)) v)
        (sym (leaf_missed d v (leaves first)
        (leaves_miss setting costly choice chosen lawful first
        (All-head (λ x. RowThere (put_in inner x)) item items here).here v
        (λ row. All-head (λ x. Misses v (put_in inner x)) item items (missed v inside))
        (in_second (keys own no_keys first) (keys_in own no_keys rest) v distinct c))))
        ∙ sym (adjoint_of_leaves d (leaves first) (leaves_in rest) v)
        ∙ zero v inside

    pub rest_missed : (v : Address) → Contains (keys_in own no_keys rest) v
        → All (λ c. Misses v (put_in inner c)) items
    rest_missed v c =
        All-tail (λ x. Misses v (put_in inner x)) item items
        (missed v (Contains-append_right (keys own no_keys first) (keys_in own no_keys rest) v c))
