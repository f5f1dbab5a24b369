-- Duals down a bridging: what stands below an item stands for it, where the leaves' duals hold and
-- balance at the leaf variables below.
use Rattle.std.specs.Prelude.{◌≡◌, ℕ, true, List, [], ◌∷◌, ◌++◌, All, Contains, map, refl}
use Rattle.std.proofs.Common.{sym, ap, ap₂, subst, ◌∙◌, true≢false}
use Rattle.std.proofs.lemmas.List.Elements.{All-cons, All-contains_itself, All-head, All-map, All-nil, All-tail, All-weaker, Contains-append_left, Contains-append_right}
use Rattle.bridge_graph.specs.Hypergraph.{IsCostly}
use Rattle.bridge_graph.specs.declared.Choice.{Choice}
use Rattle.expansion.specs.Bridged.{Bridged, EachBridged}
use Rattle.expansion.specs.Read.{leaves, leaves_of_each}
use Rattle.ratio_core.specs.Rational.{Rational, zero_ℚ, ◌+ℚ◌}
use Rattle.rational_laws.specs.Field.{+ℚ-zero, zero-+ℚ}
use Rattle.rational_laws.specs.Order.{≤ℚ_refl}
use Rattle.aff_core.specs.Address.{Address, address_cmp}
use Rattle.aff_core.specs.Arithmetic.{composed}
use Rattle.aff_core.specs.Function.{Function, coefficient, variable}
use Rattle.dual_laws.specs.Held.{DualsHold, DualRow, adjoint, adjoint_of, gap}
use Rattle.item_core.specs.declared.item.Item.{Item}
use Rattle.item_core.specs.Item.{is_group, variables_of}
use Rattle.bridge_face.specs.Law.{Miss, expressed, inner_of}
use Rattle.fresh_bridging.specs.CanLaws.{AreLawful}
use Rattle.fresh_bridging.specs.Entries.{Entry, expression_in, function_in}
use Rattle.fresh_bridging.specs.MentionLaws.{composed-variable}
use Rattle.fresh_bridging.specs.TheRules.{AreChoices, Setting, graph_of, rules_by}
use Rattle.address_laws.specs.Apart.{Avoids, Distinct, in_first, in_second}
use Rattle.address_laws.specs.LeafKeys.{no_keys}
use Rattle.address_laws.specs.Keys.{keys, keys_of_each, own}
use Rattle.tree_laws.specs.Carried.{LeafAnswerDuals, StandFor, group_held, group_helds, leaf_helds, through}
use Rattle.tree_laws.specs.LevelLaws.{adjoint_of_leaves, leaf_missed, stand_leaves}
use Rattle.tree_laws.specs.LookupLaws.{components, found_first, found_omits, found_second}
use Rattle.tree_laws.specs.PutLaws.{group_row_functions}
use Rattle.tree_laws.specs.SeenLaws.{IsGroupHere, components_of, components_of_each, leaves_miss, leaves_of_each_miss, omit_each, omit_tree}
use Rattle.tree_laws.specs.ThroughLaws.{HeldMisses, adjoints_missed}

-- ---- what stands for itself

pub stand_itself : (hs : List DualRow) → DualsHold hs → StandFor hs hs
stand_itself hs h = record { holds = h; same = λ v. refl; gaps = ≤ℚ_refl (gap hs) }

-- ---- groups with expressions put in

-- a group's functions are its variables, so what stands for these is all that matters
pub group_through : (bound : Rational) (w : Address → Rational) (g : Item) (es : List Entry)
    → is_group g.body ≡ true
    → (through es (group_held bound w g)).functions
    ≡ map (function_in es) (variables_of g.body)
group_through bound w g es h =
    ap (map (composed (function_in es))) (group_row_functions g.body h) ∙ each (variables_of g.body)
  where
    each : (vars : List Address)
        → map (composed (function_in es)) (map (variable {R = address_cmp}) vars)
        ≡ map (function_in es) vars
    each [] = refl
    each (v ∷ vs) = ap₂ ◌∷◌ (composed-variable (function_in es) v) (each vs)

abbrev with_functions : DualRow → List Function → DualRow
with_functions h fs = record h { functions = fs }

looked_up_alike : (es fs : List Entry) (vars : List Address)
    → All (λ v. expression_in es v ≡ expression_in fs v) vars
    → map (function_in es) vars ≡ map (function_in fs) vars
looked_up_alike es fs [] h = refl
looked_up_alike es fs (v ∷ vs) h =
    ap₂ ◌∷◌
    (ap expressed (All-head (λ u. expression_in es u ≡ expression_in fs u) v vs h))
    (looked_up_alike es fs vs (All-tail (λ u. expression_in es u ≡ expression_in fs u) v vs h))

through_alike : (bound : Rational) (w : Address → Rational) (g : Item) (es fs : List Entry)
    → is_group g.body ≡ true
    → All (λ v. expression_in es v ≡ expression_in fs v) (variables_of g.body)
    → through es (group_held bound w g) ≡ through fs (group_held bound w g)
through_alike bound w g es fs h alike =
    ap (with_functions (group_held bound w g))
    (group_through bound w g es h ∙ looked_up_alike es fs (variables_of g.body) alike
    ∙ sym (group_through bound w g fs h))

-- what isn't mentioned by the entries, nor is a variable without one, isn't mentioned
group_missed : (bound : Rational) (w : Address → Rational) (g : Item) (es : List Entry)
    (v : Address) → is_group g.body ≡ true
    → ((u : Address) → Contains (variables_of g.body) u → coefficient (function_in es u) v ≡ zero_ℚ)
    → HeldMisses v (through es (group_held bound w g))
group_missed bound w g es v h unseen =
    subst (λ fs. Miss fs v) (sym (group_through bound w g es h))
    (All-map (λ f. coefficient f v ≡ zero_ℚ) (function_in es) (variables_of g.body)
    (All-weaker (Contains (variables_of g.body)) (λ u. coefficient (function_in es u) v ≡ zero_ℚ)
    unseen (variables_of g.body) (All-contains_itself (variables_of g.body))))

-- no entry is of one of the group's variables
abbrev AvoidsVariables : List Entry → Item → Type 0
AvoidsVariables es g = All (Avoids (components es)) (variables_of g.body)

module _ (setting : Setting) (costly : IsCostly (graph_of setting)) (choice : ℕ → Choice)
    (chosen : AreChoices setting choice) (lawful : AreLawful setting) (d : LeafAnswerDuals) where
  abbrev Groups : List Item → Type 0
  Groups items = All (IsGroupHere setting costly choice chosen lawful) items

  -- ---- lists of groups, the first and the rest

  module _ {item : Item} {items : List Item} {entries others : List Entry}
      (first : Bridged (rules_by choice) item entries)
      (rest : EachBridged (rules_by choice) items others)
      (all : Groups (item ∷ items)) (w : Address → Rational) where
    one : IsGroupHere setting costly choice chosen lawful item
    one = All-head (IsGroupHere setting costly choice chosen lawful) item items all

    more : Groups items
    more = All-tail (IsGroupHere setting costly choice chosen lawful) item items all

    first_components : components entries ≡ variables_of item.body
    first_components = components_of setting costly choice chosen lawful first one

    rest_components : components others ≡ inner_of items
    rest_components = components_of_each setting costly choice chosen lawful rest more

    pub first_through : through (entries ++ others) (group_held d.bound w item)
        ≡ through entries (group_held d.bound w item)
    first_through =
        through_alike d.bound w item (entries ++ others) entries one.group
        (All-weaker (Contains (variables_of item.body))
        (λ v. expression_in (entries ++ others) v ≡ expression_in entries v)
        (λ v c. found_first entries others v
        (subst (λ l. Contains l v) (sym first_components) c))
        (variables_of item.body) (All-contains_itself (variables_of item.body)))

    pub rest_through : Distinct (inner_of (item ∷ items))
        → map (through (entries ++ others)) (group_helds d.bound w items)
        ≡ map (through others) (group_helds d.bound w items)
    rest_through distinct = each items more
        (distinct-across_rest items (λ v c. in_second (variables_of item.body) (inner_of items) v
        distinct c))
      where
        distinct-across_rest : (gs : List Item)
            → ((v : Address) → Contains (inner_of gs) v → Avoids (variables_of item.body) v)
            → All (AvoidsVariables entries) gs
        distinct-across_rest [] h = All-nil (AvoidsVariables entries)
        distinct-across_rest (g ∷ gs) h =
            All-cons (AvoidsVariables entries) g gs
            (All-weaker (Contains (variables_of g.body)) (Avoids (components entries))
            (λ v c. subst (λ l. Avoids l v) (sym first_components)
            (h v (Contains-append_left (variables_of g.body) (inner_of gs) v c)))
            (variables_of g.body) (All-contains_itself (variables_of g.body)))
            (distinct-across_rest gs
            (λ v c. h v (Contains-append_right (variables_of g.body) (inner_of gs) v c)))

        each : (gs : List Item) → Groups gs → All (AvoidsVariables entries) gs
            → map (through (entries ++ others)) (group_helds d.bound w gs)
            ≡ map (through others) (group_helds d.bound w gs)
        each [] here h = refl
        each (g ∷ gs) here h =
            ap₂ ◌∷◌
            (through_alike d.bound w g (entries ++ others) others
            (All-head (IsGroupHere setting costly choice chosen lawful) g gs here).group
            (All-weaker (Avoids (components entries))
            (λ v. expression_in (entries ++ others) v ≡ expression_in others v)
            (λ v n. found_second entries others v n) (variables_of g.body)
            (All-head (AvoidsVariables entries) g gs h)))
            (each gs (All-tail (IsGroupHere setting costly choice chosen lawful) g gs here)
            (All-tail (AvoidsVariables entries) g gs h))

    -- no leaf variable of the one is mentioned by what stands for the other
    first_unseen : (v : Address) → Avoids (keys own no_keys first) v
        → adjoint (through entries (group_held d.bound w item) ∷ []) v ≡ zero_ℚ
    first_unseen v h =
        adjoints_missed (through entries (group_held d.bound w item) ∷ []) v
        (All-cons (HeldMisses v) (through entries (group_held d.bound w item)) []
        (group_missed d.bound w item entries v one.group
        (λ u c. missing u (subst (λ l. Contains l u) (sym first_components) c)))
        (All-nil (HeldMisses v)))
      where
        missing : (u : Address) → Contains (components entries) u
            → coefficient (function_in entries u) v ≡ zero_ℚ
        missing u c = found_omits entries u v c
            (omit_tree setting costly choice chosen lawful first one v h)

    rest_unseen : (v : Address) → Avoids (keys_of_each own no_keys rest) v
        → adjoint (map (through others) (group_helds d.bound w items)) v ≡ zero_ℚ
    rest_unseen v h =
        adjoints_missed (map (through others) (group_helds d.bound w items)) v
        (All-map (HeldMisses v) (through others) (group_helds d.bound w items)
        (All-map (λ x. HeldMisses v (through others x)) (group_held d.bound w) items
        (each items more (λ u c. subst (λ l. Contains l u) (sym rest_components) c))))
      where
        each : (gs : List Item) → Groups gs
            → ((u : Address) → Contains (inner_of gs) u → Contains (components others) u)
            → All (λ g. HeldMisses v (through others (group_held d.bound w g))) gs
        each [] here c = All-nil (λ g. HeldMisses v (through others (group_held d.bound w g)))
        each (g ∷ gs) here c =
            All-cons (λ x. HeldMisses v (through others (group_held d.bound w x))) g gs
            (group_missed d.bound w g others v
            (All-head (IsGroupHere setting costly choice chosen lawful) g gs here).group
            (λ u k. found_omits others u v
            (c u (Contains-append_left (variables_of g.body) (inner_of gs) u k))
            (omit_each setting costly choice chosen lawful rest more v h)))
            (each gs (All-tail (IsGroupHere setting costly choice chosen lawful) g gs here)
            (λ u k. c u (Contains-append_right (variables_of g.body) (inner_of gs) u k)))

    module _ (distinct : Distinct (keys own no_keys first ++ keys_of_each own no_keys rest))
        (distinct_inner : Distinct (inner_of (item ∷ items)))
        (balance : (v : Address) → Contains (keys own no_keys first ++ keys_of_each own no_keys
        rest) v
        → adjoint (map (through (entries ++ others)) (group_helds d.bound w (item ∷ items))) v
        ≡ adjoint (leaf_helds d (leaves first ++ leaves_of_each rest)) v) where
      abbrev above : Address → Rational
      above v = adjoint (through entries (group_held d.bound w item) ∷ []) v

      abbrev beside : Address → Rational
      beside v = adjoint (map (through others) (group_helds d.bound w items)) v

      parted : (v : Address) → Contains (keys own no_keys first ++ keys_of_each own no_keys rest) v
          → above v +ℚ beside v
          ≡ adjoint (leaf_helds d (leaves first)) v +ℚ adjoint (leaf_helds d (leaves_of_each rest))
          v
      parted v c =
          ap (λ q. q +ℚ beside v) (+ℚ-zero (adjoint_of (through entries (group_held d.bound w item))
          v))
          ∙ sym (ap₂ (λ h hs. adjoint (h ∷ hs) v) first_through (rest_through distinct_inner))
          ∙ balance v c
          ∙ adjoint_of_leaves d (leaves first) (leaves_of_each rest) v

      pub first_balance : (v : Address) → Contains (keys own no_keys first) v
          → above v ≡ adjoint (leaf_helds d (leaves first)) v
      first_balance v c =
          let away = in_first (keys own no_keys first) (keys_of_each own no_keys rest) v distinct c
          in
          sym (+ℚ-zero (above v)) ∙ ap (λ q. above v +ℚ q) (sym (rest_unseen v away))
          ∙ parted v (Contains-append_left (keys own no_keys first) (keys_of_each own no_keys rest)
          v c)
          ∙ ap (λ q. adjoint (leaf_helds d (leaves first)) v +ℚ q)
          (leaf_missed d v (leaves_of_each rest)
          (leaves_of_each_miss setting costly choice chosen lawful rest more v away))
          ∙ +ℚ-zero (adjoint (leaf_helds d (leaves first)) v)

      pub rest_balance : (v : Address) → Contains (keys_of_each own no_keys rest) v
          → beside v ≡ adjoint (leaf_helds d (leaves_of_each rest)) v
      rest_balance v c =
          let away = in_second (keys own no_keys first) (keys_of_each own no_keys rest) v distinct c
          in
          sym (zero-+ℚ (beside v)) ∙ ap (λ q. q +ℚ beside v) (sym (first_unseen v away))
          ∙ parted v (Contains-append_right (keys own no_keys first) (keys_of_each own no_keys rest)
          v c)
          ∙ ap (λ q. q +ℚ adjoint (leaf_helds d (leaves_of_each rest)) v)
          (leaf_missed d v (leaves first)
          (leaves_miss setting costly choice chosen lawful first one.here v
          (λ row. absurd (true≢false (sym one.group ∙ row))) away))
          ∙ zero-+ℚ (adjoint (leaf_helds d (leaves_of_each rest)) v)

      pub each_joined : StandFor (through entries (group_held d.bound w item) ∷ [])
          (leaf_helds d (leaves first))
          → StandFor (map (through others) (group_helds d.bound w items))
          (leaf_helds d (leaves_of_each rest))
          → StandFor (map (through (entries ++ others)) (group_helds d.bound w (item ∷ items)))
          (leaf_helds d (leaves first ++ leaves_of_each rest))
      each_joined s t =
          subst (λ hs. StandFor hs (leaf_helds d (leaves first ++ leaves_of_each rest)))
          (sym (ap₂ ◌∷◌ first_through (rest_through distinct_inner)))
          (stand_leaves d (through entries (group_held d.bound w item) ∷ [])
          (map (through others) (group_helds d.bound w items)) (leaves first) (leaves_of_each rest)
          s t)
