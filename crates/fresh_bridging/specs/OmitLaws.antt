-- The expressions of a bridged group mention its own variables and addresses below it alone.
use Rattle.std.specs.Prelude.{◌≡◌, ◌⊎◌, ◌+◌, ℕ, zero, suc, Bool, true, false, cond, List, [], ◌∷◌, ◌++◌, All, Contains, length, map, refl}
use Rattle.std.proofs.Common.{arith, inl, inr, sym, ap, subst, ◌∙◌}
use Rattle.std.specs.List.{list_all, range_with_len, zip}
use Rattle.std.proofs.lemmas.List.Sums.{AllPass-from_list_all}
use Rattle.std.proofs.lemmas.List.Elements.{All-append, All-cons, All-head, All-map, All-nil, All-tail, All-weaker, Contains-append_cases}
use Rattle.bridge_graph.specs.Hypergraph.{IsCostly}
use Rattle.bridge_graph.specs.declared.Choice.{Choice}
use Rattle.bridge_graph.specs.declared.Choice.TheVariants.{By}
use Rattle.expansion.specs.Bridged.{Bridged, EachBridged, by, each, natively, none}
use Rattle.expansion.specs.Ranks.{RanksBelow}
use Rattle.aff_core.specs.Address.{Address, child_of}
use Rattle.ratio_core.specs.Rational.{zero_ℚ}
use Rattle.aff_core.specs.Function.{coefficient}
use Rattle.aff_core.specs.FunctionLaws.{coefficient-variable_other}
use Rattle.aff_core.specs.KeyOrder.{address_order}
use Rattle.item_core.specs.declared.edge.Edge.{Edge}
use Rattle.item_core.specs.declared.family.Family.{Family}
use Rattle.item_core.specs.declared.family.Family.TheVariants as family
use Rattle.item_core.specs.declared.image.Expression.{Expression}
use Rattle.item_core.specs.declared.image.Expression.TheVariants.{Kept}
use Rattle.item_core.specs.declared.item.Item.{Item}
use Rattle.item_core.specs.Edge.{children_of, family_of}
use Rattle.item_core.specs.Item.{is_group, variables_of}
use Rattle.item_core.specs.Kind.{kind_number}
use Rattle.item_core.specs.KindOf.{kind_of_body}
use Rattle.item_core.specs.Valid.{below}
use Rattle.bridge_face.specs.BackOf.{size}
use Rattle.bridge_face.specs.ImageOf.{begins_free, free_at, group_at, image_by, image_of}
use Rattle.set_core.specs.declared.set.Set.TheVariants.{Reals}
use Rattle.bridge_face.specs.Law.{EdgeLaw, HasComponents, expressed, inner_of, listed}
use Rattle.bridge_face.specs.ComponentLaws.{below_child, same_place}
use Rattle.fresh_bridging.specs.CanLaws.{AreLawful, Can, IsChild, are_children, child_can, law, rank_of}
use Rattle.map_laws.specs.EachLaws.{StandsFrom, all_both, all_first, all_from_map, all_seconds, stand_first}
use Rattle.fresh_bridging.specs.Entries.{Entry, put_into}
use Rattle.fresh_bridging.specs.MentionLaws.{AllOmit, Omits, put_into_omits}
use Rattle.fresh_bridging.specs.TheRules.{AreChoices, Setting, edge_at, graph_of, outer_entries, own_entries, rules_by}

-- ---- addresses

pub record IsBelow (at v : Address) : Type 0 where
  pub rest : List ℕ
  pub is : v ≡ below at rest

-- at or below the child at the position
pub record IsBelowAt (at : Address) (position : ℕ) (v : Address) : Type 0 where
  pub rest : List ℕ
  pub is : v ≡ below at (position ∷ rest)

-- nothing stands at or below two children
pub apart : (at : Address) (i j : ℕ) (v : Address) → IsBelowAt at i v → IsBelowAt at j v → i ≡ j
apart at i j v a b =
    same_place at.positions i j a.rest b.rest (ap (λ (x : Address). x.positions)
    (sym a.is ∙ b.is))

-- a variable of the group, or an address at or below the group's
abbrev pub Owns : Item → Address → Type 0
Owns group v = IsBelow group.at v ⊎ Contains (variables_of group.body) v

appended : (xs ys zs : List ℕ) → (xs ++ ys) ++ zs ≡ xs ++ (ys ++ zs)
appended [] ys zs = refl
appended (x ∷ xs) ys zs = ap (λ l. x ∷ l) (appended xs ys zs)

-- ---- groups in images

abbrev groups_alone : List Item → Bool
groups_alone items = list_all (λ g. is_group g.body) items

one_or_other : (b : Bool) (first second : Item) → groups_alone (first ∷ []) ≡ true
    → groups_alone (second ∷ []) ≡ true → groups_alone (cond b first second ∷ []) ≡ true
one_or_other true first second h k = h
one_or_other false first second h k = k

groups_by : (f : Family) (edge : Edge) (item : Item)
    → groups_alone (image_by f edge item).groups ≡ true
unfolding image_by
groups_by family.Later edge item =
    one_or_other (begins_free (children_of edge)) (free_at item (size item))
    (group_at item (Reals (size item)) (size item)) refl refl
groups_by _ edge item = refl

pub groups_are : (edge : Edge) (item : Item)
    → All (λ g. is_group g.body ≡ true) (image_of edge item).groups
groups_are edge item =
    AllPass-from_list_all (λ g. is_group g.body) (image_of edge item).groups
    (groups_by (family_of edge) edge item)

-- ---- what isn't mentioned

-- no variable of these groups
pub outside_inner : (groups : List Item) (v : Address) → All (λ g. ¬ (Owns g v)) groups
    → ¬ (Contains (inner_of groups) v)
outside_inner [] v h (place, inside, is) = absurd (omega (arith, inside))
outside_inner (g ∷ gs) v h c =
    elim (Contains-append_cases (variables_of g.body) (inner_of gs) v c) [
      | inl mine ↦ All-head (λ x. ¬ (Owns x v)) g gs h (inr mine)
      | inr rest ↦ outside_inner gs v (All-tail (λ x. ¬ (Owns x v)) g gs h) rest
    ]

-- the group's own variables, where the address isn't one of them
pub own_omit : (vars : List Address) (v : Address) → ¬ (Contains vars v)
    → AllOmit v (map (λ u. record { component = u; expression = Kept u }) vars)
own_omit [] v h = All-nil (λ e. Omits v e.expression)
own_omit (u ∷ us) v h =
    All-cons (λ e. Omits v e.expression) (record { component = u; expression = Kept u })
    (map (λ w. record { component = w; expression = Kept w }) us)
    (coefficient-variable_other address_order u v (λ same. h (0, omega arith, sym same)))
    (own_omit us v (λ c. h (suc c.0, omega (arith, c.1), c.2)))

made_omit : (entries : List Entry) (vars : List Address) (exprs : List Expression) (v : Address)
    → AllOmit v entries → All (Omits v) exprs
    → AllOmit v (map (λ p. record { component = p.0; expression = put_into entries p.1 })
    (zip vars exprs))
made_omit entries vars exprs v inner own =
    All-map (λ e. Omits v e.expression) (λ p. record {
      component = p.0;
      expression = put_into entries p.1;
    }) (zip vars exprs)
    (All-weaker (λ p. Omits v p.1) (λ p. Omits v (put_into entries p.1))
    (λ p h. put_into_omits entries p.1 v inner h) (zip vars exprs)
    (all_seconds (Omits v) vars exprs own))

-- ---- along the bridging of a group

module _ (setting : Setting) (costly : IsCostly (graph_of setting)) (choice : ℕ → Choice)
    (chosen : AreChoices setting choice) (lawful : AreLawful setting) where
  -- a group that can be bridged
  pub record IsGroup (group : Item) : Type 0 where
    pub can : Can setting costly choice chosen group
    pub is_group : is_group group.body ≡ true

  module _ (group : Item) (can : Can setting costly choice chosen group) (n : ℕ)
      (e : choice (kind_number (kind_of_body group.body)) ≡ By n) where
    pub edge_law : EdgeLaw (edge_at n) group (image_of (edge_at n) group)
    edge_law = law setting costly choice chosen lawful group can n e

    abbrev pub groups_in : List Item
    groups_in = (image_of (edge_at n) group).groups

    abbrev pub others_in : List Item
    others_in = (image_of (edge_at n) group).rows ++ listed (image_of (edge_at n) group).objective

    -- the child groups can be bridged
    pub child_groups : All IsGroup groups_in
    child_groups =
        All-weaker (λ g. RanksBelow (Can setting costly choice chosen)
        (rank_of setting costly choice chosen) (rank_of setting costly choice chosen group) g
        × (is_group g.body ≡ true)) IsGroup
        (λ g h. record { can = h.0.can; is_group = h.1 }) groups_in
        (all_both (RanksBelow (Can setting costly choice chosen)
        (rank_of setting costly choice chosen) (rank_of setting costly choice chosen group))
        (λ g. is_group g.body ≡ true) groups_in
        (All-weaker (IsChild setting costly choice chosen lawful group can n e)
        (RanksBelow (Can setting costly choice chosen) (rank_of setting costly choice chosen)
        (rank_of setting costly choice chosen group))
        (λ g child. child_can setting costly choice chosen lawful group can n e g child g refl refl
        refl (λ v. v)) groups_in
        (all_first (IsChild setting costly choice chosen lawful group can n e) groups_in others_in
        (are_children setting costly choice chosen lawful group can n e)))
        (groups_are (edge_at n) group))

    abbrev pub StandsAsGroup : Item → Type 0
    StandsAsGroup g = StandsFrom (λ c. c.at) (child_of group.at) 0 (0 + length groups_in) g

    -- what a child group owns is below the group, at the child's position
    pub owned : (g : Item) (stands : StandsAsGroup g) → HasComponents g → (v : Address) → Owns g v
        → IsBelowAt group.at stands.place v
    owned g stands components v (inl b) =
        record {
          rest = b.rest;
          is = b.is ∙ ap (λ a. below a b.rest) stands.is
              ∙ below_child group.at stands.place b.rest;
        }
    owned g stands components v (inr c) =
        component (range_with_len 0 (length (variables_of g.body)))
        (subst (λ vs. Contains vs v) components c)
      where
        component : (ns : List ℕ) → Contains (map (child_of g.at) ns) v
            → IsBelowAt group.at stands.place v
        component [] (place, inside, is) = absurd (omega (arith, inside))
        component (m ∷ ns) (zero, inside, is) =
            record {
              rest = m ∷ [];
              is = sym is ∙ ap (λ a. below a (m ∷ [])) stands.is
                  ∙ below_child group.at stands.place (m ∷ []);
            }
        component (m ∷ ns) (suc place, inside, is) = component ns (place, omega (arith, inside), is)

    -- the child groups, where they stand
    pub standing_groups : All (λ g. StandsAsGroup g × HasComponents g) groups_in
    standing_groups =
        all_both StandsAsGroup HasComponents groups_in
        (stand_first (λ c. c.at) (child_of group.at) groups_in others_in 0 edge_law.positions)
        edge_law.components

    pub unowned : (v : Address) → ¬ (Owns group v) → All (λ g. ¬ (Owns g v)) groups_in
    unowned v h =
        All-weaker (λ g. StandsAsGroup g × HasComponents g) (λ g. ¬ (Owns g v))
        (λ g k o.
        let b = owned g k.0 k.1 v o in h (inl (record { rest = k.0.place ∷ b.rest; is = b.is })))
        groups_in standing_groups

    -- the expressions of the image
    pub exprs_omit : (v : Address) → ¬ (Owns group v)
        → All (Omits v) (image_of (edge_at n) group).exprs
    exprs_omit v h =
        all_from_map (λ f. coefficient f v ≡ zero_ℚ) expressed (image_of (edge_at n) group).exprs
        (edge_law.expressed v (outside_inner groups_in v (unowned v h)))

  -- natively, and by an edge
  own_case : (group : Item) → IsGroup group → (v : Address) → ¬ (Owns group v)
      → AllOmit v (own_entries group)
  own_case group is v h =
      subst (λ b. AllOmit v (cond b (map (λ u. record { component = u; expression = Kept u })
      (variables_of group.body)) []))
      (sym is.is_group) (own_omit (variables_of group.body) v (λ c. h (inr c)))

  edge_case : (group : Item) (is : IsGroup group) (n : ℕ)
      (e : choice (kind_number (kind_of_body group.body)) ≡ By n) (inner : List Entry) (v : Address)
      → ¬ (Owns group v) → AllOmit v inner → AllOmit v (outer_entries n group inner)
  edge_case group is n e inner v h omitted =
      made_omit inner (variables_of group.body) (image_of (edge_at n) group).exprs v omitted
      (exprs_omit group is.can n e v h)

  mutual
    -- the expressions of a group's components mention nothing that the group doesn't own
    pub omits : {group : Item} {entries : List Entry} → Bridged (rules_by choice) group entries
        → IsGroup group → (v : Address) → ¬ (Owns group v) → AllOmit v entries
    omits (natively {item} c) is v h = own_case item is v h
    omits (by {item} {edge} {inner} c groups others) is v h =
        edge_case item is edge c inner v h (omits_each groups (child_groups item is.can edge c) v
        (unowned item is.can edge c v h))

    pub omits_each : {groups : List Item} {entries : List Entry}
        → EachBridged (rules_by choice) groups entries
        → All IsGroup groups → (v : Address) → All (λ g. ¬ (Owns g v)) groups → AllOmit v entries
    omits_each none all v h = All-nil (λ e. Omits v e.expression)
    omits_each (each {item} {items} {entries} {others} first rest) all v h =
        All-append (λ e. Omits v e.expression) entries others
        (omits first (All-head IsGroup item items all) v
        (All-head (λ g. ¬ (Owns g v)) item items h))
        (omits_each rest (All-tail IsGroup item items all) v
        (All-tail (λ g. ¬ (Owns g v)) item items h))
