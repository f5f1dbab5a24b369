-- A valid model has a fresh bridging exactly where each of its items has a tree: groups by their
-- kinds, and rows and the objective by the kinds that they have once the groups' expressions are
-- in.
use Rattle.std.specs.Prelude.{◌≡◌, ◌⊎◌, ◌+◌, ℕ, Bool, true, false, ◌&&◌, ◌||◌, not, cond, List, [], ◌∷◌, ◌++◌, All, length, map, refl}
use Rattle.std.proofs.Common.{arith, sym, ap, subst, ◌∙◌, true≢false}
use Rattle.std.specs.List.{list_any}
use Rattle.std.proofs.lemmas.List.Elements.{All-append, All-cons, All-head, All-map, All-nil, All-tail, All-weaker}
use Rattle.bridge_graph.specs.Hypergraph.{IsCostly}
use Rattle.bridge_graph.specs.Tree.{by as by_edge, native}
use Rattle.bridge_graph.specs.declared.Choice.{Choice}
use Rattle.bridge_graph.specs.declared.Choice.TheVariants.{By}
use Rattle.expansion.specs.Bridged.{Bridged, EachBridged, EachBridgedIn, Fresh, by, each, each_in, natively, none, none_in}
use Rattle.expansion.specs.RankLaws.{fresh}
use Rattle.expansion.specs.Ranks.{IsRanked, RanksBelow}
use Rattle.set_core.specs.declared.set.Set.{Set}
use Rattle.set_core.specs.declared.set.Set.TheVariants as set
use Rattle.aff_core.specs.Address.{Address, child_of}
use Rattle.item_core.specs.declared.image.Expression.TheVariants.{Kept}
use Rattle.item_core.specs.declared.item.Body.{Body}
use Rattle.item_core.specs.declared.item.Body.TheVariants.{Group, Free}
use Rattle.item_core.specs.declared.item.Item.{Item}
use Rattle.item_core.specs.declared.kind.Kind.{Kind}
use Rattle.item_core.specs.declared.kind.Kind.TheVariants as kind
use Rattle.item_core.specs.Edge.{kinds_in}
use Rattle.item_core.specs.Item.{functions_of, is_group, variables_of}
use Rattle.item_core.specs.Kind.{kind_eq, kind_number}
use Rattle.item_core.specs.KindOf.{group_kind_of, kind_of_body}
use Rattle.item_core.specs.Valid.{IsValidItem, below}
use Rattle.bridge_face.specs.Law.{HasComponents}
use Rattle.bridge_face.specs.ComponentLaws.{below_child}
use Rattle.expansion.specs.Rules.{ItemChildren}
use Rattle.aff_core.specs.declared.root.Root.TheVariants as root
use Rattle.user_model.specs.Model.{ModelValue}
use Rattle.user_model.specs.Valid.{IsValid, IsValidGroup}
use Rattle.user_model.specs.declared.group.Group.{Group as UserGroup}
use Rattle.fresh_bridging.specs.BodyLaws.{KeepsNamed, kind_put, length_put, valid_put}
use Rattle.fresh_bridging.specs.CanLaws.{AreLawful, Can, IsChild, are_children, child_can, down, keeps, lists, rank_of, start_size}
use Rattle.map_laws.specs.EachLaws.{StandsFrom, all_both, all_first, all_from_map, all_second, stand_second}
use Rattle.fresh_bridging.specs.Entries.{Entry, is_kept, put_in, put_in_body}
use Rattle.fresh_bridging.specs.FreshBridging.{FreshBridging, HasTree}
use Rattle.fresh_bridging.specs.MentionLaws.{AllOmit, by_lookup}
use Rattle.fresh_bridging.specs.ModelImage.{group_item, model_image}
use Rattle.fresh_bridging.specs.ModelLaws.{IsFurther, further, group_size, group_valid, not_owned}
use Rattle.fresh_bridging.specs.RankingLaws.{at_most_34}
use Rattle.fresh_bridging.specs.OmitLaws.{IsGroup, Owns, StandsAsGroup, apart, child_groups, edge_law, groups_in, omits_each, others_in, owned, standing_groups}
use Rattle.fresh_bridging.specs.TableLaws.{and_first, and_second, is_group_kind, is_plain_kind, leads_from_others, grows_seldom, plain_beside_free, equal_kind}
use Rattle.fresh_bridging.specs.TheRules.{AreChoices, IsChoice, Setting, graph_of, rules_by}

-- ---- kinds of groups

set_kind : (s : Set) → is_group_kind (group_kind_of s) ≡ true
set_kind (set.LessThan u) = refl
set_kind _ = refl

pub free_or_set : (b : Body) → is_group b ≡ true → is_group_kind (kind_of_body b) ≡ false
    → kind_of_body b ≡ kind.Free
unfolding kind_of_body
free_or_set (Group s vars) h k = absurd (true≢false (sym (set_kind s) ∙ k))
free_or_set (Free vars) h k = refl
free_or_set _ h k = absurd (true≢false (sym h))

pub group_put : (entries : List Entry) (b : Body) → is_group b ≡ true → put_in_body entries b ≡ b
unfolding put_in_body
group_put entries (Group s vars) h = refl
group_put entries (Free vars) h = refl
group_put entries _ h = absurd (true≢false (sym h))

-- a kind that the test has, among the listed ones
listed_kind : (p : Kind → Bool) (kinds : List Kind) (k : Kind) → list_any (kind_eq k) kinds ≡ true
    → p k ≡ true
    → list_any p kinds ≡ true
listed_kind p [] k h t = h
listed_kind p (x ∷ xs) k h t = either (kind_eq k x) refl h (listed_kind p xs k)
  where
    either : (b : Bool) → kind_eq k x ≡ b → (b || list_any (kind_eq k) xs) ≡ true
        → (list_any (kind_eq k) xs ≡ true → p k ≡ true → list_any p xs ≡ true)
        → (p x || list_any p xs) ≡ true
    either true same all later = ap (λ b. b || list_any p xs) (sym (ap p (equal_kind k x same)) ∙ t)
    either false other rest later = second (p x) (later rest t)
      where
        second : (b : Bool) → list_any p xs ≡ true → (b || list_any p xs) ≡ true
        second true e = refl
        second false e = e

none_both : (a b : Bool) → not (a && b) ≡ true → a ≡ true → b ≡ false
none_both true true h e = absurd (true≢false (sym h))
none_both true false h e = refl
none_both false b h e = absurd (true≢false (sym e))

pub not_this : (b : Bool) → not b ≡ true → b ≡ true → ⊥
not_this true h e = true≢false (sym h)
not_this false h e = true≢false (sym e)

-- the entry's component is kept
abbrev pub IsKeptEntry : Entry → Type 0
IsKeptEntry e = is_kept e.expression ≡ true

module _ (setting : Setting) (costly : IsCostly (graph_of setting)) (choice : ℕ → Choice)
    (chosen : AreChoices setting choice) (lawful : AreLawful setting) where
  -- ---- free variables are kept

  own_kept : (vars : List Address)
      → All IsKeptEntry (map (λ u. record { component = u; expression = Kept u }) vars)
  own_kept [] = All-nil IsKeptEntry
  own_kept (u ∷ us) =
      All-cons IsKeptEntry (record { component = u; expression = Kept u })
      (map (λ w. record { component = w; expression = Kept w }) us)
      refl (own_kept us)

  natively_kept : (b : Bool) (vars : List Address)
      → All IsKeptEntry (cond b (map (λ u. record { component = u; expression = Kept u }) vars) [])
  natively_kept true vars = own_kept vars
  natively_kept false vars = All-nil IsKeptEntry

  abbrev IsGroupHere : Item → Type 0
  IsGroupHere g = IsGroup setting costly choice chosen lawful g

  free_kept : {group : Item} {entries : List Entry} → Bridged (rules_by choice) group entries
      → IsGroupHere group
      → kind_of_body group.body ≡ kind.Free → All IsKeptEntry entries
  free_kept (natively {item} c) is free =
      natively_kept (is_group item.body) (variables_of item.body)
  free_kept (by {item} {edge} c groups others) is free =
      let entry = (down setting costly choice chosen lawful item is.can edge c).entry in
      let source : kind_eq entry.source kind.Free ≡ true = ap (λ k. kind_eq k kind.Free)
      (sym (down setting costly choice chosen lawful item is.can edge c).source ∙ free) in
      absurd (not_this (kind_eq entry.source kind.Free)
      (and_first (leads_from_others entry) (grows_seldom entry)
      (and_second (plain_beside_free entry) (leads_from_others entry && grows_seldom entry)
      (keeps setting costly choice chosen lawful item is.can edge c))) source)

  each_free_kept : {groups : List Item} {entries : List Entry}
      → EachBridged (rules_by choice) groups entries
      → All IsGroupHere groups → All (λ g. kind_of_body g.body ≡ kind.Free) groups
      → All IsKeptEntry entries
  each_free_kept none all free = All-nil IsKeptEntry
  each_free_kept (each {item} {items} {entries} {others} first rest) all free =
      All-append IsKeptEntry entries others
      (free_kept first (All-head IsGroupHere item items all)
      (All-head (λ g. kind_of_body g.body ≡ kind.Free) item items free))
      (each_free_kept rest (All-tail IsGroupHere item items all)
      (All-tail (λ g. kind_of_body g.body ≡ kind.Free) item items free))

  -- ---- rows and objectives that an edge makes

  module _ (item : Item) (can : Can setting costly choice chosen item) (n : ℕ)
      (e : choice (kind_number (kind_of_body item.body)) ≡ By n) where
    abbrev IsChildHere : Item → Type 0
    IsChildHere c = IsChild setting costly choice chosen lawful item can n e c

    abbrev RanksLower : Item → Type 0
    RanksLower c =
        RanksBelow (Can setting costly choice chosen) (rank_of setting costly choice chosen)
        (rank_of setting costly choice chosen item) c

    abbrev groups_here : List Item
    groups_here = groups_in setting costly choice chosen lawful item can n e

    abbrev others_here : List Item
    others_here = others_in setting costly choice chosen lawful item can n e

    listed_groups : All IsChildHere groups_here
    listed_groups = all_first IsChildHere groups_here others_here
        (are_children setting costly choice chosen lawful item can n e)

    -- beside a plain child each group is one of free variables
    free_groups : (c : Item) → IsChildHere c → is_plain_kind (kind_of_body c.body) ≡ true
        → All (λ g. kind_of_body g.body ≡ kind.Free) groups_here
    free_groups c is plain =
        All-weaker (λ g. IsChildHere g × IsGroupHere g) (λ g. kind_of_body g.body ≡ kind.Free) free
        groups_here
        (all_both IsChildHere IsGroupHere groups_here listed_groups
        (child_groups setting costly choice chosen lawful item can n e))
      where
        kinds : List Kind
        kinds = kinds_in (down setting costly choice chosen lawful item can n e).entry.children

        no_groups : list_any is_group_kind kinds ≡ false
        no_groups =
            none_both (list_any is_plain_kind kinds) (list_any is_group_kind kinds)
            (and_first (plain_beside_free (down setting costly choice chosen lawful item can n
            e).entry) (leads_from_others (down setting costly choice chosen lawful item can n
            e).entry && grows_seldom (down setting costly choice chosen lawful item can n
            e).entry) (keeps setting costly choice chosen lawful item can n e))
            (listed_kind is_plain_kind kinds (kind_of_body c.body)
            (lists setting costly choice chosen lawful item can n e c is.leads) plain)

        free : (g : Item) → IsChildHere g × IsGroupHere g → kind_of_body g.body ≡ kind.Free
        free g h =
            free_or_set g.body h.1.is_group (other (is_group_kind (kind_of_body g.body)) refl)
          where
            other : (b : Bool) → is_group_kind (kind_of_body g.body) ≡ b → b ≡ false
            other true t = absurd (true≢false (sym (listed_kind is_group_kind kinds
                (kind_of_body g.body) (lists setting costly choice chosen lawful item can n e g
                h.0.leads) t) ∙ no_groups))
            other false t = refl

    groups_can : All RanksLower groups_here
    groups_can =
        All-weaker IsChildHere RanksLower
        (λ g h. child_can setting costly choice chosen lawful item can n e g h g refl refl refl
        (λ v. v))
        groups_here listed_groups

    module _ (inner : List Entry) (trees : EachBridged (rules_by choice) groups_here inner) where
      -- what stands at or below another child isn't mentioned
      omitted : (c : Item)
          → StandsFrom (λ x. x.at) (child_of item.at) (0 + length groups_here)
          (0 + length (groups_here ++ others_here)) c
          → (rest : List ℕ) → AllOmit (below c.at rest) inner
      omitted c stands rest =
          omits_each setting costly choice chosen lawful trees
          (child_groups setting costly choice chosen lawful item can n e) (below c.at rest)
          (All-weaker (λ g. StandsAsGroup setting costly choice chosen lawful item can n e g
          × HasComponents g) (λ g. ¬ (Owns g (below c.at rest)))
          (λ g h o.
          let at_group = owned setting costly choice chosen lawful item can n e g h.0 h.1
          (below c.at rest) o in
          let same = apart item.at h.0.place stands.place (below c.at rest) at_group
          (record {
            rest = rest;
            is = ap (λ a. below a rest) stands.is ∙ below_child item.at stands.place rest;
          })
          in
          omega (arith, same, h.0.to, stands.from))
          groups_here (standing_groups setting costly choice chosen lawful item can n e))

      kept_named : (c : Item) → IsChildHere c → KeepsNamed inner c.body
      kept_named c is plain v =
          by_lookup (λ x. is_kept x ≡ true) inner v
          (each_free_kept trees (child_groups setting costly choice chosen lawful item can n e)
          (free_groups c is plain)) refl

      carried : (c : Item) → ((rest : List ℕ) → AllOmit (below c.at rest) inner) → IsValidItem c
          → IsValidItem (put_in inner c)
      carried c omit valid = by_group (is_group c.body) refl
        where
          by_group : (b : Bool) → is_group c.body ≡ b → IsValidItem (put_in inner c)
          by_group true h = subst (λ b. IsValidItem (record c { body = b }))
              (sym (group_put inner c.body h)) valid
          by_group false h = valid_put inner c h valid omit

      counted_put : (b : Body)
          → length (functions_of (put_in_body inner b)) ≡ length (functions_of b)
      counted_put b = by_group (is_group b) refl
        where
          by_group : (g : Bool) → is_group b ≡ g
              → length (functions_of (put_in_body inner b)) ≡ length (functions_of b)
          by_group true h = ap (λ x. length (functions_of x)) (group_put inner b h)
          by_group false h = length_put inner b h

      others_can : All (λ c. RanksLower (put_in inner c)) others_here
      others_can =
          let Stands : Item → Type 0 = StandsFrom (λ x. x.at) (child_of item.at)
          (0 + length groups_here) (0 + length (groups_here ++ others_here)) in
          All-weaker (λ c. IsChildHere c × Stands c) (λ c. RanksLower (put_in inner c))
          (λ c h. child_can setting costly choice chosen lawful item can n e c h.0 (put_in inner c)
          refl (kind_put inner c.body (kept_named c h.0)) (counted_put c.body)
          (carried c (omitted c h.1)))
          others_here
          (all_both IsChildHere Stands others_here
          (all_second IsChildHere groups_here others_here
          (are_children setting costly choice chosen lawful item can n e))
          (stand_second (λ x. x.at) (child_of item.at) groups_here others_here 0
          (edge_law setting costly choice chosen lawful item can n e).positions))

  -- ---- so the items that can be bridged are ranked

  pub ranked : IsRanked (rules_by choice) (Can setting costly choice chosen)
      (rank_of setting costly choice chosen)
  ranked = record {
    chosen = λ item can e. subst (IsChoice (graph_of setting)
        (kind_number (kind_of_body item.body))) e (chosen (kind_number (kind_of_body item.body)))
        can.tree.0 can.tree.1;
    groups = λ item n can e. groups_can item can n e;
    others = λ item n inner can e trees. others_can item can n e inner trees;
  }

  -- ---- trees of items

  tree_of : {item : Item} {entries : List Entry} → Bridged (rules_by choice) item entries
      → HasTree (graph_of setting) item
  tree_of (natively {item} c) = (
    0,
    native (subst (IsChoice (graph_of setting) (kind_number (kind_of_body item.body))) c
        (chosen (kind_number (kind_of_body item.body)))),
  )
  tree_of (by {item} {edge} c groups others) =
      let first = subst (IsChoice (graph_of setting) (kind_number (kind_of_body item.body))) c
      (chosen (kind_number (kind_of_body item.body))) in
      (first.0, by_edge first.1.tree)

  each_tree : {items : List Item} {entries : List Entry}
      → EachBridged (rules_by choice) items entries
      → All (HasTree (graph_of setting)) items
  each_tree none = All-nil (HasTree (graph_of setting))
  each_tree (each {item} {items} first rest) =
      All-cons (HasTree (graph_of setting)) item items (tree_of first) (each_tree rest)

  tree_in : {inner : List Entry} {items : List Item} → EachBridgedIn (rules_by choice) inner items
      → All (λ item. HasTree (graph_of setting) (put_in inner item)) items
  tree_in {inner} none_in = All-nil (λ item. HasTree (graph_of setting) (put_in inner item))
  tree_in {inner} (each_in {item = item} {items = items} first rest) =
      All-cons (λ i. HasTree (graph_of setting) (put_in inner i)) item items (tree_of first)
      (tree_in rest)

  -- ---- the user's model

  module _ (model : ModelValue) (valid : IsValid model) where
    abbrev HasTreeIn : List Entry → Item → Type 0
    HasTreeIn inner item = HasTree (graph_of setting) (put_in inner item)

    pub group_can : (group : UserGroup) → IsValidGroup group
        → HasTree (graph_of setting) (group_item group)
        → IsGroupHere (group_item group)
    group_can group h tree = record {
      can = record {
        valid = group_valid group h;
        tree = tree;
        room = omega (
          arith,
          at_most_34 setting costly choice chosen
              (kind_of_body (group_item group).body),
        );
        size = start_size setting costly choice chosen (kind_of_body (group_item group).body)
            (length (functions_of (group_item group).body)) (group_size group h);
      };
      is_group = refl;
    }

    pub groups_can_all : All (HasTree (graph_of setting)) (model_image model).groups
        → All IsGroupHere (model_image model).groups
    groups_can_all trees =
        All-map IsGroupHere group_item model.groups
        (All-weaker (λ g. IsValidGroup g × HasTree (graph_of setting) (group_item g))
        (λ g. IsGroupHere (group_item g))
        (λ g h. group_can g h.0 h.1) model.groups
        (all_both IsValidGroup (λ g. HasTree (graph_of setting) (group_item g)) model.groups
        valid.parts.valid_groups
        (all_from_map (HasTree (graph_of setting)) group_item model.groups trees)))

    module _ (inner : List Entry) (trees : EachBridged (rules_by choice) (model_image model).groups
        inner) where
      none_owned : (v : Address) → (v.root ≡ root.Row) ⊎ (v.root ≡ root.Objective)
          → All (λ g. ¬ (Owns g v)) (model_image model).groups
      none_owned v which =
          All-map (λ g. ¬ (Owns g v)) group_item model.groups (each_group model.groups)
        where
          each_group : (gs : List UserGroup) → All (λ g. ¬ (Owns (group_item g) v)) gs
          each_group [] = All-nil (λ g. ¬ (Owns (group_item g) v))
          each_group (g ∷ gs) =
              All-cons (λ x. ¬ (Owns (group_item x) v)) g gs (not_owned g v which) (each_group gs)

      pub further_can : (item : Item) → IsFurther item → HasTreeIn inner item
          → Can setting costly choice chosen (put_in inner item)
      further_can item is tree =
          let valid_in = valid_put inner item is.no_group is.valid
          (λ rest. omits_each setting costly choice chosen lawful trees
          (groups_can_all (each_tree trees)) (below item.at rest)
          (none_owned (below item.at rest) is.root)) in
          record {
            valid = valid_in;
            tree = tree;
            room = omega (
              arith,
              is.top,
              at_most_34 setting costly choice chosen
                  (kind_of_body (put_in inner item).body),
            );
            size = start_size setting costly choice chosen (kind_of_body (put_in inner item).body)
                (length (functions_of (put_in inner item).body))
                (omega (arith, length_put inner item.body is.no_group, is.count));
          }

      pub others_can_all : All (HasTreeIn inner) (model_image model).others
          → All (λ item. Can setting costly choice chosen (put_in inner item))
          (model_image model).others
      others_can_all all =
          All-weaker (λ item. IsFurther item × HasTreeIn inner item)
          (λ item. Can setting costly choice chosen (put_in inner item))
          (λ item h. further_can item h.0 h.1) (model_image model).others
          (all_both IsFurther (HasTreeIn inner) (model_image model).others (further model valid)
          all)

    -- with a tree for each group the groups are bridged
    pub groups_bridged : All (HasTree (graph_of setting)) (model_image model).groups
        → (entries : List Entry) × EachBridged (rules_by choice) (model_image model).groups entries
    groups_bridged groups =
        let alone : ItemChildren Item = record { groups = (model_image model).groups; others = [] } in
        let made = fresh (rules_by choice) (Can setting costly choice chosen)
        (rank_of setting costly choice chosen) ranked alone
        (All-weaker IsGroupHere (Can setting costly choice chosen) (λ g h. h.can)
        (model_image model).groups (groups_can_all groups))
        (λ inner trees. All-nil (λ item. Can setting costly choice chosen
        (put_in inner item))) in
        (made.entries, made.groups)

    -- with a tree for each item there is a fresh bridging
    pub bridged_by_trees : All (HasTree (graph_of setting)) (model_image model).groups
        → ((inner : List Entry) → EachBridged (rules_by choice) (model_image model).groups inner
        → All (HasTreeIn inner) (model_image model).others)
        → FreshBridging setting model
    bridged_by_trees groups others = record {
      choice = choice;
      chosen = chosen;
      made =
          fresh (rules_by choice) (Can setting costly choice chosen)
          (rank_of setting costly choice chosen) ranked (model_image model)
          (All-weaker IsGroupHere (Can setting costly choice chosen) (λ g h. h.can)
          (model_image model).groups (groups_can_all groups))
          (λ inner trees. others_can_all inner trees (others inner trees));
    }

  -- and where there is one, each item has a tree
  pub trees_of_bridged : (model : ItemChildren Item) (made : Fresh (rules_by choice) model)
      → All (HasTree (graph_of setting)) model.groups
      × All (λ item. HasTree (graph_of setting) (put_in made.entries item)) model.others
  trees_of_bridged model made = (each_tree made.groups, tree_in made.others)
