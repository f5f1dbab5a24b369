-- Expressions put into a child don't change its kind: plain children stand beside free variables alone,
-- which are kept.
use Rattle.std.specs.Prelude.{◌≡◌, ◌&&◌, ◌||◌, ℕ, Bool, true, false, not, cond, List, [], ◌∷◌, All, map, refl}
use Rattle.std.specs.List.{list_any}
use Rattle.std.proofs.Common.{ap, sym, ◌∙◌, true≢false}
use Rattle.std.proofs.lemmas.List.Elements.{All-append, All-cons, All-head, All-nil, All-tail, All-weaker}
use Rattle.aff_core.specs.Address.{Address}
use Rattle.bridge_graph.specs.Hypergraph.{IsCostly}
use Rattle.bridge_graph.specs.declared.Choice.{Choice}
use Rattle.bridge_graph.specs.declared.Choice.TheVariants.{By}
use Rattle.expansion.specs.Bridged.{Bridged, EachBridged, by, each, natively, none}
use Rattle.fresh_bridging.specs.BodyLaws.{KeepsNamed, kind_put}
use Rattle.fresh_bridging.specs.CanLaws.{AreLawful, Can, IsChild, are_children, down, keeps, lists}
use Rattle.fresh_bridging.specs.Entries.{Entry, is_kept, put_in}
use Rattle.fresh_bridging.specs.ExistenceLaws.{IsKeptEntry, free_or_set, not_this}
use Rattle.fresh_bridging.specs.MentionLaws.{by_lookup}
use Rattle.fresh_bridging.specs.OmitLaws.{IsGroup, child_groups, groups_in, others_in}
use Rattle.fresh_bridging.specs.TableLaws.{and_first, and_second, equal_kind, grows_seldom, is_group_kind, is_plain_kind, leads_from_others, plain_beside_free}
use Rattle.fresh_bridging.specs.TheRules.{AreChoices, Setting, graph_of, rules_by}
use Rattle.item_core.specs.Edge.{kinds_in}
use Rattle.item_core.specs.Item.{is_group, variables_of}
use Rattle.item_core.specs.Kind.{kind_eq, kind_number}
use Rattle.item_core.specs.KindOf.{kind_of_body}
use Rattle.item_core.specs.declared.image.Expression.TheVariants.{Kept}
use Rattle.item_core.specs.declared.item.Item.{Item}
use Rattle.item_core.specs.declared.kind.Kind.{Kind}
use Rattle.item_core.specs.declared.kind.Kind.TheVariants as kind
use Rattle.map_laws.specs.EachLaws.{all_both, all_first, all_second}

-- a kind that the test has, among the listed ones
listed_kind : (p : Kind → Bool) (kinds : List Kind) (k : Kind) → list_any (kind_eq k) kinds ≡ true
    → p k ≡ true → list_any p kinds ≡ true
listed_kind p [] k h t = h
listed_kind p (x ∷ xs) k h t = either (kind_eq k x) refl h (listed_kind p xs k)
  where
    either : (b : Bool) → kind_eq k x ≡ b → (b || list_any (kind_eq k) xs) ≡ true
        → (list_any (kind_eq k) xs ≡ true → p k ≡ true → list_any p xs ≡ true)
        → (p x || list_any p xs) ≡ true
    either true same all later = ap (λ b. b || list_any p xs) (sym (ap p (equal_kind k x same)) ∙ t)
    either false other rest later = second (p x) (later rest t)
      where
        second : (b : Bool) → list_any p xs ≡ true → (b || list_any p xs) ≡ true
        second true e = refl
        second false e = e

none_both : (a b : Bool) → not (a && b) ≡ true → a ≡ true → b ≡ false
none_both true true h e = absurd (true≢false (sym h))
none_both true false h e = refl
none_both false b h e = absurd (true≢false (sym e))

module _ (setting : Setting) (costly : IsCostly (graph_of setting)) (choice : ℕ → Choice)
    (chosen : AreChoices setting choice) (lawful : AreLawful setting) where
  -- ---- free variables are kept

  own_kept : (vars : List Address)
      → All IsKeptEntry (map (λ u. record { component = u; expression = Kept u }) vars)
  own_kept [] = All-nil IsKeptEntry
  own_kept (u ∷ us) =
      All-cons IsKeptEntry (record { component = u; expression = Kept u })
      (map (λ w. record { component = w; expression = Kept w }) us)
      refl (own_kept us)

  natively_kept : (b : Bool) (vars : List Address)
      → All IsKeptEntry (cond b (map (λ u. record { component = u; expression = Kept u }) vars) [])
  natively_kept true vars = own_kept vars
  natively_kept false vars = All-nil IsKeptEntry

  abbrev IsGroupHere : Item → Type 0
  IsGroupHere g = IsGroup setting costly choice chosen lawful g

  free_kept : {group : Item} {entries : List Entry} → Bridged (rules_by choice) group entries
      → IsGroupHere group
      → kind_of_body group.body ≡ kind.Free → All IsKeptEntry entries
  free_kept (natively {item} c) is free =
      natively_kept (is_group item.body) (variables_of item.body)
  free_kept (by {item} {edge} c groups others) is free =
      let entry = (down setting costly choice chosen lawful item is.can edge c).entry in
      let source : kind_eq entry.source kind.Free ≡ true = ap (λ k. kind_eq k kind.Free)
      (sym (down setting costly choice chosen lawful item is.can edge c).source ∙ free) in
      absurd (not_this (kind_eq entry.source kind.Free)
      (and_first (leads_from_others entry) (grows_seldom entry)
      (and_second (plain_beside_free entry) (leads_from_others entry && grows_seldom entry)
      (keeps setting costly choice chosen lawful item is.can edge c))) source)

  each_free_kept : {groups : List Item} {entries : List Entry}
      → EachBridged (rules_by choice) groups entries
      → All IsGroupHere groups → All (λ g. kind_of_body g.body ≡ kind.Free) groups
      → All IsKeptEntry entries
  each_free_kept none all free = All-nil IsKeptEntry
  each_free_kept (each {item} {items} {entries} {others} first rest) all free =
      All-append IsKeptEntry entries others
      (free_kept first (All-head IsGroupHere item items all)
      (All-head (λ g. kind_of_body g.body ≡ kind.Free) item items free))
      (each_free_kept rest (All-tail IsGroupHere item items all)
      (All-tail (λ g. kind_of_body g.body ≡ kind.Free) item items free))

  -- ---- children

  module _ (item : Item) (can : Can setting costly choice chosen item) (n : ℕ)
      (e : choice (kind_number (kind_of_body item.body)) ≡ By n) where
    abbrev IsChildHere : Item → Type 0
    IsChildHere c = IsChild setting costly choice chosen lawful item can n e c

    abbrev groups_here : List Item
    groups_here = groups_in setting costly choice chosen lawful item can n e

    abbrev others_here : List Item
    others_here = others_in setting costly choice chosen lawful item can n e

    pub listed_groups : All IsChildHere groups_here
    listed_groups = all_first IsChildHere groups_here others_here
        (are_children setting costly choice chosen lawful item can n e)

    pub listed_others : All IsChildHere others_here
    listed_others = all_second IsChildHere groups_here others_here
        (are_children setting costly choice chosen lawful item can n e)

    -- beside a plain child each group is one of free variables
    free_groups : (c : Item) → IsChildHere c → is_plain_kind (kind_of_body c.body) ≡ true
        → All (λ g. kind_of_body g.body ≡ kind.Free) groups_here
    free_groups c is plain =
        All-weaker (λ g. IsChildHere g × IsGroupHere g) (λ g. kind_of_body g.body ≡ kind.Free) free
        groups_here
        (all_both IsChildHere IsGroupHere groups_here listed_groups
        (child_groups setting costly choice chosen lawful item can n e))
      where
        kinds : List Kind
        kinds = kinds_in (down setting costly choice chosen lawful item can n e).entry.children

        no_groups : list_any is_group_kind kinds ≡ false
        no_groups =
            none_both (list_any is_plain_kind kinds) (list_any is_group_kind kinds)
            (and_first (plain_beside_free (down setting costly choice chosen lawful item can n
            e).entry) (leads_from_others (down setting costly choice chosen lawful item can n
            e).entry && grows_seldom (down setting costly choice chosen lawful item can n
            e).entry) (keeps setting costly choice chosen lawful item can n e))
            (listed_kind is_plain_kind kinds (kind_of_body c.body)
            (lists setting costly choice chosen lawful item can n e c is.leads) plain)

        free : (g : Item) → IsChildHere g × IsGroupHere g → kind_of_body g.body ≡ kind.Free
        free g h =
            free_or_set g.body h.1.is_group (other (is_group_kind (kind_of_body g.body)) refl)
          where
            other : (b : Bool) → is_group_kind (kind_of_body g.body) ≡ b → b ≡ false
            other true t = absurd (true≢false (sym (listed_kind is_group_kind kinds
                (kind_of_body g.body) (lists setting costly choice chosen lawful item can n e g
                h.0.leads) t) ∙ no_groups))
            other false t = refl

    -- so with the groups' expressions put in each other child is of its kind
    pub kinds_put : (inner : List Entry) → EachBridged (rules_by choice) groups_here inner
        → All (λ c. kind_of_body (put_in inner c).body ≡ kind_of_body c.body) others_here
    kinds_put inner trees =
        All-weaker IsChildHere (λ c. kind_of_body (put_in inner c).body ≡ kind_of_body c.body)
        (λ c is. kind_put inner c.body (kept_named c is)) others_here listed_others
      where
        kept_named : (c : Item) → IsChildHere c → KeepsNamed inner c.body
        kept_named c is plain v =
            by_lookup (λ x. is_kept x ≡ true) inner v
            (each_free_kept trees (child_groups setting costly choice chosen lawful item can n e)
            (free_groups c is plain)) refl
