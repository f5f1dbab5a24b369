-- Each number fits that the bridging of an item within bounds is made with. The bound may grow by
-- four at each kind at which sums are made, and there are thirteen of these.
use Rattle.std.specs.Prelude.{◌≡◌, ℕ, ◌+◌, ◌*◌, ◌^◌, ◌≤◌, true, ◌&&◌, List, [], ◌∷◌, ◌++◌, All, refl}
use Rattle.std.proofs.Common.{sym, ap, ap₂, subst, ◌∙◌, arith}
use Rattle.std.specs.List.{list_all}
use Rattle.std.proofs.lemmas.List.Elements.{All-head, All-nil, All-tail, All-weaker}
use Rattle.std.proofs.lemmas.List.Sums.{list_all-from_AllPass}
use Rattle.bridge_face.specs.ImageOf.{image_of}
use Rattle.bridge_face.specs.Law.{listed}
use Rattle.bridge_graph.specs.Hypergraph.{IsCostly}
use Rattle.bridge_graph.specs.declared.Choice.{Choice}
use Rattle.bridge_graph.specs.declared.Choice.TheVariants.{By}
use Rattle.expansion.specs.Bridged.{Bridged, EachBridged, EachBridgedIn, by, each, each_in, natively, none, none_in}
use Rattle.expansion.specs.Read.{fits, fits_each, fits_in}
use Rattle.fresh_bridging.specs.CanLaws.{AreLawful, Can}
use Rattle.map_laws.specs.EachLaws.{all_both}
use Rattle.fresh_bridging.specs.Entries.{Entry, put_in, put_in_fits, put_into_fits}
use Rattle.fresh_bridging.specs.ExistenceLaws.{ranked}
use Rattle.fresh_bridging.specs.OmitLaws.{IsGroup, child_groups}
use Rattle.fresh_bridging.specs.TheRules.{AreChoices, Setting, edge_at, graph_of, image_fits, rules_by}
use Rattle.item_core.specs.declared.family.Family.{Family}
use Rattle.item_core.specs.declared.family.Family.TheVariants as family
use Rattle.item_core.specs.declared.item.Item.{Item}
use Rattle.item_core.specs.Edge.{family_of}
use Rattle.item_core.specs.Kind.{kind_number}
use Rattle.item_core.specs.KindOf.{kind_of_body}
use Rattle.small_number_laws.specs.BodyLaws.{IsBodyWithin, IsEntryWithin, into_fits, put_fits, put_within}
use Rattle.small_number_laws.specs.EntryLaws.{IsGroupWithin, IsLower, each_within, levels, lower_groups, reach_small, source}
use Rattle.small_number_laws.specs.FamilyLaws.{IsExpressionWithin, Making, anew, exprs_within, groups_within, image_passes, is_kept_making, kept, lifted, made_of, making_of, no_groups, others_within, summed, widened}
use Rattle.small_number_laws.specs.LevelLaws.{fewer_left, fewer_quadrupled, grows_at, left_of, most_left, one_less_left, one_splits, quadrupled, quadrupled_within, spent, splits_at}
use Rattle.small_number_laws.specs.ShapeLaws.{AreBodiesWithin}

-- no items have no components
none_inner : (choice : ℕ → Choice) {items : List Item} {inner : List Entry}
    → EachBridged (rules_by choice) items inner → items ≡ [] → inner ≡ []
none_inner choice none e = refl
none_inner choice (each {item} {items} first rest) e = absurd (not_empty item items e)
  where
    not_empty : (x : Item) (xs : List Item) → x ∷ xs ≡ [] → ⊥
    not_empty x xs same = cc

widened_two : (f : Family) → widened f ≤ 2
widened_two family.FreeVar = omega arith
widened_two _ = omega arith

lifted_small : (f : Family) → lifted f ≤ 2 ^ 40
lifted_small family.VectorizeVar = omega arith
lifted_small _ = omega arith

module _ (setting : Setting) (costly : IsCostly (graph_of setting)) (choice : ℕ → Choice)
    (chosen : AreChoices setting choice) (lawful : AreLawful setting) where
  abbrev pub growths_left : Item → ℕ
  growths_left item = left_of setting costly choice chosen grows_at (kind_of_body item.body)

  pub record IsItemWithin (item : Item) : Type 0 where
    pub bound : ℕ
    pub low : 2 ^ 53 ≤ bound
    pub high : quadrupled (growths_left item) bound ≤ 2 ^ 79
    pub body : IsBodyWithin bound item.body

  -- an item that expressions are put in: it is made of numbers that fit, and is within bounds
  pub record IsPutWithin (inner : List Entry) (item : Item) : Type 0 where
    pub fit : put_in_fits inner item ≡ true
    pub within : IsItemWithin (put_in inner item)

  pub put_one : (l c a d : ℕ) (inner : List Entry) → 1 ≤ l → All (IsEntryWithin l c) inner
      → a ≤ d → a * l ≤ d → a * 2 ^ 41 + a * c ≤ d * 2 ^ 41 → 2 ^ 53 ≤ d → (item : Item)
      → quadrupled (growths_left (put_in inner item)) d ≤ 2 ^ 79 → IsBodyWithin a item.body
      → IsPutWithin inner item
  put_one l c a d inner one all h g e low item high w =
      let most : d ≤ 2 ^ 79 =
      quadrupled_within (growths_left (put_in inner item)) d (2 ^ 79) high in
      record {
        fit =
            put_fits l c inner one all a item.body (omega (arith, g, most))
            (omega (arith, e, most)) w;
        within = record {
          bound = d;
          low = low;
          high = high;
          body = put_within l c inner one all a d item.body h g e w;
        };
      }

  abbrev IsGroupHere : Item → Type 0
  IsGroupHere g = IsGroup setting costly choice chosen lawful g

  -- the expressions of any groups
  pub any_entries : {groups : List Item} {inner : List Entry}
      → EachBridged (rules_by choice) groups inner → All IsGroupHere groups
      → All IsItemWithin groups → All (IsEntryWithin 2 (2 ^ 40)) inner
  any_entries {groups} trees are within =
      each_within setting costly choice chosen lawful trees 2 (2 ^ 40)
      (All-weaker (λ g. IsGroupHere g × IsItemWithin g)
      (IsGroupWithin setting costly choice chosen lawful 2 (2 ^ 40))
      (λ g h. record {
        is = h.0;
        small = h.1.body.set;
        wide = omega (
          arith,
          most_left setting costly choice chosen splits_at (kind_of_body g.body),
          one_splits,
        );
        far = reach_small (kind_of_body g.body);
      })
      groups (all_both IsGroupHere IsItemWithin groups are within))

  module _ (item : Item) (can : Can setting costly choice chosen item) (n : ℕ)
      (e : choice (kind_number (kind_of_body item.body)) ≡ By n) (h : IsItemWithin item) where
    abbrev family_here : Family
    family_here = family_of (edge_at n)

    abbrev groups_here : List Item
    groups_here = (image_of (edge_at n) item).groups

    abbrev others_here : List Item
    others_here = (image_of (edge_at n) item).rows ++ listed (image_of (edge_at n) item).objective

    abbrev IsLowerHere : Item → Type 0
    IsLowerHere g = IsLower setting costly choice chosen lawful item can n e g

    most : h.bound ≤ 2 ^ 79
    most = quadrupled_within (growths_left item) h.bound (2 ^ 79) h.high

    pub image_fit : image_fits n item ≡ true
    image_fit = image_passes item h.bound h.body h.low family_here can.valid.at_most most

    -- where the kind ranks lower, the bound may stay
    stays : (child : Item) → IsLowerHere child
        → quadrupled (growths_left child) h.bound ≤ 2 ^ 79
    stays child lower =
        omega (
          arith,
          fewer_quadrupled (growths_left child) (growths_left item) h.bound
              (fewer_left setting costly choice chosen grows_at (kind_of_body child.body)
              (kind_of_body item.body) lower.below),
          h.high,
        )

    pub groups_small : All IsItemWithin groups_here
    groups_small =
        All-weaker (λ g. IsLowerHere g × IsBodyWithin h.bound g.body) IsItemWithin
        (λ g k. record { bound = h.bound; low = h.low; high = stays g k.0; body = k.1 })
        groups_here
        (all_both IsLowerHere (λ g. IsBodyWithin h.bound g.body) groups_here
        (lower_groups setting costly choice chosen lawful item can n e)
        (groups_within item h.bound h.body h.low family_here (edge_at n)))

    module _ (inner : List Entry) (trees : EachBridged (rules_by choice) groups_here inner) where
      any_inner : All (IsEntryWithin 2 (2 ^ 40)) inner
      any_inner =
          any_entries trees (child_groups setting costly choice chosen lawful item can n e)
          groups_small

      pub outer_fit : list_all (put_into_fits inner) (image_of (edge_at n) item).exprs ≡ true
      outer_fit =
          list_all-from_AllPass (put_into_fits inner) (image_of (edge_at n) item).exprs
          (All-weaker (IsExpressionWithin (widened family_here) (lifted family_here))
          (λ x. put_into_fits inner x ≡ true)
          (λ x w. into_fits 2 (2 ^ 40) inner (omega arith) any_inner (widened family_here)
          (lifted family_here) x w
          (omega (arith, widened_two family_here))
          (omega (arith, widened_two family_here, lifted_small family_here)))
          (image_of (edge_at n) item).exprs
          (exprs_within family_here (edge_at n) item h.body.set))

      lower_others : All (λ c. IsLowerHere (put_in inner c)) others_here
      lower_others = (ranked setting costly choice chosen lawful).others item n inner can e trees

      -- each of the others, by what the family makes of the item's functions
      all_put : (l c a d : ℕ) → 1 ≤ l → All (IsEntryWithin l c) inner → a ≤ d → a * l ≤ d
          → a * 2 ^ 41 + a * c ≤ d * 2 ^ 41 → 2 ^ 53 ≤ d
          → ((child : Item) → IsLowerHere child → quadrupled (growths_left child) d ≤ 2 ^ 79)
          → AreBodiesWithin a others_here → All (IsPutWithin inner) others_here
      all_put l c a d one all ad ld cd low high made =
          All-weaker (λ x. IsLowerHere (put_in inner x) × IsBodyWithin a x.body)
          (IsPutWithin inner)
          (λ x k. put_one l c a d inner one all ad ld cd low x (high (put_in inner x) k.0) k.1)
          others_here
          (all_both (λ x. IsLowerHere (put_in inner x)) (λ x. IsBodyWithin a x.body) others_here
          lower_others made)

      by_making : (m : Making) → making_of family_here ≡ m
          → AreBodiesWithin (made_of m h.bound) others_here → All (IsPutWithin inner) others_here
      by_making kept is made =
          let empty : inner ≡ [] =
          none_inner choice trees
          (no_groups family_here (edge_at n) item (ap is_kept_making is)) in
          all_put 1 0 h.bound h.bound (omega arith)
          (subst (All (IsEntryWithin 1 0)) (sym empty) (All-nil (IsEntryWithin 1 0)))
          (omega arith) (omega arith) (omega arith) h.low stays made
      by_making summed is made =
          let at : grows_at (kind_of_body item.body) ≡ true =
          ap grows_at (source setting costly choice chosen lawful item can n e)
          ∙ (levels setting costly choice chosen lawful item can n e).grows is in
          all_put 2 (2 ^ 40) (2 * h.bound) (4 * h.bound) (omega arith) any_inner (omega arith)
          (omega arith) (omega arith) (omega (arith, h.low))
          (λ child lower. omega (
            arith,
            spent (growths_left child) (growths_left item) h.bound
                (one_less_left setting costly choice chosen grows_at (kind_of_body child.body)
                (kind_of_body item.body) at lower.below),
            h.high,
          ))
          made
      by_making anew is made =
          all_put 2 (2 ^ 40) 1 h.bound (omega arith) any_inner (omega (arith, h.low))
          (omega (arith, h.low)) (omega (arith, h.low)) h.low stays made

      pub others_small : All (IsPutWithin inner) others_here
      others_small =
          by_making (making_of family_here) refl
          (others_within item h.bound h.body h.low family_here (edge_at n) can.valid.at_most)

  abbrev CanHere : Item → Type 0
  CanHere item = Can setting costly choice chosen item

  mutual
    unfolding fits

    pub fits_within : {item : Item} {entries : List Entry}
        (tree : Bridged (rules_by choice) item entries) → CanHere item → IsItemWithin item
        → fits tree ≡ true
    fits_within (natively k) can h = refl
    fits_within (by {item} {edge} {inner} k groups others) can h =
        ap₂ ◌&&◌ (image_fit item can edge k h)
        (ap₂ ◌&&◌
        (each_fits groups
        (All-weaker (IsLower setting costly choice chosen lawful item can edge k) CanHere
        (λ g r. r.can) _ (lower_groups setting costly choice chosen lawful item can edge k))
        (groups_small item can edge k h))
        (ap₂ ◌&&◌ (outer_fit item can edge k h inner groups)
        (in_fits others
        (All-weaker
        (λ c. IsLower setting costly choice chosen lawful item can edge k (put_in inner c))
        (λ c. CanHere (put_in inner c)) (λ c r. r.can) _
        (lower_others item can edge k h inner groups))
        (others_small item can edge k h inner groups))))

    pub each_fits : {items : List Item} {entries : List Entry}
        (trees : EachBridged (rules_by choice) items entries) → All CanHere items
        → All IsItemWithin items → fits_each trees ≡ true
    each_fits none can h = refl
    each_fits (each {item} {items} first rest) can h =
        ap₂ ◌&&◌
        (fits_within first (All-head CanHere item items can) (All-head IsItemWithin item items h))
        (each_fits rest (All-tail CanHere item items can) (All-tail IsItemWithin item items h))

    pub in_fits : {inner : List Entry} {items : List Item}
        (trees : EachBridgedIn (rules_by choice) inner items)
        → All (λ c. CanHere (put_in inner c)) items → All (IsPutWithin inner) items
        → fits_in trees ≡ true
    in_fits none_in can h = refl
    in_fits (each_in {inner} {item} {items} first rest) can h =
        ap₂ ◌&&◌
        (ap₂ ◌&&◌ (All-head (IsPutWithin inner) item items h).fit
        (fits_within first (All-head (λ c. CanHere (put_in inner c)) item items can)
        (All-head (IsPutWithin inner) item items h).within))
        (in_fits rest (All-tail (λ c. CanHere (put_in inner c)) item items can)
        (All-tail (IsPutWithin inner) item items h))
