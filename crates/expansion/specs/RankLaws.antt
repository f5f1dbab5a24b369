-- Where items are ranked, each has a bridging, and so has a model of them.
use Rattle.std.specs.Prelude.{◌≡◌, ℕ, zero, suc, List, [], ◌∷◌, All, refl}
use Rattle.std.proofs.Common.{arith}
use Rattle.std.proofs.lemmas.List.Elements.{All-head, All-tail}
use Rattle.bridge_graph.specs.declared.Choice.{Choice}
use Rattle.bridge_graph.specs.declared.Choice.TheVariants.{By, Missing, Native}
use Rattle.expansion.specs.Rules.{ItemChildren, Rules}
use Rattle.expansion.specs.Bridged.{Bridged, EachBridged, EachBridgedIn, Fresh, by, each, each_in, natively, none, none_in}
use Rattle.expansion.specs.Ranks.{IsRanked, RanksBelow}

module _ {Item Entry : Type 0} (rules : Rules Item Entry) where
  abbrev pub IsBridged : Item → Type 0
  IsBridged item = (entries : List Entry) × Bridged rules item entries

  each_bridged : (P : Item → Type 0) (items : List Item)
      → ((item : Item) → P item → IsBridged item) → All P items
      → (entries : List Entry) × EachBridged rules items entries
  each_bridged P [] make h = ([], none)
  each_bridged P (item ∷ items) make h =
      let first = make item (All-head P item items h) in
      let rest = each_bridged P items make (All-tail P item items h) in
      (_, each first.1 rest.1)

  each_bridged_in : (P : Item → Type 0) (inner : List Entry) (items : List Item)
      → ((item : Item) → P item → IsBridged item) → All (λ item. P (rules.put_in inner item)) items
      → EachBridgedIn rules inner items
  each_bridged_in P inner [] make h = none_in
  each_bridged_in P inner (item ∷ items) make h =
      let Q : Item → Type 0 = λ item. P (rules.put_in inner item) in
      each_in (make (rules.put_in inner item) (All-head Q item items h)).1
      (each_bridged_in P inner items make (All-tail Q item items h))

  module _ (Can : Item → Type 0) (rank : Item → ℕ) (ranked : IsRanked rules Can rank) where
    by_choice : (item : Item) → Can item
        → ((child : Item) → RanksBelow Can rank (rank item) child → IsBridged child)
        → (choice : Choice) → rules.choice item ≡ choice → IsBridged item
    by_choice item can make Native c = (_, natively c)
    by_choice item can make (By edge) c =
        let groups = each_bridged (RanksBelow Can rank (rank item)) (rules.image edge item).groups
        make (ranked.groups item edge can c) in (
          _,
          by c groups.1 (each_bridged_in (RanksBelow Can rank (rank item)) groups.0
              (rules.image edge item).others make
              (ranked.others item edge groups.0 can c groups.1)),
        )
    by_choice item can make Missing c = absurd (ranked.chosen item can c)

    bridged_below : (n : ℕ) (item : Item) → RanksBelow Can rank n item → IsBridged item
    bridged_below zero item h = absurd (omega (arith, h.below))
    bridged_below (suc n) item h =
        by_choice item h.can (λ child b. bridged_below n child
        (record { can = b.can; below = omega (arith, b.below, h.below) })) (rules.choice item)
        refl

    pub bridged : (item : Item) → Can item → IsBridged item
    bridged item can =
        bridged_below (suc (rank item)) item (record { can = can; below = omega arith })

    pub fresh : (model : ItemChildren Item) → All Can model.groups
        → ((inner : List Entry) → EachBridged rules model.groups inner
        → All (λ item. Can (rules.put_in inner item)) model.others)
        → Fresh rules model
    fresh model h k =
        let groups = each_bridged Can model.groups bridged h in
        record {
          entries = groups.0;
          groups = groups.1;
          others = each_bridged_in Can groups.0 model.others bridged (k groups.0 groups.1);
        }
