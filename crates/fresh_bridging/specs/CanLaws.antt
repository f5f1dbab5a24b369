-- Items that can be bridged: valid, of a kind that has a tree, with room for the positions and the
-- components of all that may stand below. What a chosen edge makes of one can be bridged, and ranks
-- below it.
use Rattle.std.specs.Prelude.{◌≡◌, ◌≢◌, ◌+◌, ◌*◌, ◌<◌, ◌≤◌, ℕ, zero, suc, nat_le, ◌==◌, Bool, true, false, ◌&&◌, ◌||◌, not, cond, List, [], ◌∷◌, All, length, refl}
use Rattle.std.proofs.Common.{arith, sym, ap, subst, ◌∙◌, true≢false}
use Rattle.std.specs.List.{list_any}
use Rattle.std.proofs.lemmas.Bool.Decides.{Decides-eqb, nat_tests}
use Rattle.std.proofs.lemmas.List.{length-append}
use Rattle.std.proofs.lemmas.List.Elements.{All-weaker}
use Rattle.std.proofs.lemmas.Bool.{not-true, or_right}
use Rattle.bridge_graph.specs.Hypergraph.{IsCostly}
use Rattle.bridge_graph.specs.declared.Choice.{Choice}
use Rattle.bridge_graph.specs.declared.Choice.TheVariants.{By}
use Rattle.expansion.specs.Ranks.{RanksBelow}
use Rattle.item_core.specs.declared.family.Family.{Family}
use Rattle.item_core.specs.declared.item.Item.{Item}
use Rattle.item_core.specs.declared.kind.Kind.{Kind}
use Rattle.item_core.specs.declared.kind.Kind.TheVariants.{GroupReals}
use Rattle.item_core.specs.Edge.{edge_entry, family_of, kinds_in}
use Rattle.item_core.specs.Item.{functions_of}
use Rattle.item_core.specs.Kind.{kind_eq, kind_number}
use Rattle.item_core.specs.KindOf.{kind_of_body}
use Rattle.item_core.specs.Valid.{IsValidItem}
use Rattle.bridge_face.specs.ImageOf.{image_of}
use Rattle.aff_core.specs.Address.{Address, child_of}
use Rattle.bridge_face.specs.Law.{EdgeLaw, GrowsBy, IsItemFor, IsLawful, IsValidWithin, LeadsToKind, children, growth}
use Rattle.map_laws.specs.EachLaws.{StandsFrom, all_both, stand_from}
use Rattle.fresh_bridging.specs.FreshBridging.{HasTree}
use Rattle.fresh_bridging.specs.RankingLaws.{LeadsDown, fewer_below, leads_down, rank, ranked_below}
use Rattle.fresh_bridging.specs.TableLaws.{all_keep_at, and_first, and_second, comes_of_norms, doubles_seldom, ends_norms, equal_kind, grows_once, grows_seldom, splits_reals, is_norm_kind, keeps_to_the_table, leads_from_others, of_family, plain_beside_free}
use Rattle.fresh_bridging.specs.TheRules.{AreChoices, Setting, edge_at, graph_of, is_usable}

-- every family that has a bridge keeps the law of its edges
abbrev pub AreLawful : Setting → Type 0
AreLawful setting = (family : Family) → is_usable setting family ≡ true → IsLawful family

-- ---- tests

abbrev pub counted : Bool → ℕ
counted b = cond b 1 0

left_if : (b x : Bool) → (b || not x) ≡ true → x ≡ true → b ≡ true
left_if true x h e = refl
left_if false true h e = absurd (true≢false (sym h))
left_if false false h e = absurd (true≢false (sym e))

either : (C : Type 0) (a b : Bool) → (a || b) ≡ true → (a ≡ true → C) → (b ≡ true → C) → C
either C true b h first second = first refl
either C false b h first second = second h

module _ (setting : Setting) (costly : IsCostly (graph_of setting)) (choice : ℕ → Choice)
    (chosen : AreChoices setting choice) where
  abbrev pub rank_in : ℕ → ℕ
  rank_in kind = rank setting costly choice chosen kind

  abbrev pub rank_of : Item → ℕ
  rank_of item = rank_in (kind_number (kind_of_body item.body))

  -- how often the components may still double: at a norm cone, and at free variables
  unfoldable pub doublings : Kind → ℕ
  doublings kind =
      counted (is_norm_kind kind)
      + counted (nat_le (rank_in (kind_number GroupReals)) (rank_in (kind_number kind)))

  -- n times 2 for each doubling
  abbrev pub doubled : ℕ → ℕ → ℕ
  doubled zero n = n
  doubled (suc k) n = 2 * doubled k n

  pub record Can (item : Item) : Type 0 where
    pub valid : IsValidItem item
    pub tree : HasTree (graph_of setting) item
    pub room : length item.at.positions + ranked_below setting costly choice chosen (rank_of item)
        ≤ 34
    pub size : doubled (doublings (kind_of_body item.body)) (length (functions_of item.body))
        ≤ 16384

  -- ---- doublings

  counted_once : (b : Bool) → counted b ≤ 1
  counted_once true = omega arith
  counted_once false = omega arith

  at_most_two : (kind : Kind) → doublings kind ≤ 2
  unfolding doublings
  at_most_two kind =
      omega (
        arith,
        counted_once (is_norm_kind kind),
        counted_once
            (nat_le (rank_in (kind_number GroupReals)) (rank_in (kind_number kind))),
      )

  doubled_within : (k n : ℕ) → n ≤ doubled k n
  doubled_within zero n = omega arith
  doubled_within (suc k) n = omega (arith, doubled_within k n)

  doubled_more : (k l n m : ℕ) → k ≤ l → n ≤ m → doubled k n ≤ doubled l m
  doubled_more zero l n m h e = omega (arith, doubled_within l m, e)
  doubled_more (suc k) zero n m h e = absurd (omega (arith, h))
  doubled_more (suc k) (suc l) n m h e = omega (arith, doubled_more k l n m (omega (arith, h)) e)

  doubled_once : (k n : ℕ) → doubled k (2 * n) ≡ doubled (suc k) n
  doubled_once zero n = refl
  doubled_once (suc k) n = ap (λ x. 2 * x) (doubled_once k n)

  -- an item of the user's has no more than 4,096
  pub start_size : (kind : Kind) (n : ℕ) → n ≤ 4096 → doubled (doublings kind) n ≤ 16384
  start_size kind n h = doubled_more (doublings kind) 2 n 4096 (at_most_two kind) h

  -- ---- a chosen edge

  module _ (lawful : AreLawful setting) (item : Item) (can : Can item) (n : ℕ)
      (e : choice (kind_number (kind_of_body item.body)) ≡ By n) where
    abbrev pub down : LeadsDown setting costly choice chosen (kind_of_body item.body) n
    down = leads_down setting costly choice chosen (kind_of_body item.body) n e

    -- the edge's entry in the table
    pub same_entry : edge_entry (edge_at n) ≡ down.entry
    same_entry = ap edge_entry down.is_entry.edge ∙ down.is_entry.entry_is

    is_item : IsItemFor down.entry.edge item
    is_item = record {
      valid = can.valid;
      kind = down.source ∙ ap (λ x. x.source) (sym down.is_entry.entry_is);
    }

    pub law : EdgeLaw (edge_at n) item (image_of (edge_at n) item)
    law =
        subst (λ edge. EdgeLaw edge item (image_of edge item)) (sym down.is_entry.edge)
        (of_family (λ edge. (i : Item) → IsItemFor edge i → EdgeLaw edge i (image_of edge i)) n
        down.entry down.is_entry.here (lawful down.entry.family down.family) item is_item)

    -- the kind of a child is one that the entry lists
    pub lists : (child : Item) → LeadsToKind (edge_at n) child.body
        → list_any (kind_eq (kind_of_body child.body)) (kinds_in down.entry.children) ≡ true
    lists child h = subst (λ x. list_any (kind_eq (kind_of_body child.body)) (kinds_in x.children)
        ≡ true) same_entry h

    pub keeps : keeps_to_the_table down.entry ≡ true
    keeps = all_keep_at n down.entry down.is_entry.here

    -- ---- components double seldom

    grows : grows_seldom down.entry ≡ true
    grows =
        and_second (leads_from_others down.entry) (grows_seldom down.entry)
        (and_second (plain_beside_free down.entry) (leads_from_others down.entry
        && grows_seldom down.entry) keeps)

    norm_listed : (kinds : List Kind) (kind : Kind) → list_any (kind_eq kind) kinds ≡ true
        → is_norm_kind kind ≡ true → list_any is_norm_kind kinds ≡ true
    norm_listed [] kind h norm = h
    norm_listed (k ∷ ks) kind h norm = by (kind_eq kind k) refl h (norm_listed ks kind)
      where
        by : (b : Bool) → kind_eq kind k ≡ b → (b || list_any (kind_eq kind) ks) ≡ true
            → (list_any (kind_eq kind) ks ≡ true → is_norm_kind kind ≡ true
            → list_any is_norm_kind ks ≡ true)
            → (is_norm_kind k || list_any is_norm_kind ks) ≡ true
        by true same all later =
            ap (λ b. b || list_any is_norm_kind ks) (sym (ap is_norm_kind (equal_kind kind k same))
            ∙ norm)
        by false other rest later =
            or_right (is_norm_kind k) (list_any is_norm_kind ks) (later rest norm)

    grown_once : grows_once down.entry ≡ true
    grown_once =
        and_second (doubles_seldom down.entry) (grows_once down.entry)
        (and_second (comes_of_norms down.entry) (doubles_seldom down.entry && grows_once down.entry)
        grows)

    grown_where : doubles_seldom down.entry ≡ true
    grown_where =
        and_first (doubles_seldom down.entry) (grows_once down.entry)
        (and_second (comes_of_norms down.entry) (doubles_seldom down.entry && grows_once down.entry)
        grows)

    norm_first : comes_of_norms down.entry ≡ true
    norm_first = and_first (comes_of_norms down.entry)
        (doubles_seldom down.entry && grows_once down.entry) grows

    module _ (kind : Kind) (listed : list_any (kind_eq kind) (kinds_in down.entry.children)
        ≡ true) where
      lower : rank_in (kind_number kind) < rank_of item
      lower = (down.below kind listed).1

      norm_of : is_norm_kind kind ≡ true → is_norm_kind (kind_of_body item.body) ≡ true
      norm_of h =
          ap is_norm_kind down.source
          ∙ left_if (is_norm_kind down.entry.source) (list_any is_norm_kind
          (kinds_in down.entry.children)) norm_first
          (norm_listed (kinds_in down.entry.children) kind listed h)

      norms : counted (is_norm_kind kind) ≤ counted (is_norm_kind (kind_of_body item.body))
      norms = by (is_norm_kind kind) refl
        where
          by : (b : Bool) → is_norm_kind kind ≡ b
              → counted b ≤ counted (is_norm_kind (kind_of_body item.body))
          by true h = subst (λ b. 1 ≤ counted b) (sym (norm_of h)) (omega arith)
          by false h = omega arith

      frees : counted (nat_le (rank_in (kind_number GroupReals)) (rank_in (kind_number kind)))
          ≤ counted (nat_le (rank_in (kind_number GroupReals)) (rank_of item))
      frees = by (nat_le (rank_in (kind_number GroupReals)) (rank_in (kind_number kind))) refl
        where
          by : (b : Bool)
              → nat_le (rank_in (kind_number GroupReals)) (rank_in (kind_number kind)) ≡ b
              → counted b ≤ counted (nat_le (rank_in (kind_number GroupReals)) (rank_of item))
          by true h =
              let above : nat_le (rank_in (kind_number GroupReals)) (rank_of item) ≡ true =
              grind (arith, nat_tests, h, lower) in
              subst (λ b. 1 ≤ counted b) (sym above) (omega arith)
          by false h = omega arith

      fewer : doublings kind ≤ doublings (kind_of_body item.body)
      unfolding doublings
      fewer = omega (arith, norms, frees)

      one_fewer : growth down.entry.family ≢ 1
          → doublings kind + 1 ≤ doublings (kind_of_body item.body)
      unfolding doublings
      one_fewer more =
          either (doublings kind + 1 ≤ doublings (kind_of_body item.body))
          (growth down.entry.family == 1) (ends_norms down.entry || splits_reals down.entry)
          grown_where
          (λ one. absurd (more ((Decides-eqb (growth down.entry.family) 1).0 one)))
          (λ rest. either (doublings kind + 1 ≤ doublings (kind_of_body item.body))
          (ends_norms down.entry) (splits_reals down.entry) rest at_norm at_free)
        where
          at_norm : ends_norms down.entry ≡ true
              → doublings kind + 1 ≤ doublings (kind_of_body item.body)
          at_norm h =
              let source : is_norm_kind (kind_of_body item.body) ≡ true = ap is_norm_kind
              down.source ∙ and_first (is_norm_kind down.entry.source)
              (not (list_any is_norm_kind (kinds_in down.entry.children))) h in
              let none = not-true (list_any is_norm_kind (kinds_in down.entry.children))
              (and_second (is_norm_kind down.entry.source) (not
              (list_any is_norm_kind (kinds_in down.entry.children))) h) in
              let child : is_norm_kind kind ≡ false = no_norm (is_norm_kind kind) refl none in
              omega (arith, frees, ap counted source, ap counted child)
            where
              no_norm : (b : Bool) → is_norm_kind kind ≡ b
                  → list_any is_norm_kind (kinds_in down.entry.children) ≡ false → b ≡ false
              no_norm true is none = absurd (true≢false (sym
                  (norm_listed (kinds_in down.entry.children) kind listed is) ∙ none))
              no_norm false is none = refl

          at_free : splits_reals down.entry ≡ true
              → doublings kind + 1 ≤ doublings (kind_of_body item.body)
          at_free h =
              let free : kind_of_body item.body ≡ GroupReals = down.source
              ∙ equal_kind down.entry.source GroupReals (and_first
              (kind_eq down.entry.source GroupReals) (growth down.entry.family == 2) h) in
              let same : rank_of item ≡ rank_in (kind_number GroupReals) =
              ap (λ k. rank_in (kind_number k)) free in
              let here : nat_le (rank_in (kind_number GroupReals)) (rank_of item) ≡ true =
              grind (arith, nat_tests, same) in
              let below : nat_le (rank_in (kind_number GroupReals)) (rank_in (kind_number kind))
              ≡ false = grind (arith, nat_tests, same, lower) in
              omega (arith, norms, ap counted here, ap counted below)

      -- so the components are within what they may be
      sized : (lc : ℕ) → lc ≤ growth down.entry.family * length (functions_of item.body)
          → doubled (doublings kind) lc ≤ 16384
      sized lc h =
          either (doubled (doublings kind) lc ≤ 16384) (growth down.entry.family == 1)
          (growth down.entry.family == 2) grown_once
          (λ one.
          let g = (Decides-eqb (growth down.entry.family) 1).0 one in
          let within : lc ≤ 1 * length (functions_of item.body) =
          subst (λ k. lc ≤ k * length (functions_of item.body)) g h in
          omega (
            arith,
            doubled_more (doublings kind) (doublings (kind_of_body item.body)) lc
                (length (functions_of item.body)) fewer (omega (arith, within)),
            can.size,
          ))
          (λ two.
          let g = (Decides-eqb (growth down.entry.family) 2).0 two in
          let within : lc ≤ 2 * length (functions_of item.body) =
          subst (λ k. lc ≤ k * length (functions_of item.body)) g h in
          let other : growth down.entry.family ≢ 1 = λ one. absurd (omega (arith, one, g)) in
          let first = doubled_more (doublings kind) (doublings kind) lc
          (2 * length (functions_of item.body)) (omega arith) within in
          let count = length (functions_of item.body) in
          let next : doubled (suc (doublings kind)) count
          ≤ doubled (doublings (kind_of_body item.body)) count =
          doubled_more (suc (doublings kind)) (doublings (kind_of_body item.body)) count count
          (omega (arith, one_fewer other)) (omega arith) in
          omega (
            arith,
            first,
            doubled_once (doublings kind) (length (functions_of item.body)),
            next,
            can.size,
          ))

    -- ---- children

    -- a child of the edge, at its position, as the law says
    pub record IsChild (child : Item) : Type 0 where
      pub position : length child.at.positions ≡ length item.at.positions + 1
      pub valid : length (functions_of child.body) ≤ 32767 → IsValidItem child
      pub leads : LeadsToKind (edge_at n) child.body
      pub grows : length (functions_of child.body)
          ≤ growth (family_of (edge_at n)) * length (functions_of item.body)

    -- a child whose body has this kind and number of components
    pub child_can : (child : Item) → IsChild child → (after : Item) → after.at ≡ child.at
        → kind_of_body after.body ≡ kind_of_body child.body
        → length (functions_of after.body) ≡ length (functions_of child.body)
        → (IsValidItem child → IsValidItem after)
        → RanksBelow Can rank_of (rank_of item) after
    child_can child is after at kind count carried =
        let listed : list_any (kind_eq (kind_of_body after.body)) (kinds_in down.entry.children)
        ≡ true =
        subst (λ k. list_any (kind_eq k) (kinds_in down.entry.children) ≡ true) (sym kind)
        (lists child is.leads) in
        let grown : length (functions_of after.body)
        ≤ growth down.entry.family * length (functions_of item.body) =
        subst (λ x. length (functions_of after.body)
        ≤ growth x.family * length (functions_of item.body)) same_entry
        (subst (λ c. c ≤ growth (family_of (edge_at n)) * length (functions_of item.body))
        (sym count) is.grows) in
        let size = sized (kind_of_body after.body) listed (length (functions_of after.body)) grown
        in
        let lower = (down.below (kind_of_body after.body) listed).1 in
        let within = doubled_within (doublings (kind_of_body after.body))
        (length (functions_of after.body)) in
        record {
          can = record {
            valid = carried (is.valid (omega (arith, within, size, count)));
            tree = (down.below (kind_of_body after.body) listed).0;
            room = omega (
              arith,
              ap (λ (a : Address). length a.positions) at,
              is.position,
              can.room,
              fewer_below setting costly choice chosen (kind_of_body after.body) (rank_of item)
                  lower,
            );
            size = size;
          };
          below = lower;
        }

    abbrev all_children : List Item
    all_children = children (image_of (edge_at n) item)

    one_longer : (j : ℕ) → length (child_of item.at j).positions ≡ length item.at.positions + 1
    one_longer j = length-append item.at.positions (j ∷ [])

    pub are_children : All IsChild all_children
    are_children =
        let positions = stand_from (λ c. c.at) (child_of item.at) all_children 0
        (length all_children) (omega arith) law.positions in
        let room : length item.at.positions < 38 = omega (arith, can.room) in
        let Leads : Item → Type 0 = λ child. LeadsToKind (edge_at n) child.body in
        let Grows : Item → Type 0 = GrowsBy (growth (family_of (edge_at n))) item in
        let Stands : Item → Type 0 =
        StandsFrom (λ c. c.at) (child_of item.at) 0 (length all_children) in
        All-weaker (λ child. Stands child × (IsValidWithin child × (Leads child × Grows child)))
        IsChild
        (λ child h. record {
          position = ap (λ (a : Address). length a.positions) h.0.is ∙ one_longer h.0.place;
          valid = h.1.0;
          leads = h.1.1.0;
          grows = h.1.1.1;
        })
        all_children
        (all_both Stands (λ child. IsValidWithin child × (Leads child × Grows child)) all_children
        positions
        (all_both IsValidWithin (λ child. Leads child × Grows child) all_children (law.valid room)
        (all_both Leads Grows all_children law.kinds law.sizes)))
