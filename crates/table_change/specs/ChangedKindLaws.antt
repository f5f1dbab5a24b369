-- A kind that isn't changed: in each tree of an item of the kind the other choices are the same. And in
-- each tree of an item of a kind that is, one isn't.
use Rattle.std.specs.Prelude.{◌≡◌, ◌<◌, ◌||◌, ℕ, zero, suc, Bool, true, false, not, List, [], ◌∷◌, All, refl}
use Rattle.std.specs.List.{list_any}
use Rattle.std.proofs.Common.{arith, ap, ap₂, sym, ◌∙◌, true≢false}
use Rattle.std.proofs.lemmas.Bool.Decides.{Decides-eqb}
use Rattle.std.proofs.lemmas.List.Elements.{All-append, All-cons, All-contains, All-head, All-nil, All-tail, All-weaker}
use Rattle.bridge_face.specs.ImageOf.{image_of}
use Rattle.bridge_face.specs.Law.{LeadsToKind, children}
use Rattle.bridge_graph.specs.Hypergraph.{IsCostly}
use Rattle.bridge_graph.specs.declared.Choice.{Choice}
use Rattle.bridge_graph.specs.declared.Choice.TheVariants.{By, Missing, Native}
use Rattle.expansion.specs.Bridged.{Bridged, EachBridged, EachBridgedIn, by, each, each_in, natively, none, none_in}
use Rattle.expansion.specs.Kept.{KeepsChoices, KeepsEach, KeepsIn}
use Rattle.expansion.specs.Ranks.{RanksBelow}
use Rattle.fresh_bridging.specs.CanLaws.{AreLawful, Can, IsChild, are_children, down, rank_of, same_entry}
use Rattle.fresh_bridging.specs.Entries.{Entry, put_in}
use Rattle.fresh_bridging.specs.ExistenceLaws.{ranked}
use Rattle.fresh_bridging.specs.OmitLaws.{groups_in, others_in}
use Rattle.fresh_bridging.specs.RankingLaws.{fewer_below, ranked_below}
use Rattle.fresh_bridging.specs.TableLaws.{equal_kind}
use Rattle.fresh_bridging.specs.TheRules.{AreChoices, Setting, edge_at, graph_of, rules_by}
use Rattle.fresh_bridging.specs.Touched.{choice_of_item}
use Rattle.item_core.specs.Edge.{children_of}
use Rattle.item_core.specs.Kind.{kind_eq, kind_number}
use Rattle.item_core.specs.KindOf.{kind_of_body}
use Rattle.item_core.specs.declared.item.Item.{Item}
use Rattle.item_core.specs.declared.kind.Kind.{Kind}
use Rattle.table_change.specs.ChangedKinds.{is_changed, is_other, led_to, same_choice}
use Rattle.table_change.specs.OccursLaws.{Occurs, occurs}
use Rattle.table_change.specs.PutKindLaws.{kinds_put, listed_groups, listed_others}
use Rattle.map_laws.specs.EachLaws.{all_both}

-- ---- choices

pub same_choices : (a b : Choice) → same_choice a b ≡ true → b ≡ a
same_choices Native Native e = refl
same_choices (By n) (By m) e = ap By (sym ((Decides-eqb n m).0 e))
same_choices Missing Missing e = refl
same_choices _ _ e = absurd (true≢false (sym e))

choice_itself : (a : Choice) → same_choice a a ≡ true
choice_itself Native = refl
choice_itself (By n) = (Decides-eqb n n).1 refl
choice_itself Missing = refl

-- ---- tests

neither : (a b : Bool) → (a || b) ≡ false → (a ≡ false) × (b ≡ false)
neither true b e = absurd (true≢false e)
neither false b e = (refl, e)

reverted : (b : Bool) → not b ≡ false → b ≡ true
reverted true e = refl
reverted false e = absurd (true≢false e)

-- a listed kind fails where none passes
none_passes : (p : Kind → Bool) (ks : List Kind) (k : Kind) → list_any p ks ≡ false
    → list_any (kind_eq k) ks ≡ true → p k ≡ false
none_passes p [] k never listed = absurd (true≢false (sym listed))
none_passes p (x ∷ xs) k never listed =
    by (kind_eq k x) refl listed (none_passes p xs k (neither (p x) (list_any p xs) never).1)
  where
    by : (b : Bool) → kind_eq k x ≡ b → (b || list_any (kind_eq k) xs) ≡ true
        → (list_any (kind_eq k) xs ≡ true → p k ≡ false) → p k ≡ false
    by true same l later =
        ap p (equal_kind k x same) ∙ (neither (p x) (list_any p xs) never).0
    by false other l later = later l

-- and none passes where each fails
each_fails : (p : Kind → Bool) (ks : List Kind) → All (λ k. p k ≡ false) ks
    → list_any p ks ≡ false
each_fails p [] h = refl
each_fails p (k ∷ ks) h =
    ap₂ (λ a b. a || b) (All-head (λ k. p k ≡ false) k ks h)
    (each_fails p ks (All-tail (λ k. p k ≡ false) k ks h))

-- choices that are the same for each kind change the same kinds
pub changed_alike : (c d o p : ℕ → Choice)
    → ((k : Kind) → c (kind_number k) ≡ d (kind_number k))
    → ((k : Kind) → o (kind_number k) ≡ p (kind_number k)) → (n : ℕ)
    → is_changed c o n ≡ is_changed d p n
unfolding is_changed
changed_alike c d o p first second zero = λ i k. false
changed_alike c d o p first second (suc n) =
    λ i k. is_other_by (first k i) (second k i)
    || list_any (changed_alike c d o p first second n i) (led_to (first k i))
  where
    is_other_by : Choice → Choice → Bool
    is_other_by a b = not (same_choice a b)

module _ (setting : Setting) (costly : IsCostly (graph_of setting)) (choice : ℕ → Choice)
    (chosen : AreChoices setting choice) (lawful : AreLawful setting) (other : ℕ → Choice) where
  abbrev CanBe : Item → Type 0
  CanBe item = Can setting costly choice chosen item

  abbrev rank_here : Item → ℕ
  rank_here item = rank_of setting costly choice chosen item

  abbrev changed_at : ℕ → Item → Bool
  changed_at n item = is_changed choice other n (kind_of_body item.body)

  -- ---- not changed on as many levels as it may stand on

  pub record IsUnchanged (n : ℕ) (item : Item) : Type 0 where
    pub can : CanBe item
    pub levels : ranked_below setting costly choice chosen (rank_here item) < n
    pub unchanged : changed_at n item ≡ false

  module _ (n : ℕ) (item : Item) (is : IsUnchanged (suc n) item) where
    unchanged_choice : choice_of_item other item ≡ choice_of_item choice item
    unfolding is_changed
    unchanged_choice =
        let k = kind_number (kind_of_body item.body) in
        same_choices (choice k) (other k)
        (reverted (same_choice (choice k) (other k))
        (neither (is_other choice other (kind_of_body item.body)) _ is.unchanged).0)

    module _ (edge : ℕ) (c : choice (kind_number (kind_of_body item.body)) ≡ By edge) where
      abbrev IsChildHere : Item → Type 0
      IsChildHere x = IsChild setting costly choice chosen lawful item is.can edge c x

      none_changed : list_any (is_changed choice other n) (children_of (edge_at edge)) ≡ false
      unfolding is_changed
      none_changed =
          ap (λ x. list_any (is_changed choice other n) (led_to x)) (sym c)
          ∙ (neither (is_other choice other (kind_of_body item.body)) _ is.unchanged).1

      child_unchanged : (x : Item) (k : Kind) → IsChildHere x → k ≡ kind_of_body x.body
          → is_changed choice other n k ≡ false
      child_unchanged x k child same =
          ap (is_changed choice other n) same
          ∙ none_passes (is_changed choice other n) (children_of (edge_at edge)) (kind_of_body x.body)
          none_changed child.leads

      groups_unchanged : All (IsUnchanged n) (groups_in setting costly choice chosen lawful item is.can edge c)
      groups_unchanged =
          let Below : Item → Type 0 = RanksBelow CanBe rank_here (rank_here item) in
          let groups = groups_in setting costly choice chosen lawful item is.can edge c in
          All-weaker (λ g. IsChildHere g × Below g) (IsUnchanged n)
          (λ g h. record {
            can = h.1.can;
            levels = omega (
              arith,
              fewer_below setting costly choice chosen (kind_of_body g.body) (rank_here item) h.1.below,
              is.levels,
            );
            unchanged = child_unchanged g (kind_of_body g.body) h.0 refl;
          }) groups
          (all_both IsChildHere Below groups
          (listed_groups setting costly choice chosen lawful item is.can edge c)
          ((ranked setting costly choice chosen lawful).groups item edge is.can c))

      others_unchanged : (inner : List Entry)
          → EachBridged (rules_by choice)
          (groups_in setting costly choice chosen lawful item is.can edge c) inner
          → All (λ x. IsUnchanged n (put_in inner x))
          (others_in setting costly choice chosen lawful item is.can edge c)
      others_unchanged inner trees =
          let Below : Item → Type 0 = λ x. RanksBelow CanBe rank_here (rank_here item) (put_in inner x) in
          let Same : Item → Type 0 = λ x. kind_of_body (put_in inner x).body ≡ kind_of_body x.body in
          let others = others_in setting costly choice chosen lawful item is.can edge c in
          All-weaker (λ x. IsChildHere x × (Same x × Below x)) (λ x. IsUnchanged n (put_in inner x))
          (λ x h. record {
            can = h.1.1.can;
            levels = omega (
              arith,
              fewer_below setting costly choice chosen (kind_of_body (put_in inner x).body)
                  (rank_here item) h.1.1.below,
              is.levels,
            );
            unchanged = child_unchanged x (kind_of_body (put_in inner x).body) h.0 h.1.0;
          }) others
          (all_both IsChildHere (λ x. Same x × Below x) others
          (listed_others setting costly choice chosen lawful item is.can edge c)
          (all_both Same Below others
          (kinds_put setting costly choice chosen lawful item is.can edge c inner trees)
          ((ranked setting costly choice chosen lawful).others item edge inner is.can c trees)))

  mutual
    unfolding KeepsChoices

    -- each choice at and below it is the same
    pub unchanged_keeps : {item : Item} {entries : List Entry} (n : ℕ) → IsUnchanged n item
        → (tree : Bridged (rules_by choice) item entries) → KeepsChoices (choice_of_item other) tree
    unchanged_keeps zero is tree = absurd (omega (arith, is.levels))
    unchanged_keeps (suc n) is (natively {item} c) = unchanged_choice n item is ∙ c
    unchanged_keeps (suc n) is (by {item} {edge} {inner} c groups others) = (
      unchanged_choice n item is ∙ c,
      each_keeps n (groups_unchanged n item is edge c) groups,
      rest_keeps n (others_unchanged n item is edge c inner groups) others,
    )

    each_keeps : {items : List Item} {entries : List Entry} (n : ℕ) → All (IsUnchanged n) items
        → (trees : EachBridged (rules_by choice) items entries) → KeepsEach (choice_of_item other) trees
    each_keeps n h none = tt
    each_keeps n h (each {item} {items} first rest) = (
      unchanged_keeps n (All-head (IsUnchanged n) item items h) first,
      each_keeps n (All-tail (IsUnchanged n) item items h) rest,
    )

    rest_keeps : {inner : List Entry} {items : List Item} (n : ℕ)
        → All (λ x. IsUnchanged n (put_in inner x)) items
        → (trees : EachBridgedIn (rules_by choice) inner items) → KeepsIn (choice_of_item other) trees
    rest_keeps n h none_in = tt
    rest_keeps n h (each_in {inner} {item} {items} first rest) = (
      unchanged_keeps n (All-head (λ x. IsUnchanged n (put_in inner x)) item items h) first,
      rest_keeps n (All-tail (λ x. IsUnchanged n (put_in inner x)) item items h) rest,
    )

  -- ---- where each choice is the same it isn't changed, on any levels

  abbrev Stays : ℕ → Item → Type 0
  Stays n item = changed_at n item ≡ false

  all_stay : (item : Item) (can : CanBe item) (edge : ℕ)
      (c : choice (kind_number (kind_of_body item.body)) ≡ By edge) (n : ℕ)
      → All (Stays n) (children (image_of (edge_at edge) item))
      → list_any (is_changed choice other n) (children_of (edge_at edge)) ≡ false
  all_stay item can edge c n stay =
      let here = down setting costly choice chosen lawful item can edge c in
      let items = children (image_of (edge_at edge) item) in
      each_fails (is_changed choice other n) (children_of (edge_at edge))
      (All-weaker (Occurs items) (λ k. is_changed choice other n k ≡ false)
      (λ k o. ap (is_changed choice other n) (sym o.2) ∙ All-contains (Stays n) items o.0 stay o.1)
      (children_of (edge_at edge))
      (occurs edge here.entry here.is_entry.here
      (same_entry setting costly choice chosen lawful item can edge c) item here.source can.valid
      (All-weaker (λ x. IsChild setting costly choice chosen lawful item can edge c x)
      (λ x. LeadsToKind (edge_at edge) x.body) (λ x h. h.leads) items
      (are_children setting costly choice chosen lawful item can edge c))))

  -- of an item as its kind before expressions were put in
  put_back : (inner : List Entry) (items : List Item) (n : ℕ)
      → All (λ x. kind_of_body (put_in inner x).body ≡ kind_of_body x.body) items
      → All (λ x. Stays n (put_in inner x)) items → All (Stays n) items
  put_back inner items n same stay =
      let Same : Item → Type 0 = λ x. kind_of_body (put_in inner x).body ≡ kind_of_body x.body in
      All-weaker (λ x. Same x × Stays n (put_in inner x)) (Stays n)
      (λ x h. ap (is_changed choice other n) (sym h.0) ∙ h.1) items
      (all_both Same (λ x. Stays n (put_in inner x)) items same stay)

  no_other : (k : Kind) → other (kind_number k) ≡ choice (kind_number k)
      → is_other choice other k ≡ false
  no_other k e =
      ap (λ x. not (same_choice (choice (kind_number k)) x)) e
      ∙ ap not (choice_itself (choice (kind_number k)))

  mutual
    unfolding KeepsChoices is_changed

    pub keeps_unchanged : {item : Item} {entries : List Entry} (n : ℕ) → CanBe item
        → (tree : Bridged (rules_by choice) item entries) → KeepsChoices (choice_of_item other) tree
        → Stays n item
    keeps_unchanged zero can tree k = refl
    keeps_unchanged (suc n) can (natively {item} c) k =
        ap₂ (λ a b. a || b) (no_other (kind_of_body item.body) (k ∙ sym c))
        (ap (λ x. list_any (is_changed choice other n) (led_to x)) c)
    keeps_unchanged (suc n) can (by {item} {edge} {inner} c groups others) k =
        ap₂ (λ a b. a || b) (no_other (kind_of_body item.body) (k.0 ∙ sym c))
        (ap (λ x. list_any (is_changed choice other n) (led_to x)) c
        ∙ all_stay item can edge c n
        (All-append (Stays n) (groups_in setting costly choice chosen lawful item can edge c)
        (others_in setting costly choice chosen lawful item can edge c)
        (each_unchanged n (rank_here item)
        ((ranked setting costly choice chosen lawful).groups item edge can c) groups k.1)
        (put_back inner (others_in setting costly choice chosen lawful item can edge c) n
        (kinds_put setting costly choice chosen lawful item can edge c inner groups)
        (rest_unchanged n (rank_here item)
        ((ranked setting costly choice chosen lawful).others item edge inner can c groups) others
        k.2))))

    each_unchanged : {items : List Item} {entries : List Entry} (n rank : ℕ)
        → All (RanksBelow CanBe rank_here rank) items
        → (trees : EachBridged (rules_by choice) items entries) → KeepsEach (choice_of_item other) trees
        → All (Stays n) items
    each_unchanged n rank h none k = All-nil (Stays n)
    each_unchanged n rank h (each {item} {items} first rest) k =
        let Below : Item → Type 0 = RanksBelow CanBe rank_here rank in
        All-cons (Stays n) item items
        (keeps_unchanged n (All-head Below item items h).can first k.0)
        (each_unchanged n rank (All-tail Below item items h) rest k.1)

    rest_unchanged : {inner : List Entry} {items : List Item} (n rank : ℕ)
        → All (λ x. RanksBelow CanBe rank_here rank (put_in inner x)) items
        → (trees : EachBridgedIn (rules_by choice) inner items) → KeepsIn (choice_of_item other) trees
        → All (λ x. Stays n (put_in inner x)) items
    rest_unchanged {inner} n rank h none_in k = All-nil (λ x. Stays n (put_in inner x))
    rest_unchanged {inner} n rank h (each_in {item = item} {items = items} first rest) k =
        let Below : Item → Type 0 = λ x. RanksBelow CanBe rank_here rank (put_in inner x) in
        All-cons (λ x. Stays n (put_in inner x)) item items
        (keeps_unchanged n (All-head Below item items h).can first k.0)
        (rest_unchanged n rank (All-tail Below item items h) rest k.1)
