-- What stays as it is isn't touched, so a search that finds touched items alone, and of which each
-- other item stays as it is, finds exactly those.
use Rattle.std.specs.Prelude.{◌≡◌, ◌⊎◌, ℕ, Bool, true, false, cond, List, [], ◌∷◌, ◌++◌, All, Contains, find, Option, Some, None, length, refl}
use Rattle.std.proofs.Common.{inl, inr, sym, ap, subst, ◌∙◌, true≢false}
use Rattle.std.specs.List.{IsDistinct}
use Rattle.std.specs.Option.{option_or}
use Rattle.std.proofs.lemmas.List.Elements.{All-append, All-cons, All-head, All-nil, All-tail, All-contains}
use Rattle.bridge_graph.specs.declared.Choice.{Choice}
use Rattle.bridge_graph.specs.declared.Choice.TheVariants.{By, Native}
use Rattle.bridge_face.specs.Law.{Miss}
use Rattle.expansion.specs.Bridged.{Bridged, EachBridged, EachBridgedIn, by, each, each_in, natively, none, none_in}
use Rattle.expansion.specs.Grown.{Held, put_held}
use Rattle.expansion.specs.GrownLaws.{held}
use Rattle.expansion.specs.Kept.{KeepsChoices, KeepsEach, KeepsIn}
use Rattle.expansion.specs.Read.{leaves, leaves_in, leaves_of_each, nodes, nodes_in, nodes_of_each}
use Rattle.expansion.specs.Rules.{Rules}
use Rattle.aff_core.specs.Address.{Address, address_eq, address_eq-Decides}
use Rattle.item_core.specs.declared.item.Body.{Body}
use Rattle.item_core.specs.declared.item.Body.TheVariants.{Group, Free}
use Rattle.item_core.specs.declared.item.Item.{Item}
use Rattle.item_core.specs.Item.{functions_of, is_group, variables_of}
use Rattle.leaf_model.specs.LeafModel.{IsCountOf}
use Rattle.map_laws.specs.EachLaws.{all_first, all_second}
use Rattle.user_model.specs.Model.{ModelValue}
use Rattle.fresh_bridging.specs.Entries.{Entry}
use Rattle.fresh_bridging.specs.FreshBridging.{FreshBridging, expression_of}
use Rattle.fresh_bridging.specs.ModelImage.{model_image}
use Rattle.fresh_bridging.specs.TheRules.{Setting}
use Rattle.fresh_bridging.specs.Touched.{ChoosesAlike, IsTouched, KeepsAtEach, KeepsAtIn, Mentions, choice_of_item, chosen, differs, named}
use Rattle.address_laws.specs.Apart.{avoids}
use Rattle.address_laws.specs.ImageLaws.{variables_miss}
use Rattle.local_laws.specs.ExpressedLaws.{expression_held}
use Rattle.local_laws.specs.FittingLaws.{AreAlone, groups_alone, others_alone}
use Rattle.local_laws.specs.FoundLaws.{in_groups}
use Rattle.local_laws.specs.Held.{HasOwn, expressed_at, held_at_each, held_at_in, is_there}
use Rattle.local_laws.specs.HeldLaws.{keeps_own_each, keeps_own_in, none_at_each, none_at_in}
use Rattle.local_laws.specs.LookedLaws.{contains_or_not, found_passes, no_groups}
use Rattle.local_laws.specs.Sound.{IsValidUnder}
use Rattle.local_laws.specs.Stays.{StaysAt}
use Rattle.local_laws.specs.StaysLaws.{found_is, holds_alike}

-- ---- choices that agree with a tree are given by its leaves and nodes

module _ (choice : Item → Choice) where
  -- each leaf is native, and each node by its edge
  abbrev pub Suit : List Item → List (ℕ × Item) → Type 0
  Suit ls ns = All (λ i. choice i ≡ Native) ls × All (λ n. choice n.1 ≡ By n.0) ns

  suit_nothing : Suit [] []
  suit_nothing = (All-nil (λ i. choice i ≡ Native), All-nil (λ n. choice n.1 ≡ By n.0))

  suit_both : (ls ms : List Item) (ns os : List (ℕ × Item)) → Suit ls ns → Suit ms os
      → Suit (ls ++ ms) (ns ++ os)
  suit_both ls ms ns os h k = (
    All-append (λ i. choice i ≡ Native) ls ms h.0 k.0,
    All-append (λ n. choice n.1 ≡ By n.0) ns os h.1 k.1,
  )

  suit_parts : (ls ms : List Item) (ns os : List (ℕ × Item)) → Suit (ls ++ ms) (ns ++ os)
      → Suit ls ns × Suit ms os
  suit_parts ls ms ns os h = (
    (all_first (λ i. choice i ≡ Native) ls ms h.0, all_first (λ n. choice n.1 ≡ By n.0) ns os h.1),
    (all_second (λ i. choice i ≡ Native) ls ms h.0, all_second (λ n. choice n.1 ≡ By n.0) ns os h.1),
  )

  module _ {rules : Rules Item Entry} where
    mutual
      unfolding KeepsChoices leaves nodes

      suits : {item : Item} {entries : List Entry} (tree : Bridged rules item entries)
          → KeepsChoices choice tree → Suit (leaves tree) (nodes tree)
      suits (natively {item} c) k = (
        All-cons (λ i. choice i ≡ Native) item [] k (All-nil (λ i. choice i ≡ Native)),
        All-nil (λ n. choice n.1 ≡ By n.0),
      )
      suits (by {item} {edge} c groups others) k =
          let below = suit_both (leaves_of_each groups) (leaves_in others) (nodes_of_each groups)
          (nodes_in others) (suits_each groups k.1) (suits_in others k.2) in (
            below.0,
            All-cons (λ n. choice n.1 ≡ By n.0) (edge, item)
                (nodes_of_each groups ++ nodes_in others) k.0 below.1,
          )

      suits_each : {items : List Item} {entries : List Entry}
          (trees : EachBridged rules items entries) → KeepsEach choice trees
          → Suit (leaves_of_each trees) (nodes_of_each trees)
      suits_each none k = suit_nothing
      suits_each (each first rest) k =
          suit_both (leaves first) (leaves_of_each rest) (nodes first) (nodes_of_each rest)
          (suits first k.0) (suits_each rest k.1)

      suits_in : {inner : List Entry} {items : List Item}
          (trees : EachBridgedIn rules inner items) → KeepsIn choice trees
          → Suit (leaves_in trees) (nodes_in trees)
      suits_in none_in k = suit_nothing
      suits_in (each_in first rest) k =
          suit_both (leaves first) (leaves_in rest) (nodes first) (nodes_in rest)
          (suits first k.0) (suits_in rest k.1)

    mutual
      unfolding KeepsChoices leaves nodes

      keeps : {item : Item} {entries : List Entry} (tree : Bridged rules item entries)
          → Suit (leaves tree) (nodes tree) → KeepsChoices choice tree
      keeps (natively {item} c) s = All-head (λ i. choice i ≡ Native) item [] s.0
      keeps (by {item} {edge} c groups others) s =
          let below = suit_parts (leaves_of_each groups) (leaves_in others) (nodes_of_each groups)
          (nodes_in others) (
            s.0,
            All-tail (λ n. choice n.1 ≡ By n.0) (edge, item)
                (nodes_of_each groups ++ nodes_in others) s.1,
          ) in (
            All-head (λ n. choice n.1 ≡ By n.0) (edge, item)
                (nodes_of_each groups ++ nodes_in others) s.1,
            keeps_each groups below.0,
            keeps_in others below.1,
          )

      keeps_each : {items : List Item} {entries : List Entry}
          (trees : EachBridged rules items entries)
          → Suit (leaves_of_each trees) (nodes_of_each trees) → KeepsEach choice trees
      keeps_each none s = tt
      keeps_each (each first rest) s =
          let parts = suit_parts (leaves first) (leaves_of_each rest) (nodes first)
          (nodes_of_each rest) s in
          (keeps first parts.0, keeps_each rest parts.1)

      keeps_in : {inner : List Entry} {items : List Item}
          (trees : EachBridgedIn rules inner items) → Suit (leaves_in trees) (nodes_in trees)
          → KeepsIn choice trees
      keeps_in none_in s = tt
      keeps_in (each_in first rest) s =
          let parts = suit_parts (leaves first) (leaves_in rest) (nodes first) (nodes_in rest) s in
          (keeps first parts.0, keeps_in rest parts.1)

  -- ---- at an address

  abbrev pub SuitsHeld : Option (Held Item Entry) → Type 0
  SuitsHeld None = Unit {0}
  SuitsHeld (Some h) = Suit h.leaves h.nodes

  either : (a b : Option (Held Item Entry)) → SuitsHeld a → SuitsHeld b → SuitsHeld (option_or a b)
  either None b h k = k
  either (Some a) b h k = h

  from_first : (a b : Option (Held Item Entry)) → SuitsHeld (option_or a b) → SuitsHeld a
  from_first None b h = tt
  from_first (Some a) b h = h

  from_second : (a b : Option (Held Item Entry)) → (a ≡ None) ⊎ (b ≡ None)
      → SuitsHeld (option_or a b) → SuitsHeld b
  from_second a b (inl e) h = subst (λ o. SuitsHeld (option_or o b)) e h
  from_second a b (inr e) h = subst SuitsHeld (sym e) tt

  nobody_there : (at : Address) (x : Item) (items : List Item) → is_there at x ≡ true
      → All (λ y. ¬ (x.at ≡ y.at)) items → find (is_there at) items ≡ None
  nobody_there at x [] e h = refl
  nobody_there at x (y ∷ ys) e h =
      step (is_there at y) refl
      (nobody_there at x ys e (All-tail (λ y. ¬ (x.at ≡ y.at)) y ys h))
    where
      step : (b : Bool) → is_there at y ≡ b → find (is_there at) ys ≡ None
          → cond b (Some y) (find (is_there at) ys) ≡ None
      step false f rest = rest
      step true f rest =
          absurd (All-head (λ y. ¬ (x.at ≡ y.at)) y ys h
          ((address_eq-Decides x.at at).0 e ∙ sym ((address_eq-Decides y.at at).0 f)))

  module _ {rules : Rules Item Entry} (at : Address) where
    suits_at_each : {items : List Item} {entries : List Entry}
        (trees : EachBridged rules items entries) → KeepsAtEach choice at trees
        → SuitsHeld (held_at_each at trees)
    unfolding KeepsAtEach held_at_each
    suits_at_each none k = tt
    suits_at_each (each {item} first rest) k =
        step (is_there at item) refl (suits_at_each rest k.1)
      where
        step : (b : Bool) → is_there at item ≡ b → SuitsHeld (held_at_each at rest)
            → SuitsHeld (cond b (Some (held first)) (held_at_each at rest))
        step true e later = suits first (k.0 ((address_eq-Decides item.at at).0 e))
        step false e later = later

    suits_at_in : {inner : List Entry} {items : List Item}
        (trees : EachBridgedIn rules inner items) → KeepsAtIn choice at trees
        → SuitsHeld (held_at_in at trees)
    unfolding KeepsAtIn held_at_in
    suits_at_in none_in k = tt
    suits_at_in (each_in {inner} {item} first rest) k =
        step (is_there at item) refl (suits_at_in rest k.1)
      where
        step : (b : Bool) → is_there at item ≡ b → SuitsHeld (held_at_in at rest)
            → SuitsHeld (cond b (Some (put_held rules inner item (held first))) (held_at_in at rest))
        step true e later = suits first (k.0 ((address_eq-Decides item.at at).0 e))
        step false e later = later

    keeps_at_each : {items : List Item} {entries : List Entry}
        (trees : EachBridged rules items entries) → AreAlone items
        → SuitsHeld (held_at_each at trees) → KeepsAtEach choice at trees
    unfolding KeepsAtEach held_at_each
    keeps_at_each none alone s = tt
    keeps_at_each (each {item} {items} first rest) alone s =
        step (is_there at item) refl s (λ t. keeps_at_each rest alone.1 t)
      where
        step : (b : Bool) → is_there at item ≡ b
            → SuitsHeld (cond b (Some (held first)) (held_at_each at rest))
            → (SuitsHeld (held_at_each at rest) → KeepsAtEach choice at rest)
            → (item.at ≡ at → KeepsChoices choice first) × KeepsAtEach choice at rest
        step true e s later = (
          λ _. keeps first s,
          later (subst SuitsHeld (sym (none_at_each at rest (nobody_there at item items e alone.0)))
              tt),
        )
        step false e s later = (
          λ f. absurd (true≢false (sym ((address_eq-Decides item.at at).1 f) ∙ e)),
          later s,
        )

    keeps_at_in : {inner : List Entry} {items : List Item}
        (trees : EachBridgedIn rules inner items) → AreAlone items
        → SuitsHeld (held_at_in at trees) → KeepsAtIn choice at trees
    unfolding KeepsAtIn held_at_in
    keeps_at_in none_in alone s = tt
    keeps_at_in (each_in {inner} {item} {items} first rest) alone s =
        step (is_there at item) refl s (λ t. keeps_at_in rest alone.1 t)
      where
        step : (b : Bool) → is_there at item ≡ b
            → SuitsHeld (cond b (Some (put_held rules inner item (held first))) (held_at_in at rest))
            → (SuitsHeld (held_at_in at rest) → KeepsAtIn choice at rest)
            → (item.at ≡ at → KeepsChoices choice first) × KeepsAtIn choice at rest
        step true e s later = (
          λ _. keeps first s,
          later (subst SuitsHeld (sym (none_at_in at rest (nobody_there at item items e alone.0)))
              tt),
        )
        step false e s later = (
          λ f. absurd (true≢false (sym ((address_eq-Decides item.at at).1 f) ∙ e)),
          later s,
        )

-- ---- what stays isn't touched

-- a group names its own variables alone
group_names : (item : Item) (v : Address) → is_group item.body ≡ true
    → ¬ (Miss (functions_of item.body) v) → HasOwn v item
group_names item v group mentions = by (contains_or_not (variables_of item.body) v)
  where
    misses : (b : Body) → is_group b ≡ true → ¬ (Contains (variables_of b) v)
        → Miss (functions_of b) v
    misses (Group set vars) e n = variables_miss vars v (avoids vars v n)
    misses (Free vars) e n = variables_miss vars v (avoids vars v n)
    misses _ e n = cc

    by : Contains (variables_of item.body) v ⊎ (¬ (Contains (variables_of item.body) v))
        → HasOwn v item
    by (inl c) = c
    by (inr n) = absurd (mentions (misses item.body group n))

module _ {setting next : Setting} {model after : ModelValue} (sound : IsValidUnder setting model)
    (sound_after : IsValidUnder next after)
    (old : FreshBridging setting model) (new : FreshBridging next after)
    (at : Address) (stays : StaysAt old new at) where
  names_stay : (var : Address) → Mentions model at var
      → expression_of old var ≡ expression_of new var
  names_stay var (item, is, mentions) = by (is_group item.body) refl
    where
      by : (b : Bool) → is_group item.body ≡ b → expression_of old var ≡ expression_of new var
      by false e = stays.agree item is e var mentions
      by true e =
          let mine = group_names item var e mentions in
          expression_held sound old var at item (in_groups model at item is e) mine
          ∙ ap (λ o. expressed_at o var) (holds_alike old new at stays)
          ∙ sym (expression_held sound_after new var at item
          (in_groups after at item (sym stays.same ∙ is) e) mine)

  group_or_other : {setting : Setting} {model : ModelValue} → IsValidUnder setting model
      → (bridging : FreshBridging setting model)
      → (held_at_each at bridging.made.groups ≡ None) ⊎ (held_at_in at bridging.made.others ≡ None)
  group_or_other {setting} {model} sound bridging =
      by (find (is_there at) (model_image model).others) refl
    where
      by : (o : Option Item) → find (is_there at) (model_image model).others ≡ o
          → (held_at_each at bridging.made.groups ≡ None)
          ⊎ (held_at_in at bridging.made.others ≡ None)
      by None e = inr (none_at_in at bridging.made.others e)
      by (Some c) e =
          let here : c.at ≡ at = (address_eq-Decides c.at at).0
          (found_passes (is_there at) (model_image model).others c e) in
          inl (none_at_each at bridging.made.groups
          (subst (λ a. find (is_there a) (model_image model).groups ≡ None) here
          (found_is (λ c. find (is_there c.at) (model_image model).groups ≡ None) (is_there at)
          (model_image model).others c
          (no_groups setting sound.costly sound.lawful model sound.valid bridging) e)))

  chooses_back : ChoosesAlike new old at
  chooses_back =
      let suits = subst (SuitsHeld (choice_of_item old.choice)) (holds_alike old new at stays)
      (either (choice_of_item old.choice) (held_at_each at old.made.groups)
      (held_at_in at old.made.others)
      (suits_at_each (choice_of_item old.choice) at old.made.groups
      (keeps_own_each at old.made.groups))
      (suits_at_in (choice_of_item old.choice) at old.made.others
      (keeps_own_in at old.made.others))) in record {
        groups = keeps_at_each (choice_of_item old.choice) at new.made.groups
            (groups_alone sound_after new)
            (from_first (choice_of_item old.choice) (held_at_each at new.made.groups)
            (held_at_in at new.made.others) suits);
        others = keeps_at_in (choice_of_item old.choice) at new.made.others
            (others_alone sound_after new)
            (from_second (choice_of_item old.choice) (held_at_each at new.made.groups)
            (held_at_in at new.made.others) (group_or_other sound_after new) suits);
      }

  pub stays_untouched : ¬ (IsTouched old new at)
  stays_untouched (differs n) = n stays.same
  stays_untouched (named var (inl m) n) = n (names_stay var m)
  stays_untouched (named var (inr m) n) =
      n (names_stay var (m.0, stays.same ∙ m.1, m.2))
  stays_untouched (chosen (inl n)) = n stays.alike
  stays_untouched (chosen (inr n)) = n chooses_back

-- ---- so what is found, if each is touched and each other stays, are the touched ones

module _ {setting next : Setting} {model after : ModelValue} (sound : IsValidUnder setting model)
    (sound_after : IsValidUnder next after)
    (old : FreshBridging setting model) (new : FreshBridging next after)
    (found : List Address) (distinct : IsDistinct address_eq found)
    (touched : All (IsTouched old new) found)
    (others : (at : Address) → ¬ (Contains found at) → StaysAt old new at) where
  pub found_exactly : IsCountOf (IsTouched old new) (length found)
  found_exactly = record {
    addresses = found;
    distinct = distinct;
    each = λ at. (
      λ c. All-contains (IsTouched old new) found at touched c,
      λ t. by at t (contains_or_not found at),
    );
    count = refl;
  }
    where
      by : (at : Address) → IsTouched old new at → Contains found at ⊎ (¬ (Contains found at))
          → Contains found at
      by at t (inl c) = c
      by at t (inr n) = absurd (stays_untouched sound sound_after old new at (others at n) t)
