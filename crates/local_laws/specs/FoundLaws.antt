-- What a search for the items that a change touches has to look at, where the table stays.
--
-- Each item that it finds is touched, and each other stays as it is: groups by their contents
-- alone, rows and the objective also by what stands for the variables that they name.
use Rattle.std.specs.Prelude.{◌≡◌, ◌≢◌, ◌⊎◌, ◌++◌, ℕ, Bool, true, false, cond, List, [], ◌∷◌, All, filter, find, map, Option, Some, None, refl}
use Rattle.std.proofs.Common.{inl, inr, sym, ap, subst, ◌∙◌, true≢false}
use Rattle.std.specs.Option.{option_or}
use Rattle.std.proofs.lemmas.List.Folds.{find-append}
use Rattle.std.proofs.lemmas.List.Elements.{All-cons, All-head, All-nil, All-tail}
use Rattle.std.proofs.lemmas.Option.{same_Some}
use Rattle.bridge_graph.specs.Hypergraph.{Hypergraph, IsCostly}
use Rattle.bridge_graph.specs.declared.Choice.{Choice}
use Rattle.bridge_graph.specs.declared.Choice.TheVariants.{By, Missing, Native}
use Rattle.bridge_graph.specs.Tree.{IsTreeless, by as by_edge, native}
use Rattle.expansion.specs.Bridged.{Bridged}
use Rattle.expansion.specs.Bridged as bridged
use Rattle.expansion.specs.Kept.{KeepsChoices}
use Rattle.aff_core.specs.Address.{Address, address_eq-Decides}
use Rattle.item_core.specs.declared.kind.Kind.{Kind}
use Rattle.map_laws.specs.EachLaws.{cons_head, cons_tail}
use Rattle.item_core.specs.declared.item.Item.{Item}
use Rattle.item_core.specs.Item.{is_group, variables_of}
use Rattle.item_core.specs.Kind.{kind_number}
use Rattle.item_core.specs.KindOf.{kind_of_body}
use Rattle.user_model.specs.Model.{ModelValue}
use Rattle.fresh_bridging.specs.Entries.{Entry, put_in}
use Rattle.fresh_bridging.specs.FreshBridging.{FreshBridging, HasTree, IsFirstTreeless, expression_of}
use Rattle.fresh_bridging.specs.ModelImage.{model_image}
use Rattle.fresh_bridging.specs.ChoiceLaws.{one_choice}
use Rattle.fresh_bridging.specs.TheRules.{AreChoices, IsChoice, Setting, graph_of}
use Rattle.fresh_bridging.specs.Touched.{ChoosesAlike, IsTouched, KeepsAtEach, KeepsAtIn, Mentions, choice_of_item, item_at, named}
use Rattle.local_laws.specs.AgreeingLaws.{put_in_agreeing}
use Rattle.local_laws.specs.ExpressedLaws.{expression_held, nobody_expresses}
use Rattle.local_laws.specs.FittingLaws.{AreAlone, groups_alone}
use Rattle.local_laws.specs.Held.{HasOwn, expressed_at, is_there}
use Rattle.local_laws.specs.HeldLaws.{held_each_at, held_in_at, keeps_own_each, keeps_own_in}
use Rattle.local_laws.specs.LookedLaws.{contains_or_not}
use Rattle.local_laws.specs.Sound.{IsValidUnder}
use Rattle.local_laws.specs.Stays.{AgreeOn, StaysAt}
use Rattle.local_laws.specs.StaysLaws.{found_is, groups_are, holds_alike, others_are}

-- ---- where the table stays

module _ {setting : Setting} {model after : ModelValue} (costly : IsCostly (graph_of setting))
    (old : FreshBridging setting model) (new : FreshBridging setting after) (at : Address) where
  choices_are : old.choice ≡ new.choice
  choices_are =
      λ i kind. one_choice (graph_of setting) costly kind (old.choice kind) (new.choice kind)
      (old.chosen kind) (new.chosen kind) i

  -- no choice is another
  pub chooses_alike : ChoosesAlike old new at
  chooses_alike =
      let keeps = subst KeepsBy choices_are
      (keeps_own_each at old.made.groups, keeps_own_in at old.made.others) in
      record { groups = keeps.0; others = keeps.1 }
    where
      KeepsBy : (ℕ → Choice) → Type 0
      KeepsBy c =
          KeepsAtEach (choice_of_item c) at old.made.groups
          × KeepsAtIn (choice_of_item c) at old.made.others

-- ---- groups

pub item_of_group : (model : ModelValue) (at : Address) (item : Item)
    → find (is_there at) (model_image model).groups ≡ Some item → item_at model at ≡ Some item
item_of_group model at item f =
    find-append (is_there at) (model_image model).groups (model_image model).others
    ∙ ap (λ o. option_or o (find (is_there at) (model_image model).others)) f

pub in_groups : (model : ModelValue) (at : Address) (item : Item) → item_at model at ≡ Some item
    → is_group item.body ≡ true → find (is_there at) (model_image model).groups ≡ Some item
in_groups model at item is group =
    by (find (is_there at) (model_image model).groups) refl
    (sym (find-append (is_there at) (model_image model).groups (model_image model).others) ∙ is)
  where
    by : (o : Option Item) → find (is_there at) (model_image model).groups ≡ o
        → option_or (find (is_there at) (model_image model).groups)
        (find (is_there at) (model_image model).others) ≡ Some item
        → find (is_there at) (model_image model).groups ≡ Some item
    by (Some x) f e =
        f ∙ sym (ap (λ o. option_or o (find (is_there at) (model_image model).others)) f) ∙ e
    by None f e =
        absurd (true≢false (sym group ∙ found_is (λ i. is_group i.body ≡ false) (is_there at)
        (model_image model).others item (others_are model)
        (sym (ap (λ o. option_or o (find (is_there at) (model_image model).others)) f) ∙ e)))

-- an item of these that passes, the first at its address, or none passes
passing_or_none : (P : Item → Type 0) (items : List Item) → AreAlone items
    → All (λ i. P i ⊎ (¬ (P i))) items
    → ((item : Item) × (find (is_there item.at) items ≡ Some item) × P item)
    ⊎ All (λ i. ¬ (P i)) items
passing_or_none P [] h test = inr (All-nil (λ i. ¬ (P i)))
passing_or_none P (x ∷ xs) h test =
    first (All-head (λ i. P i ⊎ (¬ (P i))) x xs test)
    (passing_or_none P xs h.1 (All-tail (λ i. P i ⊎ (¬ (P i))) x xs test))
  where
    here : find (is_there x.at) (x ∷ xs) ≡ Some x
    here = ap (λ b. cond b (Some x) (find (is_there x.at) xs)) ((address_eq-Decides x.at x.at).1 refl)

    other : (item : Item) (b : Bool) → is_there item.at x ≡ b
        → find (is_there item.at) xs ≡ Some item
        → cond b (Some x) (find (is_there item.at) xs) ≡ Some item
    other item false e f = f
    other item true e f =
        absurd (found_is (λ y. ¬ (x.at ≡ y.at)) (is_there item.at) xs item h.0 f
        ((address_eq-Decides x.at item.at).0 e))

    first : P x ⊎ (¬ (P x))
        → ((item : Item) × (find (is_there item.at) xs ≡ Some item) × P item)
        ⊎ All (λ i. ¬ (P i)) xs
        → ((item : Item) × (find (is_there item.at) (x ∷ xs) ≡ Some item) × P item)
        ⊎ All (λ i. ¬ (P i)) (x ∷ xs)
    first (inl m) rest = inl (x, here, m)
    first (inr n) (inl (item, f, m)) = inl (item, other item (is_there item.at x) refl f, m)
    first (inr n) (inr all) = inr (All-cons (λ i. ¬ (P i)) x xs n all)

own_tests : (v : Address) (items : List Item)
    → All (λ i. HasOwn v i ⊎ (¬ (HasOwn v i))) items
own_tests v [] = All-nil (λ i. HasOwn v i ⊎ (¬ (HasOwn v i)))
own_tests v (x ∷ xs) =
    All-cons (λ i. HasOwn v i ⊎ (¬ (HasOwn v i))) x xs (contains_or_not (variables_of x.body) v)
    (own_tests v xs)

module _ {setting next : Setting} {model after : ModelValue} (sound : IsValidUnder setting model)
    (sound_after : IsValidUnder next after)
    (old : FreshBridging setting model) (new : FreshBridging next after) where
  -- the group of a variable stays as it is
  pub record HasStayingGroup (v : Address) : Type 0 where
    pub before :
        (at : Address) (item : Item) → item_at model at ≡ Some item → is_group item.body ≡ true
        → HasOwn v item → StaysAt old new at
    pub behind :
        (at : Address) (item : Item) → item_at after at ≡ Some item → is_group item.body ≡ true
        → HasOwn v item → StaysAt old new at

  -- so what stands for the variable stays
  pub expression_stays : (v : Address) → HasStayingGroup v → expression_of old v ≡ expression_of new v
  expression_stays v h =
      by (passing_or_none (HasOwn v) (model_image model).groups (groups_alone sound old)
      (own_tests v (model_image model).groups))
      (passing_or_none (HasOwn v) (model_image after).groups (groups_alone sound_after new)
      (own_tests v (model_image after).groups))
    where
      group : (model : ModelValue) (at : Address) (item : Item)
          → find (is_there at) (model_image model).groups ≡ Some item → is_group item.body ≡ true
      group model at item f =
          found_is (λ i. is_group i.body ≡ true) (is_there at) (model_image model).groups item
          (groups_are model) f

      by : ((item : Item) × (find (is_there item.at) (model_image model).groups ≡ Some item)
          × HasOwn v item) ⊎ All (λ i. ¬ (HasOwn v i)) (model_image model).groups
          → ((item : Item) × (find (is_there item.at) (model_image after).groups ≡ Some item)
          × HasOwn v item) ⊎ All (λ i. ¬ (HasOwn v i)) (model_image after).groups
          → expression_of old v ≡ expression_of new v
      by (inl (g, f, m)) other =
          let is = item_of_group model g.at g f in
          let stays = h.before g.at g is (group model g.at g f) m in
          expression_held sound old v g.at g f m
          ∙ ap (λ o. expressed_at o v) (holds_alike old new g.at stays)
          ∙ sym (expression_held sound_after new v g.at g
          (in_groups after g.at g (sym stays.same ∙ is) (group model g.at g f)) m)
      by (inr n) (inl (g, f, m)) =
          let is = item_of_group after g.at g f in
          let stays = h.behind g.at g is (group after g.at g f) m in
          absurd (found_is (λ i. ¬ (HasOwn v i)) (is_there g.at) (model_image model).groups g n
          (in_groups model g.at g (stays.same ∙ is) (group after g.at g f)) m)
      by (inr n) (inr m) =
          nobody_expresses sound old v n ∙ sym (nobody_expresses sound_after new v m)

-- ---- what a search finds

module _ {setting : Setting} {model after : ModelValue} (costly : IsCostly (graph_of setting))
    (old : FreshBridging setting model) (new : FreshBridging setting after) where
  -- a row or an objective as it stood, with a variable that has another expression
  pub record IsNoted (at var : Address) : Type 0 where
    pub mentions : Mentions model at var
    pub changed : expression_of old var ≢ expression_of new var

  pub noted_touched : (at var : Address) → IsNoted at var → IsTouched old new at
  noted_touched at var h = named var (inl h.mentions) h.changed

  -- the same item, in which no variable has another expression, stays as it is
  pub unfound_stays : (at : Address) → item_at model at ≡ item_at after at
      → ((var : Address) → Mentions model at var → expression_of old var ≡ expression_of new var)
      → StaysAt old new at
  unfound_stays at same agree = record {
    same = same;
    alike = chooses_alike costly old new at;
    agree = λ item is other v mentions. agree v (item, is, mentions);
  }

  -- and a group does whatever it names
  pub unfound_group_stays : (at : Address) (item : Item) → item_at model at ≡ item_at after at
      → item_at model at ≡ Some item → is_group item.body ≡ true → StaysAt old new at
  unfound_group_stays at item same is group = record {
    same = same;
    alike = chooses_alike costly old new at;
    agree = λ other found no_group v mentions. absurd (true≢false (sym group
        ∙ ap (λ (i : Item). is_group i.body) (same_Some item other (sym is ∙ found)) ∙ no_group));
  }

-- ---- trees

module _ (next : Setting) (choice : ℕ → Choice) (chosen : AreChoices next choice) where
  chosen_tree : (item : Item) (c : Choice) → choice (kind_number (kind_of_body item.body)) ≡ c
      → ¬ (c ≡ Missing) → HasTree (graph_of next) item
  chosen_tree item c e some =
      by c some (subst (IsChoice (graph_of next) (kind_number (kind_of_body item.body))) e
      (chosen (kind_number (kind_of_body item.body))))
    where
      by : (c : Choice) → ¬ (c ≡ Missing)
          → IsChoice (graph_of next) (kind_number (kind_of_body item.body)) c
          → HasTree (graph_of next) item
      by Native some h = (0, native h)
      by (By edge) some h = (h.0, by_edge h.1.tree)
      by Missing some h = absurd (some refl)

  kept_has_tree : {rules : _} {item : Item} {entries : List Entry}
      (tree : Bridged rules item entries) → KeepsChoices (choice_of_item choice) tree
      → HasTree (graph_of next) item
  unfolding KeepsChoices
  kept_has_tree (bridged.natively {item} c) k = chosen_tree item Native k (λ e. cc)
  kept_has_tree (bridged.by {item} {edge} c groups others) k =
      chosen_tree item (By edge) k.0 (λ e. cc)

  module _ {setting : Setting} {model : ModelValue} (old : FreshBridging setting model)
      (at : Address) (item : Item) where
    -- a group that stands as it did has a tree, where the choices below it stay
    pub group_has_tree : find (is_there at) (model_image model).groups ≡ Some item
        → KeepsAtEach (choice_of_item choice) at old.made.groups → HasTree (graph_of next) item
    group_has_tree f k =
        let is = held_each_at (choice_of_item choice) at old.made.groups k item f in
        kept_has_tree is.tree is.keeps

    -- so has a row or an objective, where what stands for the variables that it names stays
    pub other_has_tree : (entries : List Entry)
        → find (is_there at) (model_image model).others ≡ Some item
        → KeepsAtIn (choice_of_item choice) at old.made.others
        → AgreeOn old.made.entries entries item.body
        → HasTree (graph_of next) (put_in entries item)
    other_has_tree entries f k agree =
        let is = held_in_at (choice_of_item choice) at old.made.others k item f in
        subst (HasTree (graph_of next)) (put_in_agreeing old.made.entries entries item agree)
        (kept_has_tree is.tree is.keeps)

-- where each item that is left out has a tree, the first without one is the first of the others
module _ (graph : Hypergraph) (keep : Item → Bool) (made : Item → Item) (kind : Kind) where
  abbrev pub IsTreeLeft : Item → Type 0
  IsTreeLeft i = keep i ≡ false → HasTree graph (made i)

  one_more : (x : Item) (items : List Item) → HasTree graph x → IsFirstTreeless graph items kind
      → IsFirstTreeless graph (x ∷ items) kind
  one_more x items tree h = record {
    before = x ∷ h.before;
    item = h.item;
    after = h.after;
    parts = ap (λ l. x ∷ l) h.parts;
    earlier = All-cons (HasTree graph) x h.before tree h.earlier;
    none = h.none;
    kind_is = h.kind_is;
  }

  pub first_treeless_of_kept : (items : List Item) → All IsTreeLeft items
      → IsFirstTreeless graph (map made (filter keep items)) kind
      → IsFirstTreeless graph (map made items) kind
  first_treeless_of_kept [] left h = h
  first_treeless_of_kept (x ∷ xs) left h =
      step (keep x) refl h
      (λ g. first_treeless_of_kept xs (All-tail IsTreeLeft x xs left) g)
    where
      split : (before : List Item) (item : Item) (after : List Item)
          → made x ∷ map made (filter keep xs) ≡ before ++ item ∷ after
          → All (HasTree graph) before → IsTreeless graph (kind_number (kind_of_body item.body))
          → kind ≡ kind_of_body item.body
          → (IsFirstTreeless graph (map made (filter keep xs)) kind
          → IsFirstTreeless graph (map made xs) kind)
          → IsFirstTreeless graph (made x ∷ map made xs) kind
      split [] item after e earlier none is later =
          let same = cons_head (made x) item (map made (filter keep xs)) after e in record {
            before = [];
            item = made x;
            after = map made xs;
            parts = refl;
            earlier = All-nil (HasTree graph);
            none = subst (λ (i : Item). IsTreeless graph (kind_number (kind_of_body i.body)))
                (sym same) none;
            kind_is = is ∙ ap (λ (i : Item). kind_of_body i.body) (sym same);
          }
      split (b ∷ bs) item after e earlier none is later =
          one_more (made x) (map made xs)
          (subst (HasTree graph)
          (sym (cons_head (made x) b (map made (filter keep xs)) (bs ++ item ∷ after) e))
          (All-head (HasTree graph) b bs earlier))
          (later (record {
            before = bs;
            item = item;
            after = after;
            parts = cons_tail (made x) b (map made (filter keep xs)) (bs ++ item ∷ after) e;
            earlier = All-tail (HasTree graph) b bs earlier;
            none = none;
            kind_is = is;
          }))

      step : (b : Bool) → keep x ≡ b
          → IsFirstTreeless graph (map made (cond b (x ∷ filter keep xs) (filter keep xs))) kind
          → (IsFirstTreeless graph (map made (filter keep xs)) kind
          → IsFirstTreeless graph (map made xs) kind)
          → IsFirstTreeless graph (made x ∷ map made xs) kind
      step true e h later = split h.before h.item h.after h.parts h.earlier h.none h.kind_is later
      step false e h later =
          one_more (made x) (map made xs) (All-head IsTreeLeft x xs left e) (later h)
