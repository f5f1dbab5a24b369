-- An item that a change doesn't touch holds what it held: the same leaves and nodes, the same
-- expressions of its components, and its numbers fit as before.
use Rattle.std.specs.Prelude.{◌≡◌, Bool, true, false, ◌&&◌, cond, List, [], ◌∷◌, All, Option, Some, None, find, map, refl}
use Rattle.std.proofs.Common.{inl, sym, ap, ap₂, subst, ◌∙◌, true≢false}
use Rattle.std.specs.Option.{option_or}
use Rattle.std.proofs.lemmas.List.Elements.{All-append, All-cons, All-head, All-map, All-nil, All-tail}
use Rattle.std.proofs.lemmas.List.Folds.{find-append}
use Rattle.std.proofs.lemmas.Option.{none-some, same_Some}
use Rattle.aff_core.specs.Address.{Address}
use Rattle.expansion.specs.Bridged.{Bridged}
use Rattle.expansion.specs.Grown.{Held}
use Rattle.expansion.specs.GrownLaws.{held, held_once}
use Rattle.expansion.specs.KeptLaws.{rebridged}
use Rattle.expansion.specs.Rules.{Rules}
use Rattle.item_core.specs.declared.item.Item.{Item}
use Rattle.item_core.specs.Item.{is_group}
use Rattle.user_model.specs.Model.{ModelValue}
use Rattle.user_model.specs.declared.group.Group.{Group as UserGroup}
use Rattle.user_model.specs.declared.objective.Objective.{Objective}
use Rattle.user_model.specs.declared.objective.Objective.TheVariants as objective
use Rattle.user_model.specs.declared.function.UserFunc.{UserFunc}
use Rattle.user_model.specs.declared.function.UserFunc.TheVariants.{Plain, Affine, PlainVec, AffineVec}
use Rattle.user_model.specs.declared.row.Row.{Row}
use Rattle.set_core.specs.declared.set.Set.{Set}
use Rattle.fresh_bridging.specs.Entries.{Entry, put_in}
use Rattle.fresh_bridging.specs.FreshBridging.{FreshBridging, expression_of}
use Rattle.fresh_bridging.specs.ModelImage.{group_item, model_image, objective_items, row_body, row_item}
use Rattle.fresh_bridging.specs.TheRules.{Setting, rules_by}
use Rattle.fresh_bridging.specs.Touched.{ChoosesAlike, IsTouched, choice_of_item, chosen, differs, item_at, named}
use Rattle.local_laws.specs.AgreeingLaws.{fits_agreeing, put_in_agreeing}
use Rattle.local_laws.specs.Held.{held_at_each, held_at_in, held_of, is_there}
use Rattle.local_laws.specs.HeldLaws.{IsHeldIn, IsHeldTree, held_each_at, held_in_at, keeps_own_each, keeps_own_in, none_at_each, none_at_in, stand_at_each, stand_at_in}
use Rattle.local_laws.specs.SettledLaws.{settled_expression, settled_item, settled_option}
use Rattle.local_laws.specs.Stays.{AgreeOn, StaysAt}

-- nothing is held where no item stands
pub none_held : {setting : Setting} {model : ModelValue} (bridging : FreshBridging setting model)
    (at : Address) → item_at model at ≡ None → held_of bridging at ≡ None
none_held {model = model} bridging at e =
    by (find (is_there at) (model_image model).groups) refl
    (sym (find-append (is_there at) (model_image model).groups (model_image model).others) ∙ e)
  where
    by : (o : Option Item) → find (is_there at) (model_image model).groups ≡ o
        → option_or (find (is_there at) (model_image model).groups)
        (find (is_there at) (model_image model).others) ≡ None → held_of bridging at ≡ None
    by (Some x) f g =
        absurd (none-some x (sym (ap (λ o. option_or o
        (find (is_there at) (model_image model).others)) (sym f) ∙ g)))
    by None f g =
        ap₂ option_or (none_at_each at bridging.made.groups f)
        (none_at_in at bridging.made.others
        (ap (λ o. option_or o (find (is_there at) (model_image model).others)) (sym f) ∙ g))

-- ---- groups are no rows

pub found_is : (P : Item → Type 0) (p : Item → Bool) (items : List Item) (item : Item) → All P items
    → find p items ≡ Some item → P item
found_is P p [] item h f = absurd (none-some item f)
found_is P p (x ∷ xs) item h f =
    step (p x) f (All-head P x xs h) (λ g. found_is P p xs item (All-tail P x xs h) g)
  where
    step : (b : Bool) → cond b (Some x) (find p xs) ≡ Some item → P x
        → (find p xs ≡ Some item → P item) → P item
    step true g here later = subst P (same_Some x item g) here
    step false g here later = later g

pub groups_are : (model : ModelValue) → All (λ i. is_group i.body ≡ true) (model_image model).groups
groups_are model = All-map (λ i. is_group i.body ≡ true) group_item model.groups (each model.groups)
  where
    each : (gs : List UserGroup) → All (λ g. is_group (group_item g).body ≡ true) gs
    each [] = All-nil (λ g. is_group (group_item g).body ≡ true)
    each (g ∷ gs) = All-cons (λ g. is_group (group_item g).body ≡ true) g gs refl (each gs)

row_is : (func : UserFunc) (set : Set) → is_group (row_body func set) ≡ false
row_is (Plain var) set = refl
row_is (Affine func) set = refl
row_is (PlainVec vars) set = refl
row_is (AffineVec funcs) set = refl

pub others_are : (model : ModelValue) → All (λ i. is_group i.body ≡ false) (model_image model).others
others_are model =
    All-append (λ i. is_group i.body ≡ false) (map row_item model.rows)
    (objective_items model.objective)
    (All-map (λ i. is_group i.body ≡ false) row_item model.rows (each model.rows))
    (last model.objective)
  where
    each : (rs : List Row) → All (λ r. is_group (row_item r).body ≡ false) rs
    each [] = All-nil (λ r. is_group (row_item r).body ≡ false)
    each (r ∷ rs) =
        All-cons (λ r. is_group (row_item r).body ≡ false) r rs (row_is r.func r.set) (each rs)

    last : (o : Objective) → All (λ i. is_group i.body ≡ false) (objective_items o)
    last objective.Feasibility = All-nil (λ i. is_group i.body ≡ false)
    last (objective.Plain sense var) =
        All-cons (λ i. is_group i.body ≡ false) _ [] refl (All-nil (λ i. is_group i.body ≡ false))
    last (objective.Affine sense func) =
        All-cons (λ i. is_group i.body ≡ false) _ [] refl (All-nil (λ i. is_group i.body ≡ false))

-- ---- one item, and choices that agree

module _ {rules : Rules Item Entry} where
  pub held_once_at : (x y : Item) {es fs : List Entry} → x ≡ y → (tree : Bridged rules x es)
      (other : Bridged rules y fs) → held tree ≡ held other
  held_once_at x y {es} {fs} e tree =
      subst (λ z. (other : Bridged rules z fs) → held tree ≡ held other) e
      (λ other. held_once tree other)

module _ (choice next : _) where
  module _ (item : Item) (found behind : Option (Held Item Entry)) where
    each_same : IsHeldTree (rules_by choice) (choice_of_item next) item found
        → IsHeldTree (rules_by next) (choice_of_item next) item behind → found ≡ behind
    each_same h k =
        let again = rebridged (choice_of_item next) h.tree h.keeps in
        h.is ∙ ap Some (sym again.1 ∙ held_once_at {rules = rules_by next} item item refl again.0
        k.tree) ∙ sym k.is

    module _ (es fs : List Entry) (agree : AgreeOn es fs item.body) where
      in_same : IsHeldIn (rules_by choice) (choice_of_item next) es item found
          → IsHeldIn (rules_by next) (choice_of_item next) fs item behind → found ≡ behind
      in_same h k =
          let again = rebridged (choice_of_item next) h.tree h.keeps in
          let same = sym again.1 ∙ held_once_at {rules = rules_by next} (put_in es item)
          (put_in fs item) (put_in_agreeing es fs item agree) again.0 k.tree in
          h.is
          ∙ (λ i. Some (with_fits (fits_agreeing es fs item agree i) (same i)))
          ∙ sym k.is
        where
          with_fits : Bool → Held Item Entry → Held Item Entry
          with_fits b held = record held { entries = []; fits = b && held.fits }

-- ---- the change

module _ {setting next : Setting} {model after : ModelValue}
    (old : FreshBridging setting model) (new : FreshBridging next after) (at : Address) where
  pub same_item : ¬ (IsTouched old new at) → item_at model at ≡ item_at after at
  same_item untouched =
      settled_option settled_item (item_at model at) (item_at after at)
      (λ n. untouched (differs n))

  pub choices_stay : ¬ (¬ (ChoosesAlike old new at)) → ChoosesAlike old new at
  choices_stay h = record {
    groups = stand_at_each (choice_of_item new.choice) at old.made.groups
        (λ n. h (λ c. n c.groups));
    others = stand_at_in (choice_of_item new.choice) at old.made.others
        (λ n. h (λ c. n c.others));
  }

  pub untouched_stays : ¬ (IsTouched old new at) → StaysAt old new at
  untouched_stays untouched = record {
    same = same_item untouched;
    alike = choices_stay (λ n. untouched (chosen (inl n)));
    agree = λ item is other v mentions.
        settled_expression (expression_of old v) (expression_of new v)
        (λ n. untouched (named v (inl (item, is, mentions)) n));
  }

module _ {setting next : Setting} {model after : ModelValue}
    (old : FreshBridging setting model) (new : FreshBridging next after)
    (at : Address) (stays : StaysAt old new at) where
  pub holds_alike : held_of old at ≡ held_of new at
  holds_alike =
      by (find (is_there at) (model_image model).groups)
      (find (is_there at) (model_image model).others)
      (find (is_there at) (model_image after).groups)
      (find (is_there at) (model_image after).others) refl refl refl refl
      (sym (find-append (is_there at) (model_image model).groups (model_image model).others)
      ∙ stays.same
      ∙ find-append (is_there at) (model_image after).groups (model_image after).others)
    where
      clash : (x y : Item) → find (is_there at) (model_image model).groups ≡ Some x
          → find (is_there at) (model_image after).others ≡ Some y → x ≡ y → ⊥
      clash x y f g e =
          true≢false (sym (found_is (λ i. is_group i.body ≡ true) (is_there at)
          (model_image model).groups x (groups_are model) f)
          ∙ ap (λ (i : Item). is_group i.body) e
          ∙ found_is (λ i. is_group i.body ≡ false) (is_there at) (model_image after).others y
          (others_are after) g)

      clash_back : (x y : Item) → find (is_there at) (model_image model).others ≡ Some x
          → find (is_there at) (model_image after).groups ≡ Some y → x ≡ y → ⊥
      clash_back x y f g e =
          true≢false (sym (found_is (λ i. is_group i.body ≡ true) (is_there at)
          (model_image after).groups y (groups_are after) g)
          ∙ ap (λ (i : Item). is_group i.body) (sym e)
          ∙ found_is (λ i. is_group i.body ≡ false) (is_there at) (model_image model).others x
          (others_are model) f)

      in_model : (x : Item) → find (is_there at) (model_image model).others ≡ Some x
          → find (is_there at) (model_image model).groups ≡ None → item_at model at ≡ Some x
      in_model x f g =
          find-append (is_there at) (model_image model).groups (model_image model).others
          ∙ ap₂ option_or g f

      first_same : (x : Item) → find (is_there at) (model_image model).groups ≡ Some x
          → find (is_there at) (model_image after).groups ≡ Some x → held_of old at ≡ held_of new at
      first_same x f g =
          let before = held_each_at (choice_of_item new.choice) at old.made.groups stays.alike.groups x f
          in
          let behind = held_each_at (choice_of_item new.choice) at new.made.groups
          (keeps_own_each at new.made.groups) x g in
          ap (λ o. option_or o (held_at_in at old.made.others)) before.is
          ∙ sym before.is
          ∙ each_same old.choice new.choice x (held_at_each at old.made.groups)
          (held_at_each at new.made.groups) before behind
          ∙ behind.is
          ∙ sym (ap (λ o. option_or o (held_at_in at new.made.others)) behind.is)

      only_others : {setting : Setting} {model : ModelValue} (b : FreshBridging setting model)
          → find (is_there at) (model_image model).groups ≡ None
          → held_of b at ≡ held_at_in at b.made.others
      only_others b f =
          ap (λ o. option_or o (held_at_in at b.made.others)) (none_at_each at b.made.groups f)

      second_same : (x : Item) → find (is_there at) (model_image model).groups ≡ None
          → find (is_there at) (model_image model).others ≡ Some x
          → find (is_there at) (model_image after).groups ≡ None
          → find (is_there at) (model_image after).others ≡ Some x
          → held_of old at ≡ held_of new at
      second_same x f g h k =
          only_others old f
          ∙ in_same old.choice new.choice x (held_at_in at old.made.others)
          (held_at_in at new.made.others) old.made.entries new.made.entries
          (stays.agree x (in_model x g f) (found_is (λ i. is_group i.body ≡ false) (is_there at)
          (model_image model).others x (others_are model) g))
          (held_in_at (choice_of_item new.choice) at old.made.others stays.alike.others x g)
          (held_in_at (choice_of_item new.choice) at new.made.others
          (keeps_own_in at new.made.others) x k)
          ∙ sym (only_others new h)

      by : (a b c d : Option Item) → find (is_there at) (model_image model).groups ≡ a
          → find (is_there at) (model_image model).others ≡ b
          → find (is_there at) (model_image after).groups ≡ c
          → find (is_there at) (model_image after).others ≡ d
          → option_or a b ≡ option_or c d → held_of old at ≡ held_of new at
      by (Some x) b (Some y) d f g h k e =
          first_same x f (h ∙ sym e)
      by (Some x) b None (Some y) f g h k e = absurd (clash x y f k (same_Some x y e))
      by (Some x) b None None f g h k e = absurd (none-some x (sym e))
      by None (Some x) (Some y) d f g h k e = absurd (clash_back x y g h (same_Some x y e))
      by None None (Some y) d f g h k e = absurd (none-some y e)
      by None (Some x) None (Some y) f g h k e = second_same x f g h (k ∙ sym e)
      by None (Some x) None None f g h k e = absurd (none-some x (sym e))
      by None None None (Some y) f g h k e = absurd (none-some y e)
      by None None None None f g h k e =
          only_others old f ∙ none_at_in at old.made.others g
          ∙ sym (none_at_in at new.made.others k) ∙ sym (only_others new h)

pub untouched_holds : {setting next : Setting} {model after : ModelValue}
    (old : FreshBridging setting model) (new : FreshBridging next after)
    (at : Address) → ¬ (IsTouched old new at) → held_of old at ≡ held_of new at
untouched_holds old new at untouched =
    holds_alike old new at (untouched_stays old new at untouched)
