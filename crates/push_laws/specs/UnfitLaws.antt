-- Where the given groups fit, the first item that doesn't is the first of the found rows and the
-- objective that doesn't as it is planned, and without one the whole bridging is made.
use Rattle.std.specs.Prelude.{◌≡◌, ◌&&◌, Bool, true, false, cond, not, List, [], ◌∷◌, Contains, find, Option, Some, None, refl}
use Rattle.std.specs.List.{list_all}
use Rattle.std.specs.Option.{option_map, option_or}
use Rattle.std.proofs.Common.{sym, ap, ap₂, ◌∙◌, true≢false}
use Rattle.std.proofs.lemmas.List.Elements.{All-contains_itself, All-weaker}
use Rattle.std.proofs.lemmas.List.Folds.{find-append}
use Rattle.std.proofs.lemmas.Option.{none-some}
use Rattle.aff_core.specs.Address.{Address}
use Rattle.push_laws.specs.Edits.{AreChanging, AttachedEdit, IsSearch, IsStandingFor, choice_here, groups_now, old_here, setting_here, sound_before, sound_behind}
use Rattle.push_laws.specs.FurtherLaws.{agree_here}
use Rattle.push_laws.specs.PlannedLaws.{found_are, found_items, groups_planned, new_choice, others_stay}
use Rattle.fresh_bridging.specs.Entries.{Entry}
use Rattle.fresh_bridging.specs.FreshBridging.{FreshBridging, is_made, unfit_at}
use Rattle.fresh_bridging.specs.ModelImage.{items_of}
use Rattle.item_core.specs.declared.item.Item.{Item}
use Rattle.leaf_update.specs.LeavesLaws.{among_contained}
use Rattle.local_laws.specs.FittingLaws.{first_of_kept, made_is, unfit_is}
use Rattle.local_laws.specs.Held.{fits_at}
use Rattle.local_laws.specs.Stays.{StaysAt}
use Rattle.model_bridging.specs.Found.{found_others}
use Rattle.model_bridging.specs.ModelHeld.{unfit, unfit_put}
use Rattle.model_bridging.specs.PlanOutcome.{IsFirstAt}
use Rattle.push_laws.specs.HandedLaws.{is_found}
use Rattle.push_laws.specs.PlanLaws.{groups_unfit, others_unfit}
use Rattle.user_model.specs.declared.objective.Objective.{Objective}
use Rattle.user_model.specs.declared.row.Row.{Row}
use Rattle.item_core.specs.Kind.{kind_count}

-- none of the items fails the test
pub none_fails : (p : Item → Bool) (items : List Item) → find (λ i. not (p i)) items ≡ None
    → list_all p items ≡ true
none_fails p [] e = refl
none_fails p (x ∷ xs) e = by (p x) e (none_fails p xs)
  where
    by : (b : Bool) → cond (not b) (Some x) (find (λ i. not (p i)) xs) ≡ None
        → (find (λ i. not (p i)) xs ≡ None → list_all p xs ≡ true)
        → (b && list_all p xs) ≡ true
    by true f later = later f
    by false f later = absurd (none-some x (sym f))

pub not_there : (o : Option Item) → option_map (λ (i : Item). i.at) o ≡ None → o ≡ None
not_there None e = refl
not_there (Some i) e = absurd (none-some i.at (sym e))

module _ (e : AttachedEdit) (new : FreshBridging (setting_here e) e.after)
    (standing : List Entry) (changed addresses : List Address) (rows : List Row)
    (objective : Option Objective) (search : IsSearch e changed addresses rows objective)
    (changing : AreChanging e standing changed)
    (further : List Entry) (stands : IsStandingFor e standing rows objective further) where
  abbrev Unfit : Item → Bool
  Unfit i = not (fits_at new i.at)

  first_found : unfit_at new
      ≡ option_map (λ (i : Item). i.at) (unfit_put (choice_here e) kind_count further
      (found_others rows objective))
  first_found =
      first_of_kept (sound_before e) (sound_behind e) (old_here e) new e.held.made
      (is_found addresses)
      (All-weaker (Contains (items_of e.after)) (λ i. is_found addresses i ≡ false → StaysAt (old_here e) new i.at)
      (λ i c out. others_stay e new standing changed addresses rows objective search changing i.at
      (λ k. true≢false (sym (among_contained i.at addresses k) ∙ out)))
      (items_of e.after) (All-contains_itself (items_of e.after)))
      ∙ ap (option_map (λ (i : Item). i.at))
      (ap (find Unfit) (found_items e changed addresses rows objective search)
      ∙ find-append Unfit (groups_now e) (found_others rows objective)
      ∙ ap₂ option_or
      (groups_unfit new (groups_now e)
      (groups_planned e changed addresses rows objective search new)
      ∙ ap (λ c. unfit c kind_count (groups_now e))
      (new_choice e changed addresses rows objective search new)
      ∙ changing.fit)
      (others_unfit new further (found_others rows objective)
      (found_are e new standing changed addresses rows objective search changing further stands
      (agree_here e new standing changed addresses rows objective search changing further stands))
      ∙ ap (λ c. unfit_put c kind_count further (found_others rows objective))
      (new_choice e changed addresses rows objective search new)))

  pub unfit_others : (at : Address)
      → IsFirstAt (unfit_put (choice_here e) kind_count further (found_others rows objective)) at
      → unfit_at new ≡ Some at
  unfit_others at first = first_found ∙ first

  pub made_where_fit : unfit_put (choice_here e) kind_count further (found_others rows objective) ≡ None
      → is_made new ≡ true
  made_where_fit fit =
      made_is (sound_behind e) new
      ∙ none_fails (λ i. fits_at new i.at) (items_of e.after)
      (not_there (find Unfit (items_of e.after))
      (sym (unfit_is (sound_behind e) new) ∙ first_found
      ∙ ap (option_map (λ (i : Item). i.at)) fit))
