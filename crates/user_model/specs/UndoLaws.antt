-- An undo that lists exactly what differs leads back.
use Rattle.std.specs.Prelude.{◌≡◌, ℕ, List, Option, Some, None, unwrap_or, refl}
use Rattle.std.specs.Option.{option_map_or}
use Rattle.std.proofs.Common.{sym, ◌∙◌, ap, subst}
use Rattle.std.proofs.lemmas.List.Elements.{All-contains, All-weaker}
use Rattle.numbered_list.specs.declared.change.Change.{Change}
use Rattle.numbered_list.specs.Numbered.{IsAt, Rise, find}
use Rattle.numbered_list.specs.Changes.{AreChanges, changed_number, set_all}
use Rattle.numbered_list.specs.Laws.{Contains-found, IsAt-find, number_of_found, same_lists}
use Rattle.numbered_list.specs.ChangeLaws.{Rise-set_all, find-set_all}
use Rattle.user_model.specs.declared.objective.Objective.{Objective}
use Rattle.user_model.specs.declared.undo.Undo.{Undo}
use Rattle.user_model.specs.Model.{ModelValue}
use Rattle.user_model.specs.Edited.{group_number, row_number}
use Rattle.user_model.specs.Undone.{IsOldObjective, IsUndo, AreDifferences, before}

module _ {X : Type 0} (number_of : X → ℕ) (old new : List X) (changes : List (Change X))
    (h : AreDifferences number_of old new changes) where
  pub are_changes : AreChanges number_of changes
  are_changes = record {
    rising = h.rising;
    own = All-weaker (λ c. c.content ≡ find number_of c.number old)
        (λ c. IsAt number_of c.number c.content) (λ c e. subst (IsAt number_of c.number) (sym e)
        (IsAt-find number_of c.number old)) changes h.contents;
  }

  same_found : (n : ℕ) → find number_of n (set_all number_of changes new) ≡ find number_of n old
  same_found n = find-set_all number_of n changes new are_changes
      ∙ by_change (find changed_number n changes) refl
    where
      by_change : (o : Option (Change X)) → find changed_number n changes ≡ o
          → option_map_or (λ c. c.content) o (find number_of n new) ≡ find number_of n old
      by_change None e = sym (h.all n e)
      by_change (Some c) e =
          All-contains (λ c. c.content ≡ find number_of c.number old) changes c h.contents
          (Contains-found changed_number n c changes e)
          ∙ ap (λ k. find number_of k old) (number_of_found changed_number n c changes e)

  pub lists_back : Rise number_of old → Rise number_of new → set_all number_of changes new ≡ old
  lists_back rise_old rise_new = same_lists number_of (set_all number_of changes new) old
      (Rise-set_all number_of changes new are_changes rise_new) rise_old same_found

objective_back : (old new : Objective) (content : Option Objective) → IsOldObjective old new content
    → unwrap_or content new ≡ old
objective_back old new None e = sym e
objective_back old new (Some content) e = e.0

-- the undo leads back to the model before
pub undone : (old new : ModelValue) (undo : Undo) → Rise group_number old.groups
    → Rise group_number new.groups → Rise row_number old.rows → Rise row_number new.rows
    → IsUndo old new undo → before new undo ≡ old
undone old new undo groups groups_new rows rows_new h = λ i. record {
  groups = lists_back group_number old.groups new.groups undo.groups h.groups groups groups_new i;
  rows = lists_back row_number old.rows new.rows undo.rows h.rows rows rows_new i;
  objective = objective_back old.objective new.objective undo.objective h.objective i;
  next = h.next i;
}
