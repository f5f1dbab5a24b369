-- What undos list is what stood before them, where they lead back to it.
use Rattle.std.specs.Prelude.{◌≡◌, ◌==◌, ℕ, List, [], ◌∷◌, All, Contains, Option, Some, None, flat_map, unwrap_or, refl}
use Rattle.std.specs.Option.{option_map_or, option_or}
use Rattle.std.proofs.Common.{sym, ap, subst, ◌∙◌}
use Rattle.std.proofs.lemmas.List.Elements.{All-append, All-contains, All-contains_itself, All-nil, All-weaker}
use Rattle.std.proofs.lemmas.List.Folds.{find-append}
use Rattle.numbered_list.specs.Changes.{AreChanges, changed_number}
use Rattle.numbered_list.specs.Laws.{Contains-found, IsAt-find, number_of_found}
use Rattle.numbered_list.specs.Numbered.{IsAt, find}
use Rattle.numbered_list.specs.declared.change.Change.{Change}
use Rattle.user_model.specs.Model.{ModelValue}
use Rattle.user_model.specs.Undone.{AreDifferences, IsOldObjective, IsUndo}
use Rattle.user_model.specs.declared.objective.Objective.{Objective}
use Rattle.user_model.specs.declared.undo.Undo.{Undo}
use Rattle.local_laws.specs.Unlisted.{LeadBackTo}
use Rattle.touched_items.specs.FirstChanges.{AreFirst, first_objective, stood_at}
use Rattle.touched_items.specs.SideLaws.{found_itself}

-- ---- items with numbers

module _ {X : Type 0} (number_of : X → ℕ) (items : ModelValue → List X)
    (listed_by : Undo → List (Change X))
    (differences : (old new : ModelValue) (undo : Undo) → IsUndo old new undo
    → AreDifferences number_of (items old) (items new) (listed_by undo)) where
  abbrev all_listed : List Undo → List (Change X)
  all_listed undos = flat_map listed_by undos

  stood_by : (old : ModelValue) (undos : List Undo) (new : ModelValue) → LeadBackTo old undos new
      → (n : ℕ)
      → option_map_or (λ (c : Change X). c.content) (find changed_number n (all_listed undos))
      (find number_of n (items new)) ≡ find number_of n (items old)
  stood_by old [] new is n = ap (λ m. find number_of n (items m)) (sym is)
  stood_by old (undo ∷ undos) new is n =
      ap (λ o. option_map_or (λ (c : Change X). c.content) o (find number_of n (items new)))
      (find-append (λ (c : Change X). c.number == n) (listed_by undo) (all_listed undos))
      ∙ by (find changed_number n (listed_by undo)) refl (stood_by is.0 undos new is.2 n)
    where
      each : AreDifferences number_of (items old) (items is.0) (listed_by undo)
      each = differences old is.0 undo is.1

      by : (o : Option (Change X)) → find changed_number n (listed_by undo) ≡ o
          → option_map_or (λ (c : Change X). c.content) (find changed_number n (all_listed undos))
          (find number_of n (items new)) ≡ find number_of n (items is.0)
          → option_map_or (λ (c : Change X). c.content)
          (option_or o (find changed_number n (all_listed undos)))
          (find number_of n (items new)) ≡ find number_of n (items old)
      by None e later = later ∙ sym (each.all n e)
      by (Some c) e later =
          All-contains (λ (c : Change X). c.content ≡ find number_of c.number (items old))
          (listed_by undo) c each.contents (Contains-found changed_number n c (listed_by undo) e)
          ∙ ap (λ m. find number_of m (items old)) (number_of_found changed_number n c (listed_by undo) e)

  pub stood_is : (old : ModelValue) (undos : List Undo) (new : ModelValue) → LeadBackTo old undos new
      → (listed : List (Change X)) → AreFirst (all_listed undos) listed → (n : ℕ)
      → stood_at (λ m. find number_of m (items new)) listed n ≡ find number_of n (items old)
  stood_is old undos new is listed first n =
      ap (λ o. option_map_or (λ (c : Change X). c.content) o (find number_of n (items new)))
      (first.first n)
      ∙ stood_by old undos new is n

  -- each content has its number
  own_each : (old : ModelValue) (undos : List Undo) (new : ModelValue) → LeadBackTo old undos new
      → All (λ (c : Change X). IsAt number_of c.number c.content) (all_listed undos)
  own_each old [] new is = All-nil (λ (c : Change X). IsAt number_of c.number c.content)
  own_each old (undo ∷ undos) new is =
      All-append (λ (c : Change X). IsAt number_of c.number c.content) (listed_by undo)
      (all_listed undos)
      (All-weaker (λ (c : Change X). c.content ≡ find number_of c.number (items old))
      (λ (c : Change X). IsAt number_of c.number c.content)
      (λ c e. subst (IsAt number_of c.number) (sym e) (IsAt-find number_of c.number (items old)))
      (listed_by undo) (differences old is.0 undo is.1).contents)
      (own_each is.0 undos new is.2)

  pub listed_changes : (old : ModelValue) (undos : List Undo) (new : ModelValue)
      → LeadBackTo old undos new → (listed : List (Change X)) → AreFirst (all_listed undos) listed
      → AreChanges number_of listed
  listed_changes old undos new is listed first = record {
    rising = first.rising;
    own =
        All-weaker (Contains listed) (λ (c : Change X). IsAt number_of c.number c.content)
        (λ c k. All-contains (λ (c : Change X). IsAt number_of c.number c.content)
        (all_listed undos) c (own_each old undos new is)
        (Contains-found changed_number c.number c (all_listed undos)
        (sym (first.first c.number)
        ∙ found_itself changed_number listed c first.rising k)))
        listed (All-contains_itself listed);
  }

-- ---- the objective

pub objective_stood : (old : ModelValue) (undos : List Undo) (new : ModelValue)
    → LeadBackTo old undos new
    → unwrap_or (first_objective undos) new.objective ≡ old.objective
objective_stood old [] new is = ap (λ (m : ModelValue). m.objective) (sym is)
objective_stood old (undo ∷ undos) new is =
    by undo.objective is.1.objective (objective_stood is.0 undos new is.2)
  where
    by : (o : Option Objective) → IsOldObjective old.objective is.0.objective o
        → unwrap_or (first_objective undos) new.objective ≡ is.0.objective
        → unwrap_or (option_or o (first_objective undos)) new.objective ≡ old.objective
    by None same later = later ∙ sym same
    by (Some content) h later = h.0
