-- What undos list, as the search for differences takes it.
use Rattle.std.specs.Prelude.{◌≡◌, ◌≤◌, ◌+◌, ℕ, List, [], ◌∷◌, IfOk, OnOk, Option, Some, None, Result, Ok, Err, flat_map, length, refl}
use Rattle.std.specs.Borrow.{Bor}
use Rattle.std.specs.Option.{option_copied, option_map_or, option_or}
use Rattle.std.proofs.Common.{arith, ap, subst, sym, ◌∙◌}
use Rattle.std.proofs.lemmas.List.{length-append, length-map}
use Rattle.local_laws.specs.Unlisted.{LeadBackTo, entries_of}
use Rattle.numbered_list.specs.declared.change.Change.{Change}
use Rattle.touched_items.specs.DifferenceLaws.{HasDifferences, UndosList, all_differences}
use Rattle.touched_items.specs.Differences.{AreDiffering, count_listed, listed_groups, listed_rows}
use Rattle.touched_items.specs.FirstChanges.{AreFirst, first_objective}
use Rattle.touched_items.specs.declared.differing.Differing.{Differing}
use Rattle.touched_items.specs.declared.listed.ListedChanges.{ListedChanges}
use Rattle.user_model.specs.Model.{ModelValue}
use Rattle.user_model.specs.declared.group.Group.{Group}
use Rattle.user_model.specs.declared.objective.Objective.{Objective}
use Rattle.user_model.specs.declared.row.Row.{Row}
use Rattle.user_model.specs.declared.undo.Undo.{Undo}

pub lists : (undos : List Undo) (listed : ListedChanges)
    → AreFirst (flat_map (λ u. u.groups) undos) (listed_groups listed)
    → AreFirst (flat_map (λ u. u.rows) undos) (listed_rows listed)
    → option_copied listed.objective ≡ first_objective undos → UndosList undos listed
lists undos listed groups rows objective = record {
  groups = groups;
  rows = rows;
  objective = objective;
}

module _ (undos : List Undo) (listed : ListedChanges) (are : UndosList undos listed) where
  pub differs : {E : Type 0} (after : ModelValue) (r : Result Differing E)
      → IfOk r (AreDiffering listed after)
      → IfOk r (λ d. (model : ModelValue) → LeadBackTo model undos after
      → HasDifferences model after d)
  differs after (Ok d) h = λ model back. all_differences model undos after back listed are d h
  differs after (Err e) h = h

  -- ---- how many are listed

  objectives : List Undo → ℕ
  objectives [] = 0
  objectives (u ∷ us) = option_map_or (λ _. 1) u.objective 0 + objectives us

  first_counted : (us : List Undo)
      → option_map_or {T = Objective} (λ _. 1) (first_objective us) 0 ≤ objectives us
  unfolding objectives
  first_counted [] = omega arith
  first_counted (u ∷ us) = by u.objective (first_counted us)
    where
      by : (o : Option Objective)
          → option_map_or {T = Objective} (λ _. 1) (first_objective us) 0 ≤ objectives us
          → option_map_or (λ _. 1) (option_or o (first_objective us)) 0
          ≤ option_map_or (λ _. 1) o 0 + objectives us
      by None later = omega (arith, later)
      by (Some x) later = omega arith

  counts : (us : List Undo)
      → entries_of us
      ≡ length (flat_map (λ (u : Undo). u.groups) us) + length (flat_map (λ (u : Undo). u.rows) us)
      + objectives us
  unfolding objectives
  counts [] = refl
  counts (u ∷ us) =
      let g = length-append u.groups (flat_map (λ (u : Undo). u.groups) us) in
      let r = length-append u.rows (flat_map (λ (u : Undo). u.rows) us) in
      let later = counts us in omega (arith, g, r, later)

  copied : (o : Option (Bor Objective))
      → option_map_or {T = Objective} {U = ℕ} (λ _. 1) (option_copied o) 0
      ≡ option_map_or {T = Bor Objective} {U = ℕ} (λ _. 1) o 0
  copied None = refl
  copied (Some x) = refl

  few : count_listed listed ≤ entries_of undos
  few =
      let g : length listed.groups.items ≤ length (flat_map (λ (u : Undo). u.groups) undos) =
      subst (λ n. n ≤ length (flat_map (λ (u : Undo). u.groups) undos))
      (length-map listed.groups.items (λ (c : Bor (Change Group)). c.now)) are.groups.few in
      let r : length listed.rows.items ≤ length (flat_map (λ (u : Undo). u.rows) undos) =
      subst (λ n. n ≤ length (flat_map (λ (u : Undo). u.rows) undos))
      (length-map listed.rows.items (λ (c : Bor (Change Row)). c.now)) are.rows.few in
      let o : option_map_or (λ _. 1) listed.objective 0 ≤ objectives undos =
      subst (λ n. n ≤ objectives undos)
      (ap (λ o. option_map_or (λ _. 1) o 0) (sym are.objective) ∙ copied listed.objective)
      (first_counted undos) in
      let all = counts undos in omega (arith, g, r, o, all)

  pub counted : {T E : Type 0} (reads after : ℕ) (r : Result T E)
      → after ≤ reads + count_listed listed → OnOk r (after ≤ reads + entries_of undos)
  counted reads after (Ok x) h = omega (arith, h, few)
  counted reads after (Err e) h = tt
