-- Each edit that is not refused keeps the parts of a model valid.
use Rattle.std.specs.Prelude.{◌≡◌, ◌⊎◌, ℕ, Bool, true, false, ◌&&◌, ◌||◌, List, [], ◌∷◌, ◌++◌, Some, All, IsSome, find, refl}
use Rattle.std.specs.List.{list_any}
use Rattle.std.proofs.Common.{arith, sym, ap, subst, inl, inr, ◌∙◌}
use Rattle.std.proofs.lemmas.List.Elements.{All-contains, All-push, All-weaker}
use Rattle.numbered_list.specs.Numbered.{put}
use Rattle.numbered_list.specs.Numbered as numbered
use Rattle.numbered_list.specs.Laws.{Contains-found}
use Rattle.set_core.specs.declared.set.Set.{Set}
use Rattle.user_model.specs.declared.group.Group.{Group}
use Rattle.user_model.specs.declared.objective.Objective.{Objective}
use Rattle.user_model.specs.declared.row.Row.{Row}
use Rattle.user_model.specs.Sets.{sets_lower, sets_upper}
use Rattle.user_model.specs.Model.{ModelValue, has_variable, is_variable}
use Rattle.user_model.specs.Edited.{group_number, row_number}
use Rattle.user_model.specs.Consistent.{IsConsistent}
use Rattle.user_model.specs.Valid.{HasValidParts, IsValidGroup, IsValidObjective, IsValidRow, is_created_by}
use Rattle.model_laws.specs.Replaced.{All-put, All-without}
use Rattle.model_laws.specs.SingleBounds.{bounds_less, group_added, group_put, row_added, row_deleted, row_put}
use Rattle.model_laws.specs.Standing.{stands_along}

-- ---- the parts with other groups, rows or objective

module _ (groups others : List Group) (along : (n : ℕ) → IsSome (find (has_variable n) groups)
    → IsSome (find (has_variable n) others)) where
  row_along : (row : Row) → IsValidRow groups row → IsValidRow others row
  row_along row is = record {
    stand = λ at e. stands_along groups others along at (is.stand at e);
    limit = is.limit;
    terms = is.terms;
    shape = is.shape;
    set = is.set;
  }

  objective_along : (o : Objective) → IsValidObjective groups o → IsValidObjective others o
  objective_along o is = record {
    stand = λ at e. stands_along groups others along at
        (is.stand at e);
    terms = is.terms;
  }

  -- other groups with the same variables at least
  pub parts_of_groups : (rows : List Row) (o : Objective) → HasValidParts groups rows o
      → All IsValidGroup others
      → ((test : Set → Bool) (n : ℕ) → (test ≡ sets_lower) ⊎ (test ≡ sets_upper)
      → is_created_by test others n ≡ true → is_created_by test groups n ≡ true)
      → HasValidParts others rows o
  parts_of_groups rows o h valid created = record {
    valid_groups = valid;
    valid_rows = All-weaker (IsValidRow groups) (IsValidRow others) row_along rows h.valid_rows;
    valid_objective = objective_along o h.valid_objective;
    lower = λ n. bounds_less sets_lower n groups others rows rows (omega arith)
        (created sets_lower n (inl refl)) (h.lower n);
    upper = λ n. bounds_less sets_upper n groups others rows rows (omega arith)
        (created sets_upper n (inr refl)) (h.upper n);
  }

-- a row that may take another's place
pub record IsRowInPlace (groups : List Group) (old new : Row) : Type 0 where
  pub id : new.id ≡ old.id
  pub valid : IsValidRow groups old → IsValidRow groups new
  pub lower : (n : ℕ) → (is_variable n new.func && sets_lower new.set) ≡ true
      → (is_variable n old.func && sets_lower old.set) ≡ true
  pub upper : (n : ℕ) → (is_variable n new.func && sets_upper new.set) ≡ true
      → (is_variable n old.func && sets_upper old.set) ≡ true

-- a group that may take another's place, of which each variable stays
pub record IsGroupInPlace (old new : Group) : Type 0 where
  pub id : new.id ≡ old.id
  pub valid : IsValidGroup old → IsValidGroup new
  pub same : (n : ℕ) → has_variable n new ≡ has_variable n old
  pub lower : sets_lower new.set ≡ true → sets_lower old.set ≡ true
  pub upper : sets_upper new.set ≡ true → sets_upper old.set ≡ true

module _ (model : ModelValue) (c : IsConsistent model)
    (h : HasValidParts model.groups model.rows model.objective) where
  -- ---- an objective

  pub parts_of_objective : (o : Objective) → IsValidObjective model.groups o
      → HasValidParts model.groups model.rows o
  parts_of_objective o is = record {
    valid_groups = h.valid_groups;
    valid_rows = h.valid_rows;
    valid_objective = is;
    lower = h.lower;
    upper = h.upper;
  }

  -- ---- rows

  pub parts_of_row : (old new : Row) → numbered.find row_number old.id model.rows ≡ Some old
      → IsRowInPlace model.groups old new
      → HasValidParts model.groups (put row_number new model.rows) model.objective
  parts_of_row old new found change =
      let here : numbered.find row_number new.id model.rows ≡ Some old =
      ap (λ n. numbered.find row_number n model.rows) change.id ∙ found in
      record {
        valid_groups = h.valid_groups;
        valid_rows = All-put row_number (IsValidRow model.groups) new model.rows h.valid_rows
            (change.valid (All-contains (IsValidRow model.groups) model.rows old h.valid_rows
            (Contains-found row_number old.id old model.rows found)));
        valid_objective = h.valid_objective;
        lower = λ n. bounds_less sets_lower n model.groups model.groups model.rows
            (put row_number new model.rows) (row_put sets_lower n new old model.rows c.rows_rise
            here (change.lower n)) (λ e. e) (h.lower n);
        upper = λ n. bounds_less sets_upper n model.groups model.groups model.rows
            (put row_number new model.rows) (row_put sets_upper n new old model.rows c.rows_rise
            here (change.upper n)) (λ e. e) (h.upper n);
      }

  pub parts_without_row : (n : ℕ)
      → HasValidParts model.groups (numbered.without row_number n model.rows) model.objective
  parts_without_row m = record {
    valid_groups = h.valid_groups;
    valid_rows = All-without row_number (IsValidRow model.groups) m model.rows h.valid_rows;
    valid_objective = h.valid_objective;
    lower = λ n. bounds_less sets_lower n model.groups model.groups model.rows
        (numbered.without row_number m model.rows) (row_deleted sets_lower n m model.rows
        c.rows_rise) (λ e. e) (h.lower n);
    upper = λ n. bounds_less sets_upper n model.groups model.groups model.rows
        (numbered.without row_number m model.rows) (row_deleted sets_upper n m model.rows
        c.rows_rise) (λ e. e) (h.upper n);
  }

  pub parts_with_row : (new : Row) → IsValidRow model.groups new
      → ((n : ℕ) → (is_variable n new.func && sets_lower new.set) ≡ true
      → (list_any (λ r. is_variable n r.func && sets_lower r.set) model.rows
      || is_created_by sets_lower model.groups n) ≡ false)
      → ((n : ℕ) → (is_variable n new.func && sets_upper new.set) ≡ true
      → (list_any (λ r. is_variable n r.func && sets_upper r.set) model.rows
      || is_created_by sets_upper model.groups n) ≡ false)
      → HasValidParts model.groups (model.rows ++ new ∷ []) model.objective
  parts_with_row new is lower upper = record {
    valid_groups = h.valid_groups;
    valid_rows = All-push (IsValidRow model.groups) model.rows new h.valid_rows is;
    valid_objective = h.valid_objective;
    lower = λ n. row_added sets_lower n model.groups model.rows new (lower n) (h.lower n);
    upper = λ n. row_added sets_upper n model.groups model.rows new (upper n) (h.upper n);
  }

  -- ---- groups

  pub parts_of_group : (old new : Group) → numbered.find group_number old.id model.groups ≡ Some old
      → IsGroupInPlace old new
      → ((n : ℕ) → IsSome (find (has_variable n) model.groups)
      → IsSome (find (has_variable n) (put group_number new model.groups)))
      → HasValidParts (put group_number new model.groups) model.rows model.objective
  parts_of_group old new found change along =
      let here : numbered.find group_number new.id model.groups ≡ Some old =
      ap (λ n. numbered.find group_number n model.groups) change.id ∙ found in
      parts_of_groups model.groups (put group_number new model.groups) along model.rows
      model.objective h (All-put group_number IsValidGroup new model.groups h.valid_groups
      (change.valid (All-contains IsValidGroup model.groups old h.valid_groups
      (Contains-found group_number old.id old model.groups found))))
      (λ test n is. group_put test n new old model.groups c.groups_rise here (change.same n)
      (less test is))
    where
      less : (test : Set → Bool) → (test ≡ sets_lower) ⊎ (test ≡ sets_upper) → test new.set ≡ true
          → test old.set ≡ true
      less test (inl e) = subst (λ t. t new.set ≡ true → t old.set ≡ true) (sym e) change.lower
      less test (inr e) = subst (λ t. t new.set ≡ true → t old.set ≡ true) (sym e) change.upper

  pub parts_with_group : (new : Group) → IsValidGroup new
      → ((n : ℕ) → IsSome (find (has_variable n) model.groups)
      → IsSome (find (has_variable n) (model.groups ++ new ∷ [])))
      → HasValidParts (model.groups ++ new ∷ []) model.rows model.objective
  parts_with_group new is along = record {
    valid_groups = All-push IsValidGroup model.groups new h.valid_groups is;
    valid_rows = All-weaker (IsValidRow model.groups) (IsValidRow (model.groups ++ new ∷ []))
        (row_along model.groups (model.groups ++ new ∷ []) along) model.rows h.valid_rows;
    valid_objective = objective_along model.groups (model.groups ++ new ∷ []) along model.objective
        h.valid_objective;
    lower = λ n. group_added sets_lower n model.groups model.rows new (c.bounds n) (h.lower n);
    upper = λ n. group_added sets_upper n model.groups model.rows new (c.bounds n) (h.upper n);
  }
