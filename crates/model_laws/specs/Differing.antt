-- Which changes differ from what stands, and those that change nothing.
use Rattle.std.specs.Prelude.{◌≡◌, ◌≢◌, ℕ, true, List, [], ◌∷◌, Some, All, filter, slice_index_or}
use Rattle.std.specs.Option.{option_map_or}
use Rattle.std.proofs.Common.{sym, ap, subst, ◌∙◌}
use Rattle.std.proofs.lemmas.List.Elements.{All-nil, All-cons, All-filter, All-map, Contains-get_or, filter_passes}
use Rattle.numbered_list.specs.declared.change.Change.{Change}
use Rattle.numbered_list.specs.Numbered.{find, put, set_at}
use Rattle.numbered_list.specs.SetLaws.{set_at_found}
use Rattle.aff_core.specs.Address.{Address}
use Rattle.user_model.specs.declared.group.Group.{Group}
use Rattle.user_model.specs.declared.row.Row.{Row}
use Rattle.user_model.specs.Model.{ModelValue, group_of, has_variable, row_mentions, row_named, variable_address}
use Rattle.user_model.specs.Deletion.{group_without, row_without}
use Rattle.user_model.specs.Edited.{change_group, change_row, group_number, row_number}
use Rattle.user_model.specs.Consistent.{IsConsistent}
use Rattle.model_laws.specs.Changed.{change_group-found, change_row-found}
use Rattle.model_laws.specs.Found.{found_passes, stands_found}
use Rattle.model_laws.specs.ItemChanges.{edit_of}
use Rattle.model_laws.specs.Located.{group_by_number, row_by_number}
use Rattle.model_laws.specs.Mentions.{group_changes_where_mentioned, row_changes_where_mentioned}
use Rattle.model_laws.specs.DeletionChanges.{deletion_changes, group_deletion}

module _ {X : Type 0} (number_of : X → ℕ) where
  -- the change's content is other than what stands at its number
  abbrev pub Differs : List X → Change X → Type 0
  Differs xs c = find number_of c.number xs ≢ c.content

  one_differs : (xs : List X) (c : Change X) → Differs xs c → All (Differs xs) (c ∷ [])
  one_differs xs c ne = All-cons (Differs xs) c [] ne (All-nil (Differs xs))

module _ (model : ModelValue) (c : IsConsistent model) where
  -- ---- rows

  -- a row that is changed to itself leaves the model
  pub row_unchanged : (name : List ℕ) (h : Row → Row) (row : Row) → row_named model name ≡ Some row
      → h row ≡ row → change_row model name h ≡ model
  row_unchanged name h row found same =
      change_row-found model name h row found
      ∙ (ap (λ r. record model { rows = put row_number r model.rows }) same
      ∙ ap (λ rows. record model { rows = rows }) (ap (λ o. set_at row_number row.id o model.rows)
      (sym (row_by_number model name row c found))
      ∙ set_at_found row_number row.id model.rows c.rows_rise))

  -- each row that a deleted variable's changes list differs
  pub deletion_differs : (n : ℕ) → All (Differs row_number model.rows) (deletion_changes model n)
  deletion_differs n =
      All-map {X = Change Row} (Differs row_number model.rows) (edit_of row_number (row_without at))
      rows (λ k d end.
      let row = slice_index_or rows k d in
      let there : find row_number row.id model.rows ≡ Some row = All-filter (row_mentions at)
      (λ r. find row_number r.id model.rows ≡ Some r) model.rows each k d end in
      let mentions : row_mentions at row ≡ true = filter_passes (row_mentions at) model.rows k d end
      in
      λ same. row_changes_where_mentioned at row mentions (sym same ∙ there))
    where
      at : Address
      at = variable_address n

      rows : List Row
      rows = filter (row_mentions at) model.rows

      each : All (λ r. find row_number r.id model.rows ≡ Some r) model.rows
      each k d end = stands_found row_number model.rows (slice_index_or model.rows k d) c.rows_rise
          (Contains-get_or model.rows k d end)

  -- ---- groups

  -- a group that is changed to itself leaves the model
  pub group_unchanged : (n : ℕ) (h : Group → Group) (group : Group) → group_of model n ≡ Some group
      → h group ≡ group → change_group model n h ≡ model
  group_unchanged n h group found same =
      change_group-found model n h group found
      ∙ (ap (λ g. record model { groups = put group_number g model.groups }) same
      ∙ ap (λ groups. record model { groups = groups })
      (ap (λ o. set_at group_number group.id o model.groups)
      (sym (group_by_number model n group c found))
      ∙ set_at_found group_number group.id model.groups c.groups_rise))

  -- a group that loses a variable differs
  pub group_deletion_differs : (n : ℕ) (group : Group) → group_of model n ≡ Some group
      → All (Differs group_number model.groups) (group_deletion model n)
  group_deletion_differs n group found =
      subst (λ o. All (Differs group_number model.groups)
      (option_map_or (λ group. record { number = group.id; content = group_without n group }
      ∷ []) o [])) (sym found) (one_differs group_number model.groups
      (record { number = group.id; content = group_without n group })
      (λ same. group_changes_where_mentioned n group
      (found_passes (has_variable n) model.groups group found)
      (sym same ∙ group_by_number model n group c found)))
