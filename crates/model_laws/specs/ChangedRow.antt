-- A row that is changed is found by its name where it was.
use Rattle.std.specs.Prelude.{◌≡◌, ◌≢◌, ℕ, cond, List, [], ◌∷◌, ◌++◌, Some, All, AllPairs, find, refl}
use Rattle.std.specs.Option.{option_map_or}
use Rattle.std.specs.Str.{bytes_eq}
use Rattle.std.proofs.Common.{sym, ap, inl, inr, ◌∙◌}
use Rattle.std.proofs.lemmas.Bool.{cases_Bool}
use Rattle.std.proofs.lemmas.List.Elements.{All-head, All-tail}
use Rattle.std.proofs.lemmas.Slice.Eq.{bytes_eq-Decides}
use Rattle.numbered_list.specs.Numbered as numbered
use Rattle.numbered_list.specs.Numbered.{put}
use Rattle.user_model.specs.declared.function.UserFunc.{UserFunc}
use Rattle.user_model.specs.declared.row.Row.{Row}
use Rattle.user_model.specs.Consistent.{IsConsistent}
use Rattle.user_model.specs.Edited.{change_function, row_number}
use Rattle.user_model.specs.Functions.{term_counts}
use Rattle.user_model.specs.Model.{ModelValue, row_named}
use Rattle.user_model.specs.Refusals.{terms_of_row}
use Rattle.model_laws.specs.Changed.{change_row-found}
use Rattle.model_laws.specs.Located.{row_by_number, row_name}
use Rattle.map_laws.specs.PairLaws.{AllPairs-before}
use Rattle.model_laws.specs.Replaced.{replaced}

-- the one after others of other names
found_behind : (name : List ℕ) (before after : List Row) (x : Row) → All (λ r. r.name ≢ name) before
    → x.name ≡ name → find (λ r. bytes_eq r.name name) (before ++ (x ∷ after)) ≡ Some x
found_behind name [] after x others e = ap (λ b. cond b (Some x)
    (find (λ r. bytes_eq r.name name) after)) ((bytes_eq-Decides x.name name).1 e)
found_behind name (r ∷ before) after x others e =
    elim (cases_Bool (bytes_eq r.name name)) [
      | inl same ↦ absurd (All-head (λ r. r.name ≢ name) r before others
          ((bytes_eq-Decides r.name name).0 same))
      | inr other ↦ ap (λ b. cond b (Some r) (find (λ r. bytes_eq r.name name)
          (before ++ (x ∷ after)))) other
          ∙ found_behind name before after x (All-tail (λ r. r.name ≢ name) r before others) e
    ]

module _ (model : ModelValue) (c : IsConsistent model) (name : List ℕ) (row : Row)
    (found : row_named model name ≡ Some row) where
  -- a row that is changed is found where it was
  pub row_named-put : (new : Row) → new.id ≡ row.id → new.name ≡ row.name
      → find (λ r. bytes_eq r.name name) (put row_number new model.rows) ≡ Some new
  row_named-put new id same =
      let is : row.name ≡ name = row_name model name row found in
      replaced row_number (λ xs ys. AllPairs (λ r s. r.name ≢ s.name) xs
      → find (λ r. bytes_eq r.name name) ys ≡ Some new) new row model.rows c.rows_rise
      (ap (λ n. numbered.find row_number n model.rows) id
      ∙ row_by_number model name row c found) (λ before after distinct. found_behind name before
      after new (λ k d end same_name. AllPairs-before (λ r s. r.name ≢ s.name) before row after
      distinct k d end (same_name ∙ sym is)) (same ∙ is)) c.row_names

  -- the terms of its components
  pub terms_after : (h : UserFunc → UserFunc)
      → terms_of_row (change_function model name h) name ≡ term_counts (h row.func)
  terms_after h =
      let new : Row = record row { func = h row.func } in
      ap (λ m. terms_of_row m name) (change_row-found model name
      (λ row. record row { func = h row.func }) row found)
      ∙ ap (λ o. option_map_or (λ r. term_counts r.func) o []) (row_named-put new refl refl)
