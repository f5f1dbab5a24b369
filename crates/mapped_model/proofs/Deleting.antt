-- The row of a name is deleted: the rows of other names are left.
use Rattle.std.specs.Prelude.{◌≡◌, ◌≢◌, ℕ, true, not, cond, List, [], ◌∷◌, ◌++◌, Some, None, All, AllPairs, bytes_eq}
use Rattle.std.proofs.Common.{ap, inl, inr, sym, ◌∙◌}
use Rattle.std.proofs.lemmas.Bool.{cases_Bool}
use Rattle.std.proofs.lemmas.List.Elements.{All-head, All-weaker}
use Rattle.std.proofs.lemmas.Slice.Eq.{bytes_eq-Decides}
use Rattle.map_laws.specs.EachLaws.{all_second}
use Rattle.map_laws.specs.PairLaws.{AllPairs-head, AllPairs-tail}
use Rattle.map_laws.specs.PlaceLaws.{filter_all}
use Rattle.mapped_model.specs.Uses.{others}
use Rattle.model_laws.specs.Changed.{delete_row-found}
use Rattle.model_laws.specs.Found.{found_passes}
use Rattle.model_laws.specs.Located.{row_by_number}
use Rattle.model_laws.specs.Replaced.{set_at_around}
use Rattle.numbered_list.specs.Numbered.{without}
use Rattle.user_model.specs.Consistent.{IsConsistent}
use Rattle.user_model.specs.declared.edit.Edit.TheVariants as edit
use Rattle.user_model.specs.declared.row.Row.{Row}
use Rattle.user_model.specs.Edited.{edited, row_number}
use Rattle.user_model.specs.Model.{ModelValue, row_named}

abbrev pub with_rows : ModelValue → List Row → ModelValue
with_rows m rows = record m { rows = rows }

abbrev Apart : List Row → Type 0
Apart rows = AllPairs {X = Row} (λ r s. r.name ≢ s.name) rows

module _ (name : List ℕ) (r : Row) (is : bytes_eq r.name name ≡ true) where
  other : (x : Row) → r.name ≢ x.name → not (bytes_eq x.name name) ≡ true
  other x ne =
      elim (cases_Bool (bytes_eq x.name name)) [
        | inl e ↦ absurd (ne ((bytes_eq-Decides r.name name).0 is
            ∙ sym ((bytes_eq-Decides x.name name).0 e)))
        | inr e ↦ ap not e
      ]

  left_around : (before after : List Row) → Apart (before ++ r ∷ after)
      → before ++ after ≡ others name (before ++ r ∷ after)
  left_around [] after apart =
      sym (ap (λ b. cond (not b) (r ∷ others name after) (others name after)) is
      ∙ filter_all (λ s. not (bytes_eq s.name name)) after
      (All-weaker (λ s. r.name ≢ s.name) (λ s. not (bytes_eq s.name name) ≡ true) other after
      (AllPairs-head (λ r s. r.name ≢ s.name) r after apart)))
  left_around (x ∷ before) after apart =
      let first : All (λ s. x.name ≢ s.name) (before ++ r ∷ after) =
      AllPairs-head (λ r s. r.name ≢ s.name) x (before ++ r ∷ after) apart in
      let ne : x.name ≢ r.name =
      All-head (λ s. x.name ≢ s.name) r after
      (all_second (λ s. x.name ≢ s.name) before (r ∷ after) first) in
      ap (λ rs. x ∷ rs) (left_around before after
      (AllPairs-tail (λ r s. r.name ≢ s.name) x (before ++ r ∷ after) apart))
      ∙ sym (ap (λ b. cond b (x ∷ others name (before ++ r ∷ after))
      (others name (before ++ r ∷ after))) (other x (λ e. ne (sym e))))

module _ (m : ModelValue) (c : IsConsistent m) (name : List ℕ) (r : Row)
    (found : row_named m name ≡ Some r) where
  others_left : without row_number r.id m.rows ≡ others name m.rows
  others_left =
      set_at_around row_number (λ xs ys. Apart xs → ys ≡ others name xs) r.id None r m.rows
      c.rows_rise (row_by_number m name r c found)
      (λ before after apart. left_around name r
      (found_passes (λ r. bytes_eq r.name name) m.rows r found) before after apart) c.row_names

  pub deleted : edited m (edit.DeleteRow name) ≡ with_rows m (others name m.rows)
  unfolding edited
  deleted = delete_row-found m name r found ∙ ap (with_rows m) others_left
