-- The row that stands first in a model is deleted: this is never refused, and the others are left.
use Rattle.std.specs.Prelude.{◌≡◌, ◌<◌, ◌≤◌, not, List, [], ◌∷◌, ◌++◌, All, Some, None, cond, find, is_some, bytes_eq, refl}
use Rattle.std.proofs.Common.{ap, ap₂, arith, subst, ◌∙◌}
use Rattle.std.proofs.lemmas.Bool.{le-ltb, or_from}
use Rattle.std.proofs.lemmas.List.Elements.{All-cons, All-nil, All-weaker}
use Rattle.std.proofs.lemmas.Slice.Eq.{bytes_eq-Decides}
use Rattle.model_laws.specs.Changed.{delete_row-found}
use Rattle.model_laws.specs.Passed.{IsPassed}
use Rattle.mof_round_trip_laws.specs.Accepted.{accepted}
use Rattle.numbered_list.specs.Laws.{Rise-head}
use Rattle.numbered_list.specs.Numbered.{Rise, above, set_at, without}
use Rattle.numbered_list.specs.SetLaws.{above-all, below-none}
use Rattle.user_model.specs.Edited.{edited, row_number}
use Rattle.user_model.specs.Model.{ModelValue, row_named}
use Rattle.user_model.specs.Refusals.{first_refusal}
use Rattle.user_model.specs.Valid.{IsValid}
use Rattle.user_model.specs.declared.edit.Edit.TheVariants as edit
use Rattle.user_model.specs.declared.row.Row.{Row}

abbrev pub with_rows : ModelValue → List Row → ModelValue
with_rows model rows = record model { rows = rows }

module _ (model : ModelValue) (valid : IsValid model) (r : Row) (rest : List Row)
    (whole : model.rows ≡ r ∷ rest) where
  found : row_named model r.name ≡ Some r
  found =
      ap (find (λ s. bytes_eq s.name r.name)) whole
      ∙ ap (λ b. cond b (Some r) (find (λ s. bytes_eq s.name r.name) rest))
      ((bytes_eq-Decides r.name r.name).1 refl)

  later : All (λ s. r.id < s.id) rest
  later = Rise-head row_number r rest (subst (Rise row_number) whole valid.consistent.rows_rise)

  others_left : without row_number r.id model.rows ≡ rest
  unfolding set_at
  others_left =
      ap (without row_number r.id) whole
      ∙ ap₂ (λ few many. few ++ ([] ++ many))
      (below-none row_number r.id (r ∷ rest)
      (All-cons (λ s. r.id ≤ s.id) r rest (omega arith)
      (All-weaker (λ s. r.id < s.id) (λ s. r.id ≤ s.id) (λ s h. omega (arith, h)) rest later)))
      (above_first ∙ above-all row_number r.id rest later)
    where
      above_first : above row_number r.id (r ∷ rest) ≡ above row_number r.id rest
      above_first =
          ap (λ b. cond b (r ∷ above row_number r.id rest) (above row_number r.id rest))
          (le-ltb r.id r.id (omega arith))

  pub deleted : edited model (edit.DeleteRow r.name) ≡ with_rows model rest
  unfolding edited
  deleted =
      delete_row-found model r.name r found ∙ ap (with_rows model) others_left

  passes : IsPassed model (edit.DeleteRow r.name)
  passes = record {
    known = or_from _ _ refl (ap (λ o. not (is_some o)) found);
    free = refl;
    shaped = refl;
    dimension = refl;
    output = refl;
    interval = refl;
    lower = refl;
    upper = refl;
    of_type = refl;
    deletable = refl;
    counted = All-nil (λ c. c.0 ≤ c.1);
  }

  pub deletion_accepted : first_refusal model (edit.DeleteRow r.name) ≡ None
  deletion_accepted = accepted model (edit.DeleteRow r.name) passes
