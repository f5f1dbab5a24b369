-- Changes of rows that keep a model consistent and within its limits.
use Rattle.std.specs.Prelude.{◌≡◌, ◌≢◌, ◌⊎◌, ℕ, ◌+◌, ◌<◌, ◌≤◌, true, List, Some, None, All, AllPairs, Contains, IsSome, refl}
use Rattle.std.proofs.Common.{arith, sym, ap, subst, ◌∙◌}
use Rattle.std.proofs.lemmas.List.Elements.{All-contains}
use Rattle.numbered_list.specs.Numbered.{Rise, find, put, without}
use Rattle.numbered_list.specs.Laws.{Contains-found}
use Rattle.numbered_list.specs.SetLaws.{Rise-set_at}
use Rattle.user_model.specs.declared.row.Row.{Row}
use Rattle.user_model.specs.Functions.{all_terms}
use Rattle.user_model.specs.Limits.{ALL_TERMS, ROWS}
use Rattle.user_model.specs.Model.{ModelValue, group_of, is_variable, total_terms}
use Rattle.user_model.specs.Edited.{row_number}
use Rattle.user_model.specs.Consistent.{IsConsistent, IsWithinLimits}
use Rattle.map_laws.specs.PairLaws.{distinct-replaced}
use Rattle.model_laws.specs.Replaced.{All-put, All-without, AllPairs-without, replaced, sum_put, length_put, sum_without, length_without}

-- the rows are on variables that stand
abbrev pub BoundsStand : ModelValue → List Row → Type 0
BoundsStand model rows = (n : ℕ)
    → All (λ r. is_variable n r.func ≡ true → IsSome (group_of model n)) rows

-- a row that may take another's place: its number stays, its name stays or is free, and it is on no
-- other variable
pub record IsRowChange (model : ModelValue) (old new : Row) : Type 0 where
  pub id : new.id ≡ old.id
  pub named : (new.name ≡ old.name) ⊎ All (λ r. r.name ≢ new.name) model.rows
  pub bounds : (n : ℕ) → is_variable n new.func ≡ true → is_variable n old.func ≡ true

module _ (model : ModelValue) (c : IsConsistent model) where
  -- the rows alone change
  pub kept_rows : (rows : List Row) → Rise row_number rows → All (λ r. r.id < model.next.row) rows
      → AllPairs (λ r s. r.name ≢ s.name) rows → BoundsStand model rows
      → IsConsistent (record model { rows = rows })
  kept_rows rows rise given names bounds = record {
    groups_rise = c.groups_rise;
    variables_rise = c.variables_rise;
    rows_rise = rise;
    given_groups = c.given_groups;
    given_variables = c.given_variables;
    given_rows = given;
    variable_names = c.variable_names;
    row_names = names;
    bounds = bounds;
  }

  module _ (old new : Row) (found : find row_number old.id model.rows ≡ Some old)
      (change : IsRowChange model old new) where
    found_new : find row_number new.id model.rows ≡ Some old
    found_new = ap (λ n. find row_number n model.rows) change.id ∙ found

    pub kept_row : IsConsistent (record model { rows = put row_number new model.rows })
    kept_row =
        kept_rows (put row_number new model.rows) (Rise-set_at row_number new.id (Some new)
        model.rows refl c.rows_rise) (All-put row_number (λ r. r.id < model.next.row) new
        model.rows c.given_rows below) (names change.named)
        (λ n. All-put row_number (λ r. is_variable n r.func ≡ true → IsSome (group_of model n))
        new model.rows (c.bounds n) (λ e. All-contains
        (λ r. is_variable n r.func ≡ true → IsSome (group_of model n)) model.rows old
        (c.bounds n) there (change.bounds n e)))
      where
        there : Contains model.rows old
        there = Contains-found row_number old.id old model.rows found

        below : new.id < model.next.row
        below =
            let lt = All-contains (λ r. r.id < model.next.row) model.rows old c.given_rows there
            in omega (arith, lt, change.id)

        names : (new.name ≡ old.name) ⊎ All (λ r. r.name ≢ new.name) model.rows
            → AllPairs (λ r s. r.name ≢ s.name) (put row_number new model.rows)
        names named =
            replaced row_number (λ xs ys. (new.name ≡ old.name) ⊎ All (λ r. r.name ≢ new.name) xs
            → AllPairs (λ r s. r.name ≢ s.name) xs → AllPairs (λ r s. r.name ≢ s.name) ys) new
            old model.rows c.rows_rise found_new (λ before after named distinct.
            distinct-replaced (λ r. r.name) before old new after named distinct) named
            c.row_names

    pub row_terms : total_terms (record model { rows = put row_number new model.rows })
        + all_terms old.func ≡ total_terms model + all_terms new.func
    row_terms = omega (
      arith,
      sum_put row_number (λ r. all_terms r.func) new old model.rows
          c.rows_rise found_new,
    )

    pub row_within : IsWithinLimits model
        → total_terms (record model { rows = put row_number new model.rows }) ≤ ALL_TERMS
        → IsWithinLimits (record model { rows = put row_number new model.rows })
    row_within w terms = record {
      variables = w.variables;
      rows = subst (λ n. n
          ≤ ROWS) (sym (length_put row_number new old model.rows c.rows_rise found_new)) w.rows;
      terms = terms;
      group_numbers = w.group_numbers;
      variable_numbers = w.variable_numbers;
      row_numbers = w.row_numbers;
    }

  pub kept_without_row : (n : ℕ)
      → IsConsistent (record model { rows = without row_number n model.rows })
  kept_without_row n =
      kept_rows (without row_number n model.rows) (Rise-set_at row_number n None model.rows tt
      c.rows_rise) (All-without row_number (λ r. r.id < model.next.row) n model.rows
      c.given_rows) (AllPairs-without row_number (λ r s. r.name ≢ s.name) n model.rows
      c.rows_rise c.row_names) (λ m. All-without row_number
      (λ r. is_variable m r.func ≡ true → IsSome (group_of model m)) n model.rows (c.bounds m))

  pub without_row_within : (n : ℕ) → IsWithinLimits model
      → IsWithinLimits (record model { rows = without row_number n model.rows })
  without_row_within n w =
      let rows = w.rows in
      let terms = w.terms in
      record {
        variables = w.variables;
        rows = omega (arith, rows, length_without row_number n model.rows c.rows_rise);
        terms = omega (
          arith,
          terms,
          sum_without row_number (λ r. all_terms r.func) n model.rows
              c.rows_rise,
        );
        group_numbers = w.group_numbers;
        variable_numbers = w.variable_numbers;
        row_numbers = w.row_numbers;
      }
