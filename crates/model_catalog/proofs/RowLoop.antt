-- The loop over changes of rows: the state of the exchanges, and the counts of the rows as they
-- stand.
use Rattle.std.proofs.Common.{◌≡◌, ℕ, List, length, Option, Some, None, refl, ap, ◌∙◌, sym}
use Rattle.std.specs.Option.{option_map}
use Rattle.numbered_list.specs.declared.change.Change.{Change}
use Rattle.numbered_list.specs.Numbered.{Rise, find}
use Rattle.numbered_list.specs.ExchangeLaws.{ExchangedSoFar}
use Rattle.user_model.specs.declared.row.Row.{Row}
use Rattle.user_model.specs.Edited.{row_number}
use Rattle.model_catalog.specs.declared.variable.Variable.{Variable}
use Rattle.model_catalog.specs.Index.{CountsBounds, recounted, variable_number}

pub record RowsSoFar (start now : List Row) (changes left : List (Change Row))
    (i capacity least : ℕ) (kept_start kept : List Variable) : Type 0 where
  pub rows : ExchangedSoFar row_number start now changes left i capacity least
  pub rising : Rise variable_number kept
  pub entries : (n : ℕ) → find variable_number n kept ≡ option_map (recounted now)
      (find variable_number n kept_start)
  pub count : length kept ≡ length kept_start

recounted_twice : (rows others : List Row) (o : Option Variable)
    → option_map (recounted rows) (option_map (recounted others) o) ≡ option_map (recounted rows) o
recounted_twice rows others None = refl
recounted_twice rows others (Some v) = refl

pub counts_now : (now : List Row) (kept_start kept : List Variable)
    → ((n : ℕ) → find variable_number n kept ≡ option_map (recounted now)
    (find variable_number n kept_start)) → CountsBounds now kept
counts_now now kept_start kept h n =
    h n ∙ (sym (recounted_twice now now (find variable_number n kept_start))
    ∙ ap (option_map (recounted now)) (sym (h n)))

pub counts_after : (now after : List Row) (kept_start kept kept_after : List Variable)
    → ((n : ℕ) → find variable_number n kept ≡ option_map (recounted now)
    (find variable_number n kept_start))
    → ((n : ℕ) → find variable_number n kept_after ≡ option_map (recounted after)
    (find variable_number n kept)) → (n : ℕ) → find variable_number n kept_after
    ≡ option_map (recounted after) (find variable_number n kept_start)
counts_after now after kept_start kept kept_after h is n =
    is n ∙ (ap (option_map (recounted after)) (h n)
    ∙ recounted_twice after now (find variable_number n kept_start))
