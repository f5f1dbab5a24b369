-- How many terms the rows have that changes put in.
use Rattle.std.specs.Prelude.{ℕ, List, sum_by, Option}
use Rattle.numbered_list.specs.declared.change.Change.{Change}
use Rattle.user_model.specs.declared.row.Row.{Row}
use Rattle.user_model.specs.Functions.{all_terms}
use Rattle.model_catalog.specs.Index.{weight}

abbrev pub content_terms : Option Row → ℕ
content_terms row = weight (λ r. all_terms r.func) row

abbrev pub changed_terms : List (Change Row) → ℕ
changed_terms changes = sum_by (λ c. content_terms c.content) changes
