-- What contracts see of a view that reads a user's model an item at a time: the model, and how often
-- it was read.
use Rattle.std.specs.Prelude.{ℕ, ◌+◌, ◌-◌, ◌^◌, min, refl}
use Rattle.std.specs.Coded.{Coded, code_by, coded×, coded_ℕ}
use Rattle.model_catalog.specs.Catalog.{model_code}
use Rattle.user_model.specs.Model.{ModelValue}

pub record ReadModel : Type 0 where
  pub model : ModelValue
  pub reads : ℕ

abbrev pub read_code : Coded ReadModel
read_code =
    code_by (ModelValue × ℕ) (coded× model_code coded_ℕ) (λ r. (r.model, r.reads))
    (λ p. record { model = p.0; reads = p.1 }) (λ _. refl)

-- one read more, or the last number of 64 bits
abbrev pub read_once_more : ReadModel → ReadModel
read_once_more read = record read { reads = min (read.reads + 1) (2 ^ 64 - 1) }
