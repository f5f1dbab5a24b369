-- What the check of a certificate answers.
use Rattle.std.specs.Prelude.{◌≡◌, ◌↔◌, Bool, IsTrue, List, length, All, Result, Ok, Err}
use Rattle.ratio_core.specs.Rational.{Rational}
use Rattle.ratio_core.specs.declared.fault.NumberFault.{NumberFault}
use Rattle.ratio_core.specs.declared.fault.NumberFault.TheVariants.{Overflow, Memory}
use Rattle.dual_laws.specs.Held.{DualRow}
use Rattle.user_model.specs.declared.group.Group.{Group}
use Rattle.user_model.specs.declared.objective.Objective.{Objective}
use Rattle.user_model.specs.declared.row.Row.{Row}
use Rattle.user_model.specs.declared.undo.NextNumbers.{NextNumbers}
use Rattle.user_model.specs.Model.{ModelValue, variables}
use Rattle.certificates.specs.declared.certificate.Certificate.{Certificate}
use Rattle.certificates.specs.declared.certificate.Certificate.TheVariants.{Optimal, Infeasible, Unbounded}
use Rattle.certificates.specs.Duals.{rows_with}
use Rattle.certificates.specs.Good.{Good}
use Rattle.cert_core.specs.Folds.{CertificateFits}

abbrev pub model_of : List Group → List Row → Objective → NextNumbers → ModelValue
model_of groups rows objective next =
    record { groups = groups; rows = rows; objective = objective; next = next }

-- ---- the numbers of entries

-- a number for each component
abbrev pub HasEachDual : DualRow → Type 0
HasEachDual h = length h.duals ≡ length h.functions

-- a list for each row, of a number for each component
pub record HasRowDuals (rows : List Row) (duals : List (List Rational)) : Type 0 where
  pub each : length duals ≡ length rows
  pub components : All HasEachDual (rows_with duals rows)

module _ (model : ModelValue) where
  -- a number for each variable
  abbrev pub HasPoint : List Rational → Type 0
  HasPoint x = length x ≡ length (variables model)

  -- the numbers of entries are right
  abbrev pub HasEntries : Certificate → Type 0
  HasEntries (Optimal value x rows vars) =
      HasPoint x × HasRowDuals model.rows rows × HasPoint vars
  HasEntries (Infeasible gap rows vars) = HasRowDuals model.rows rows × HasPoint vars
  HasEntries (Unbounded x d) = HasPoint x × HasPoint d

  -- ---- the answer

  -- yes exactly where the certificate is good; an overflow exactly where the numbers of entries
  -- are right, and something of its kind doesn't fit
  abbrev pub Checks : Result Bool NumberFault → Certificate → Type 0
  Checks (Ok is_good) c = (IsTrue is_good ↔ Good model c) × (HasEntries c → CertificateFits model c)
  Checks (Err Overflow) c = HasEntries c × ¬ (CertificateFits model c)
  Checks (Err Memory) c = Unit {0}
