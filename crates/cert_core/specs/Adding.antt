-- Numbers added to sums, one for each variable.
use Rattle.std.specs.Prelude.{◌≡◌, List, All, Result, map, unwrap_or}
use Rattle.std.specs.FinMap as finite
use Rattle.ratio_core.specs.Folds.{sum_from}
use Rattle.ratio_core.specs.Rational.{Rational, Fits, zero_ℚ}
use Rattle.ratio_core.specs.declared.fault.NumberFault.{NumberFault}
use Rattle.ratio_core.specs.Answers.{ExactWhere}
use Rattle.aff_core.specs.Address.{Address, address_cmp}
use Rattle.cert_core.specs.Folds.{AddUp}

-- the coefficient that terms in the order of their addresses have of one
abbrev pub coefficient_among : List (Address × Rational) → Address → Rational
coefficient_among ts v = unwrap_or (finite.find address_cmp v ts) zero_ℚ

-- each variable's parts are added to its sum
abbrev pub AddsAt : Result (Unit {0}) NumberFault → List Address → List Rational → List Rational
    → (Address → List Rational) → Type 0
AddsAt result us before after parts =
    (x : Address → Rational) → before ≡ map x us → All (λ v. Fits (x v)) us
    → ExactWhere result (All (λ v. AddUp (x v) (parts v)) us)
    (λ _. after ≡ map (λ v. sum_from (x v) (parts v)) us)
