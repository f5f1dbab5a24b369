-- How a row is lowered by its number of column q times the step, and stays narrow.
use Rattle.std.specs.Prelude.{◌≡◌, ℕ, ◌+◌, ◌*◌, ◌/◌, ◌^◌, ◌<◌, Bool, true, false, ◌&&◌, nat_lt, Option, Some, None, ℤ, pos, int_div, unsigned_abs}
use Rattle.ratio_core.specs.Gcd.{gcd}
use Rattle.whole_rows.specs.declared.narrow_row.NarrowRow.{NarrowRow}
use Rattle.whole_rows.specs.declared.plan.LongPlan.{LongPlan}
use Rattle.whole_rows.specs.declared.plan.LoweringPlan.{LoweringPlan}
use Rattle.whole_rows.specs.declared.plan.LoweringPlan.TheVariants.{Long, Short}
use Rattle.whole_rows.specs.declared.plan.ShortPlan.{ShortPlan}
use Rattle.whole_rows.specs.Numerators.{over_left}
use Rattle.whole_rows.specs.Rows.{next_bound, next_den, numerator_of, width_of}
use Rattle.whole_rows.specs.Shrinking.{DividesTo, IsBoundedTo}

-- the row's bound and its denominator stay below 2^63 where it is multiplied by `over` and lowered by
-- a multiple of this size
abbrev pub stays_by : ℕ → ℕ → NarrowRow → NarrowRow → Bool
stays_by over size step row =
    nat_lt (row.bound * over + size * step.bound) (2 ^ 63) && nat_lt (row.den * over) (2 ^ 63)

-- by the plan the row is multiplied and lowered by these, and stays narrow
pub record IsPlanBy (o : ℕ) (b : ℤ) (step row : NarrowRow) (plan : ShortPlan) : Type 0 where
  pub over : plan.over ≡ o
  pub by : plan.by ≡ b
  pub bound : plan.bound ≡ row.bound * o + unsigned_abs b * step.bound
  pub den : plan.den ≡ row.den * o
  pub small_bound : plan.bound < 2 ^ 63
  pub small_den : plan.den < 2 ^ 63

-- by the plan the row is lowered and stays narrow
pub record IsShortPlan (q : ℕ) (step row : NarrowRow) (plan : ShortPlan) : Type 0 where
  pub column : q < width_of row
  pub width : width_of step ≡ width_of row
  pub over : plan.over ≡ over_left (numerator_of row q) step.den
  pub by : plan.by ≡ int_div (numerator_of row q)
      (pos (gcd (unsigned_abs (numerator_of row q)) step.den))
  pub bound : plan.bound ≡ next_bound q step row
  pub den : plan.den ≡ next_den q step row
  pub small_bound : plan.bound < 2 ^ 63
  pub small_den : plan.den < 2 ^ 63

-- by the plan the row is lowered and divided, and stays narrow
pub record IsLongPlan (q : ℕ) (step row : NarrowRow) (plan : LongPlan) : Type 0 where
  pub width : width_of step ≡ width_of row
  pub over : plan.over ≡ over_left (numerator_of row q) step.den
  pub by : plan.by ≡ int_div (numerator_of row q)
      (pos (gcd (unsigned_abs (numerator_of row q)) step.den))
  pub divides : DividesTo row step plan.over plan.by (width_of row + 1) plan.common
  pub bounded : IsBoundedTo row step plan.over plan.by plan.common (width_of row + 1) plan.bound
  pub den : plan.den ≡ (row.den / plan.common) * plan.over
  pub small_den : plan.den < 2 ^ 63
  pub small_over : plan.over < 2 ^ 63

abbrev pub IsLoweringPlan : ℕ → NarrowRow → NarrowRow → LoweringPlan → Type 0
IsLoweringPlan q step row (Short plan) = IsShortPlan q step row plan
IsLoweringPlan q step row (Long plan) = IsLongPlan q step row plan

-- there is a plan that doesn't divide
abbrev pub is_short : Option LoweringPlan → Bool
is_short None = false
is_short (Some (Short plan)) = true
is_short (Some (Long plan)) = false
