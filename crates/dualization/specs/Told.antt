-- Answers that may be an overflow at a row or a variable.
use Rattle.std.specs.Prelude.{ℕ, List, Result, Ok, Err}
use Rattle.report_core.specs.declared.refused.Place.{Place}
use Rattle.report_core.specs.declared.refused.Place.TheVariants as place
use Rattle.dualization.specs.declared.fault.DualFault.{DualFault}
use Rattle.dualization.specs.declared.fault.DualFault.TheVariants.{Memory, Overflow}

-- the overflow is at a row whose name is R, or at a variable whose name is V
abbrev pub IsAtRowOrVariable : (List ℕ → Type 0) → (List ℕ → Type 0) → Place → Type 0
IsAtRowOrVariable R V (place.Row name) = R name
IsAtRowOrVariable R V (place.Var name) = V name
IsAtRowOrVariable R V _ = ⊥

-- a value that is Q, or such an overflow; of running out of memory nothing is said
abbrev pub TellsOfDual : {T : Type 0} → Result T DualFault → (T → Type 0) → (List ℕ → Type 0)
    → (List ℕ → Type 0) → Type 0
TellsOfDual (Ok x) Q R V = Q x
TellsOfDual (Err (Overflow at)) Q R V = IsAtRowOrVariable R V at
TellsOfDual (Err Memory) Q R V = Unit {0}

abbrev pub IsAtRow : (List ℕ → Type 0) → DualFault → Type 0
IsAtRow R (Overflow at) = IsAtRowOrVariable R (λ _. ⊥) at
IsAtRow R Memory = Unit {0}

abbrev pub IsAtVariable : (List ℕ → Type 0) → DualFault → Type 0
IsAtVariable V (Overflow at) = IsAtRowOrVariable (λ _. ⊥) V at
IsAtVariable V Memory = Unit {0}
