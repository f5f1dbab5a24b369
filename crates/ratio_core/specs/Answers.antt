-- Answers that may be a fault of numbers.
use Rattle.std.specs.Prelude.{Result, Ok, Err}
use Rattle.ratio_core.specs.declared.fault.NumberFault.{NumberFault}
use Rattle.ratio_core.specs.declared.fault.NumberFault.TheVariants.{Overflow, Memory}

-- a value with Q exactly where P holds, and else Overflow; or running out of memory, of which
-- nothing is said
abbrev pub ExactWhere : {T : Type 0} → Result T NumberFault → Type 0 → (T → Type 0) → Type 0
ExactWhere (Ok x) P Q = P × Q x
ExactWhere (Err Overflow) P Q = ¬ P
ExactWhere (Err Memory) P Q = Unit {0}
