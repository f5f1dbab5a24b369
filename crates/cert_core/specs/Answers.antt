-- Answers that may be a fault.
use Rattle.std.specs.Prelude.{Bool, Result, IsTrue, ◌↔◌}
use Rattle.ratio_core.specs.declared.fault.NumberFault.{NumberFault}
use Rattle.ratio_core.specs.Answers.{ExactWhere}

-- whether P holds, exactly where what it takes fits
abbrev pub TellsWhereFits : Result Bool NumberFault → Type 0 → Type 0 → Type 0
TellsWhereFits result fits P = ExactWhere result fits (λ holds. IsTrue holds ↔ P)
