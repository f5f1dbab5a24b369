-- Answers that may be a fault.
use Rattle.std.specs.Prelude.{Bool, Result, Ok, Err, IsTrue, ◌↔◌}
use Rattle.set_core.specs.declared.fault.SetOverflow.{SetOverflow}

-- whether P holds, exactly where what it takes fits
abbrev pub TellsWhere : Result Bool SetOverflow → Type 0 → Type 0 → Type 0
TellsWhere (Ok holds) fits P = fits × (IsTrue holds ↔ P)
TellsWhere (Err overflow) fits P = ¬ fits
