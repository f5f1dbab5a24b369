-- What a call that tests and may run out of memory tells of its test.
use Rattle.std.specs.Prelude.{◌≡◌, Bool, true, false, Result, Ok, Err}
use Rattle.ratio_core.specs.declared.fault.NumberFault.{NumberFault}
use Rattle.ratio_core.specs.declared.fault.NumberFault.TheVariants.{Memory, Overflow}

-- Overflow says that the test fails, and Memory nothing
abbrev pub Bars : Bool → NumberFault → Type 0
Bars test Overflow = test ≡ false
Bars test Memory = Unit {0}

-- Ok says that the test holds
abbrev pub IsTest : {T : Type 0} → Bool → Result T NumberFault → Type 0
IsTest test (Ok x) = test ≡ true
IsTest test (Err fault) = Bars test fault
