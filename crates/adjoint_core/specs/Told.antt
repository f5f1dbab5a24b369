-- Answers that may be an overflow at an address.
use Rattle.std.specs.Prelude.{◌≡◌, ◌⊎◌, List, [], ◌∷◌, Result, Ok, Err}
use Rattle.ratio_core.specs.declared.fault.NumberFault.{NumberFault}
use Rattle.ratio_core.specs.declared.fault.NumberFault.TheVariants as number
use Rattle.aff_core.specs.Address.{Address}
use Rattle.adjoint_core.specs.declared.fault.BackFault.{BackFault}
use Rattle.adjoint_core.specs.declared.fault.BackFault.TheVariants.{Memory, Overflow}

-- a value with Q exactly where P holds, and else an overflow at this address; of running out of
-- memory nothing is said
abbrev pub TellsCarried : {T : Type 0} → Result T BackFault → Type 0 → (T → Type 0)
    → (Address → Type 0)
    → Type 0
TellsCarried (Ok x) P Q Told = P × Q x
TellsCarried (Err (Overflow at)) P Q Told = Told at
TellsCarried (Err Memory) P Q Told = Unit {0}

-- the overflow is at this address
abbrev pub TellsCarriedAt : {T : Type 0} → Result T BackFault → Type 0 → (T → Type 0) → Address
    → Type 0
TellsCarriedAt result P Q place = TellsCarried result P Q (λ at. ¬ P × (place ≡ at))

-- the first of the things that isn't P is at the address
unfoldable pub FirstNot : {X : Type 0} → (X → Type 0) → (X → Address) → List X → Address → Type 0
FirstNot P place [] at = ⊥
FirstNot P place (x ∷ xs) at =
    (¬ (P x) × (place x ≡ at)) ⊎ (P x × FirstNot P place xs at)

-- a fault of the layers below, told at an address
abbrev pub told_at : Address → NumberFault → BackFault
told_at at number.Overflow = Overflow at
told_at at number.Memory = Memory
