-- Answers that are an overflow at a row or a variable, and such answers handed on.
use Rattle.std.specs.Prelude.{◌≡◌, ℕ, List, Result, Ok, Err, IsErrAnd}
use Rattle.std.proofs.Common.{subst, sym}
use Rattle.report_core.specs.declared.refused.Place.TheVariants as place
use Rattle.dualization.specs.declared.fault.DualFault.{DualFault}
use Rattle.dualization.specs.declared.fault.DualFault.TheVariants.{Memory, Overflow}
use Rattle.dualization.specs.Told.{IsAtRow, IsAtVariable, TellsOfDual}

module _ {T : Type 0} (Q : T → Type 0) (R V : List ℕ → Type 0) where
  pub told_row : (fault : DualFault) (name : List ℕ) → IsAtRow (λ n. n ≡ name) fault → R name
      → TellsOfDual {T = T} (Err fault) Q R V
  told_row (Overflow (place.Row n)) name e r = subst R (sym e) r
  told_row (Overflow (place.Var n)) name e r = absurd e
  told_row (Overflow place.Line) name e r = absurd e
  told_row (Overflow place.Objective) name e r = absurd e
  told_row (Overflow place.Solver) name e r = absurd e
  told_row (Overflow place.Check) name e r = absurd e
  told_row Memory name e r = tt

  pub told_variable : (fault : DualFault) (name : List ℕ) → IsAtVariable (λ n. n ≡ name) fault
      → V name → TellsOfDual {T = T} (Err fault) Q R V
  told_variable (Overflow (place.Row n)) name e r = absurd e
  told_variable (Overflow (place.Var n)) name e r = subst V (sym e) r
  told_variable (Overflow place.Line) name e r = absurd e
  told_variable (Overflow place.Objective) name e r = absurd e
  told_variable (Overflow place.Solver) name e r = absurd e
  told_variable (Overflow place.Check) name e r = absurd e
  told_variable Memory name e r = tt

-- a fault handed on, where it may say more
pub told_on : {S T : Type 0} (fault : DualFault) (P : S → Type 0) (Q : T → Type 0)
    (R V U W : List ℕ → Type 0) → TellsOfDual {T = S} (Err fault) P R V
    → ((name : List ℕ) → R name → U name) → ((name : List ℕ) → V name → W name)
    → TellsOfDual {T = T} (Err fault) Q U W
told_on (Overflow (place.Row n)) P Q R V U W h f g = f n h
told_on (Overflow (place.Var n)) P Q R V U W h f g = g n h
told_on (Overflow place.Line) P Q R V U W h f g = absurd h
told_on (Overflow place.Objective) P Q R V U W h f g = absurd h
told_on (Overflow place.Solver) P Q R V U W h f g = absurd h
told_on (Overflow place.Check) P Q R V U W h f g = absurd h
told_on Memory P Q R V U W h f g = tt

-- the fault of a step is that of the whole
pub told_passed : {S T : Type 0} (r : Result T DualFault) (fault : DualFault) (P : S → Type 0)
    (Q : T → Type 0) (R V U W : List ℕ → Type 0) → IsErrAnd r (λ x. x ≡ fault)
    → TellsOfDual {T = S} (Err fault) P R V → ((name : List ℕ) → R name → U name)
    → ((name : List ℕ) → V name → W name) → TellsOfDual {T = T} r Q U W
told_passed (Ok x) fault P Q R V U W is h f g = absurd is
told_passed (Err x) fault P Q R V U W is h f g =
    subst (λ y. TellsOfDual (Err y) Q U W) (sym is) (told_on fault P Q R V U W h f g)
