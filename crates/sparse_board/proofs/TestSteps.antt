-- Calls that test, and may run out of memory.
use Rattle.std.specs.Prelude.{◌≡◌, ◌&&◌, Bool, false, IsErrAnd, Result, Ok, Err}
use Rattle.std.proofs.Common.{refl, sym, ◌∙◌, subst}
use Rattle.ratio_core.specs.declared.fault.NumberFault.{NumberFault}
use Rattle.ratio_core.specs.declared.fault.NumberFault.TheVariants.{Memory, Overflow}
use Rattle.sparse_board.specs.Testing.{Bars, IsTest}

-- a fault is handed on, of a test that another follows from
pub refused : (a b : Bool) (fault : NumberFault) → (a ≡ false → b ≡ false) → Bars a fault
    → Bars b fault
refused a b Overflow f h = f h
refused a b Memory f h = tt

pub refused_on : {T : Type 0} (r : Result T NumberFault) (a b : Bool) (fault : NumberFault)
    → IsErrAnd r (λ e. e ≡ fault) → (a ≡ false → b ≡ false) → Bars a fault → IsTest b r
refused_on (Ok x) a b fault is f h = absurd is
refused_on (Err e) a b fault is f h = subst (Bars b) (sym is) (refused a b fault f h)

pub memory_on : {T : Type 0} (r : Result T NumberFault) (b : Bool) → IsErrAnd r (λ e. e ≡ Memory)
    → IsTest b r
memory_on (Ok x) b is = absurd is
memory_on (Err e) b is = subst (Bars b) (sym is) tt

pub overflow_on : {T : Type 0} (r : Result T NumberFault) (b : Bool)
    → IsErrAnd r (λ e. e ≡ Overflow) → b ≡ false → IsTest b r
overflow_on (Ok x) b is h = absurd is
overflow_on (Err e) b is h = subst (Bars b) (sym is) h

pub test_same : {T : Type 0} (r : Result T NumberFault) (a b : Bool) → a ≡ b → IsTest a r
    → IsTest b r
test_same r a b e h = subst (λ t. IsTest t r) e h

pub left_fails : (a b : Bool) → a ≡ false → (a && b) ≡ false
left_fails a b e = λ i. e i && b

-- where memory ran out nothing is said, and an overflow says that the test fails
fault_lem : {T : Type 0} (r : Result T NumberFault) (e : NumberFault) → r ≡ Err e
    → r ≡ Err Overflow → e ≡ Overflow
fault_lem r e p q = cc

pub barred : {T : Type 0} (r : Result T NumberFault) (test : Bool) (fault : NumberFault)
    → IsErrAnd r (λ e. e ≡ fault) → Bars test fault → r ≡ Err Overflow → test ≡ false
barred (Ok x) test fault is h of = absurd is
barred (Err e) test fault is h of = subst (Bars test) (sym is ∙ fault_lem (Err e) e refl of) h
