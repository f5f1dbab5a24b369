-- What a refused step says of the whole.
use Rattle.std.specs.Prelude.{◌≡◌, Result, Ok, Err, IsErrAnd}
use Rattle.std.proofs.Common.{sym, subst, ◌∙◌}
use Rattle.ratio_core.specs.declared.fault.NumberFault.{NumberFault}
use Rattle.ratio_core.specs.declared.fault.NumberFault.TheVariants.{Overflow, Memory}
use Rattle.ratio_core.specs.Answers.{ExactWhere}

by_fault : (e : NumberFault) (P Q : Type 0) {T U : Type 0} (A : T → Type 0) (B : U → Type 0)
    → ExactWhere {T = U} (Err e) P B → (Q → P) → ExactWhere {T = T} (Err e) Q A
by_fault Overflow P Q A B said needs = λ q. said (needs q)
by_fault Memory P Q A B said needs = tt

-- the fault of a step is that of the whole, which needs the step to fit
pub passed_on : {T U : Type 0} (r : Result T NumberFault) (e : NumberFault) (P Q : Type 0)
    (A : T → Type 0) (B : U → Type 0) → IsErrAnd r (λ x. x ≡ e) → ExactWhere {T = U} (Err e) P B
    → (Q → P) → ExactWhere r Q A
passed_on (Ok x) e P Q A B is said needs = absurd is
passed_on (Err x) e P Q A B is said needs =
    subst (λ y. ExactWhere (Err y) Q A) (sym is) (by_fault e P Q A B said needs)

-- a step that overflowed
pub overflowed : {T : Type 0} (r : Result T NumberFault) (e : NumberFault) (Q : Type 0)
    (A : T → Type 0) → IsErrAnd r (λ x. x ≡ e) → e ≡ Overflow → (Q → ⊥) → ExactWhere r Q A
overflowed (Ok x) e Q A is over bars = absurd is
overflowed (Err x) e Q A is over bars = subst (λ y. ExactWhere (Err y) Q A) (sym (is ∙ over)) bars

-- an answer said of one thing, said of another that it is
pub exact_as : {T : Type 0} (r : Result T NumberFault) (P Q : Type 0) (A B : T → Type 0) → (P → Q)
    → (Q → P) → ((x : T) → A x → B x) → ExactWhere r P A → ExactWhere r Q B
exact_as (Ok x) P Q A B there back same said = (there said.0, same x said.1)
exact_as (Err Overflow) P Q A B there back same said = λ q. said (back q)
exact_as (Err Memory) P Q A B there back same said = tt
