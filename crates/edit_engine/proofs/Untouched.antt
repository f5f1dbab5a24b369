-- Refused lines leave all of the cache but its bridges' turns.
use Rattle.std.specs.Prelude.{◌≡◌, ℕ, Option, Result, Ok, Err, IfOk}
use Rattle.std.specs.Result.{result_unwrap_or}
use Rattle.std.proofs.Common.{sym, subst}
use Rattle.lists.specs.declared.memory.Memory.{Memory as NoMemory}
use Rattle.cache_layer.specs.Answers.{UnlessAttached, UnlessRefused, as_edits}
use Rattle.cache_layer.specs.Cached.{Cached}
use Rattle.cache_layer.specs.declared.fault.AttachFault.{AttachFault}
use Rattle.cache_layer.specs.declared.fault.AttachFault.TheVariants as attach
use Rattle.cache_layer.specs.declared.fault.EditFault.{EditFault}
use Rattle.cache_layer.specs.declared.fault.EditFault.TheVariants as edit
use Rattle.cache_layer.specs.declared.fault.GroupFault.{GroupFault}
use Rattle.cache_layer.specs.declared.fault.GroupFault.TheVariants as group
use Rattle.report_core.specs.declared.answer.Answer.{Answer}
use Rattle.report_core.specs.declared.answer.Answer.TheVariants.{Memory}
use Rattle.edit_engine.specs.Held.{KeepsRefused}
use Rattle.edit_engine.specs.Script.{attach_answer, edit_answer, group_answer}

-- what is printed of what a call gave
told_keeps : {A : Type 0} (text : A → Answer) (given : A) (old new : Cached)
    (result : Result Answer NoMemory) → KeepsRefused (text given) old new
    → IfOk result (λ answer. answer ≡ text given)
    → IfOk result (λ answer. KeepsRefused answer old new)
told_keeps text given old new (Ok answer) h is =
    subst (λ (a : Answer). KeepsRefused a old new) (sym is) h
told_keeps text given old new (Err memory) h is = tt

edit_keeps : (made : Result (Option ℕ) EditFault) (old new : Cached)
    → UnlessRefused made old new → KeepsRefused (edit_answer made) old new
edit_keeps (Ok count) old new h = tt
edit_keeps (Err (edit.Refused refusal)) old new h = h
edit_keeps (Err (edit.Unsupported kind)) old new h = h
edit_keeps (Err (edit.Overflow place)) old new h = h
edit_keeps (Err edit.Memory) old new h = tt

pub edit_untouched : (made : Result (Option ℕ) EditFault) (old new : Cached)
    (result : Result Answer NoMemory) → UnlessRefused made old new
    → IfOk result (λ answer. answer ≡ edit_answer made)
    → IfOk result (λ answer. KeepsRefused answer old new)
edit_untouched made old new result h is =
    told_keeps edit_answer made old new result (edit_keeps made old new h) is

group_keeps : (made : Result (Option ℕ) GroupFault) (old new : Cached)
    → UnlessRefused (as_edits made) old new → KeepsRefused (group_answer made) old new
group_keeps (Ok count) old new h = tt
group_keeps (Err (group.Refused index refusal)) old new h = h
group_keeps (Err (group.Unsupported kind)) old new h = h
group_keeps (Err (group.Overflow place)) old new h = h
group_keeps (Err group.Memory) old new h = tt

pub group_untouched : (made : Result (Option ℕ) GroupFault) (old new : Cached)
    (result : Result Answer NoMemory) → UnlessRefused (as_edits made) old new
    → IfOk result (λ answer. answer ≡ group_answer made)
    → IfOk result (λ answer. KeepsRefused answer old new)
group_untouched made old new result h is =
    told_keeps group_answer made old new result (group_keeps made old new h) is

attach_keeps : (made : Result ℕ AttachFault) (old new : Cached)
    → UnlessAttached made old new → KeepsRefused (attach_answer made) old new
attach_keeps (Ok count) old new h = tt
attach_keeps (Err attach.AlreadyAttached) old new h = h
attach_keeps (Err (attach.Unsupported kind)) old new h = h
attach_keeps (Err (attach.Overflow place)) old new h = h
attach_keeps (Err attach.Memory) old new h = tt

pub attach_untouched : (made : Result ℕ AttachFault) (old new : Cached)
    (result : Result Answer NoMemory) → UnlessAttached made old new
    → IfOk result (λ answer. answer ≡ attach_answer made)
    → IfOk result (λ answer. KeepsRefused answer old new)
attach_untouched made old new result h is =
    told_keeps attach_answer made old new result (attach_keeps made old new h) is

-- where memory runs out nothing is reported
pub untouched_or : (old new : Cached) (made : Result Answer NoMemory) (result : Answer)
    → result ≡ result_unwrap_or made Memory → IfOk made (λ answer. KeepsRefused answer old new)
    → KeepsRefused result old new
untouched_or old new made result is h =
    subst (λ (a : Answer). KeepsRefused a old new) (sym is) (by made h)
  where
    by : (made : Result Answer NoMemory) → IfOk made (λ answer. KeepsRefused answer old new)
        → KeepsRefused (result_unwrap_or made Memory) old new
    by (Ok answer) h = h
    by (Err memory) h = tt
