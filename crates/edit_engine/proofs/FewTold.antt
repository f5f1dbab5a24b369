-- How few calls a line takes, by what the call behind it was answered.
use Rattle.std.specs.Prelude.{◌≡◌, ◌≢◌, ◌<◌, ◌^◌, ℕ, Bool, true, false, List, Option, None, Some, Result, Ok, Err, IfOk, refl}
use Rattle.std.specs.Result.{result_unwrap_or}
use Rattle.std.proofs.Common.{arith, sym, subst, true≢false, ◌∙◌}
use Rattle.lists.specs.declared.memory.Memory.{Memory as NoMemory}
use Rattle.cache_layer.specs.Answers.{Becomes, IsAttached, IsEdited, IsGroupAnswer, as_edits}
use Rattle.cache_layer.specs.FewCalls.{AttachesFew, EditsFew}
use Rattle.cache_layer.specs.FewCallsLaws.{few_more, few_same}
use Rattle.cache_layer.specs.CacheState.{CacheState, with_model}
use Rattle.cache_layer.specs.declared.fault.AttachFault.{AttachFault}
use Rattle.cache_layer.specs.declared.fault.AttachFault.TheVariants as attach
use Rattle.cache_layer.specs.declared.fault.EditFault.{EditFault}
use Rattle.cache_layer.specs.declared.fault.EditFault.TheVariants as edit
use Rattle.cache_layer.specs.declared.fault.GroupFault.{GroupFault}
use Rattle.cache_layer.specs.declared.fault.GroupFault.TheVariants as group
use Rattle.lazy_bridge.specs.Few.{ChangesFew}
use Rattle.lazy_bridge.specs.Owned.{Owned}
use Rattle.report_core.specs.declared.answer.Answer.{Answer}
use Rattle.report_core.specs.declared.answer.Answer.TheVariants.{Memory, Printed, Quit, ReadFault, Refused, Silent, TooLong}
use Rattle.report_core.specs.Replies.{done_text}
use Rattle.user_model.specs.declared.edit.Edit.{Edit}
use Rattle.edit_engine.specs.CountLaws.{changes_fit, count_done, leaves_fit}
use Rattle.edit_engine.specs.Counts.{TakesFew, count_in}
use Rattle.edit_engine.specs.Script.{attach_answer, edit_answer, group_answer}

-- ---- no call

-- whatever is answered
pub takes_none : (answer : Answer) (old new : Owned) → ChangesFew old 0 new
    → TakesFew answer old new
takes_none Silent old new few = few
takes_none (Printed text) old new few = few_more old new 0 (count_in text) (omega arith) few
takes_none (Refused text) old new few = few
takes_none Quit old new few = few
takes_none ReadFault old new few = few
takes_none TooLong old new few = few
takes_none Memory old new few = tt

pub few_none : (result : Result Answer NoMemory) (old new : Owned) → ChangesFew old 0 new
    → IfOk result (λ answer. TakesFew answer old new)
few_none (Ok answer) old new few = takes_none answer old new few
few_none (Err memory) old new few = tt

-- the cache's bridging stays
pub few_stays : (result : Result Answer NoMemory) (old new : Owned) → new ≡ old
    → IfOk result (λ answer. TakesFew answer old new)
few_stays result old new same = few_none result old new (few_same old new same)

-- ---- what is printed of what a call gave

few_said : {A : Type 0} (text : A → Answer) (given : A) (old new : Owned)
    (result : Result Answer NoMemory) → TakesFew (text given) old new
    → IfOk result (λ answer. answer ≡ text given)
    → IfOk result (λ answer. TakesFew answer old new)
few_said text given old new (Ok answer) few is =
    subst (λ (a : Answer). TakesFew a old new) (sym is) few
few_said text given old new (Err memory) few is = tt

-- ---- an edit, or another table

edit_takes : (made : Result (Option ℕ) EditFault) (old new : Owned)
    → ((n : ℕ) → made ≡ Ok (Some n) → n < 2 ^ 64) → EditsFew made old new
    → TakesFew (edit_answer made) old new
edit_takes (Ok None) old new fits few =
    few_more old new 0 (count_in (done_text None)) (omega arith) few
edit_takes (Ok (Some n)) old new fits few =
    subst (λ k. ChangesFew old k new) (sym (count_done n (fits n refl))) few
edit_takes (Err (edit.Refused refusal)) old new fits few = few
edit_takes (Err (edit.Unsupported kind)) old new fits few = few
edit_takes (Err (edit.Overflow place)) old new fits few = few
edit_takes (Err edit.Memory) old new fits few = tt

edit_fits : (s t : CacheState) (change : Edit) (made : Result (Option ℕ) EditFault)
    → IsEdited s change made t → (n : ℕ) → made ≡ Ok (Some n) → n < 2 ^ 64
edit_fits s t change made is n same =
    let done = subst (λ r. IsEdited s change r t) same is in changes_fit _ _ n done.1.1

table_fits : (s next t : CacheState) (made : Result (Option ℕ) EditFault) → Becomes s next made t
    → (n : ℕ) → made ≡ Ok (Some n) → n < 2 ^ 64
table_fits s next t made is n same =
    let done = subst (λ r. Becomes s next r t) same is in changes_fit s next n done.1

pub edit_told : (s t : CacheState) (change : Edit) (made : Result (Option ℕ) EditFault) (old new : Owned)
    (result : Result Answer NoMemory) → IsEdited s change made t → EditsFew made old new
    → IfOk result (λ answer. answer ≡ edit_answer made)
    → IfOk result (λ answer. TakesFew answer old new)
edit_told s t change made old new result is few =
    few_said edit_answer made old new result
    (edit_takes made old new (edit_fits s t change made is) few)

pub table_told : (s next t : CacheState) (made : Result (Option ℕ) EditFault) (old new : Owned)
    (result : Result Answer NoMemory) → Becomes s next made t → EditsFew made old new
    → IfOk result (λ answer. answer ≡ edit_answer made)
    → IfOk result (λ answer. TakesFew answer old new)
table_told s next t made old new result is few =
    few_said edit_answer made old new result
    (edit_takes made old new (table_fits s next t made is) few)

-- ---- a group of edits

group_takes : (made : Result (Option ℕ) GroupFault) (old new : Owned)
    → ((n : ℕ) → made ≡ Ok (Some n) → n < 2 ^ 64) → EditsFew (as_edits made) old new
    → TakesFew (group_answer made) old new
group_takes (Ok None) old new fits few =
    few_more old new 0 (count_in (done_text None)) (omega arith) few
group_takes (Ok (Some n)) old new fits few =
    subst (λ k. ChangesFew old k new) (sym (count_done n (fits n refl))) few
group_takes (Err (group.Refused index refusal)) old new fits few = few
group_takes (Err (group.Unsupported kind)) old new fits few = few
group_takes (Err (group.Overflow place)) old new fits few = few
group_takes (Err group.Memory) old new fits few = tt

group_fits : (s t : CacheState) (edits : List Edit) (made : Result (Option ℕ) GroupFault)
    → IsGroupAnswer s edits made t → (n : ℕ) → made ≡ Ok (Some n) → n < 2 ^ 64
group_fits s t edits made is n same =
    let done = subst (λ r. IsGroupAnswer s edits r t) same is in
    changes_fit s (with_model s done.0) n done.2.1

pub group_told : (s t : CacheState) (edits : List Edit) (made : Result (Option ℕ) GroupFault)
    (old new : Owned) (result : Result Answer NoMemory) → IsGroupAnswer s edits made t
    → EditsFew (as_edits made) old new → IfOk result (λ answer. answer ≡ group_answer made)
    → IfOk result (λ answer. TakesFew answer old new)
group_told s t edits made old new result is few =
    few_said group_answer made old new result
    (group_takes made old new (group_fits s t edits made is) few)

-- where no solver is attached no number is answered
none_there : (s next t : CacheState) (count : Option ℕ) (old new : Owned)
    → Becomes s next (Ok count) t
    → s.attached ≡ false → EditsFew (Ok count) old new → ChangesFew old 0 new
none_there s next t None old new is off few = few
none_there s next t (Some n) old new is off few = absurd (true≢false (sym is.0 ∙ off))

pub preset_few : (s next t : CacheState) (made : Result (Option ℕ) EditFault) (count : Option ℕ)
    (old new : Owned) → made ≡ Ok count → Becomes s next made t → s.attached ≡ false
    → EditsFew made old new → ChangesFew old 0 new
preset_few s next t made count old new same is off few =
    none_there s next t count old new (subst (λ r. Becomes s next r t) same is) off
    (subst (λ r. EditsFew r old new) same few)

-- ---- a solver is attached

attach_takes : (s t : CacheState) (made : Result ℕ AttachFault) (old new : Owned)
    → IsAttached s made t
    → AttachesFew made old new → TakesFew (attach_answer made) old new
attach_takes s t (Ok n) old new is few =
    subst (λ k. ChangesFew old k new) (sym (count_done n (leaves_fit s n is.1))) few
attach_takes s t (Err attach.AlreadyAttached) old new is few = few
attach_takes s t (Err (attach.Unsupported kind)) old new is few = few
attach_takes s t (Err (attach.Overflow place)) old new is few = few
attach_takes s t (Err attach.Memory) old new is few = tt

pub attach_told : (s t : CacheState) (made : Result ℕ AttachFault) (old new : Owned)
    (result : Result Answer NoMemory) → IsAttached s made t → AttachesFew made old new
    → IfOk result (λ answer. answer ≡ attach_answer made)
    → IfOk result (λ answer. TakesFew answer old new)
attach_told s t made old new result is few =
    few_said attach_answer made old new result (attach_takes s t made old new is few)

-- ---- where memory runs out nothing is reported

pub few_or : (old new : Owned) (made : Result Answer NoMemory) (result : Answer)
    → result ≡ result_unwrap_or made Memory → IfOk made (λ answer. TakesFew answer old new)
    → TakesFew result old new
few_or old new made result is h =
    subst (λ (a : Answer). TakesFew a old new) (sym is) (by made h)
  where
    by : (made : Result Answer NoMemory) → IfOk made (λ answer. TakesFew answer old new)
        → TakesFew (result_unwrap_or made Memory) old new
    by (Ok answer) h = h
    by (Err memory) h = tt
