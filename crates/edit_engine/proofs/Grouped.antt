-- Which group a line leaves, and what it answers while one is open.
use Rattle.std.specs.Prelude.{◌≡◌, ◌≢◌, ◌&&◌, ◌∷◌, ◌++◌, ℕ, Bool, true, false, List, [], Option, None, Some, Result, Ok, Err, IfOk, OnOk, refl}
use Rattle.std.specs.Result.{result_unwrap_or}
use Rattle.std.proofs.Common.{ap, sym, ◌∙◌, true≢false}
use Rattle.lists.specs.declared.memory.Memory.{Memory as NoMemory}
use Rattle.cache_layer.specs.CacheState.{CacheState}
use Rattle.report_core.specs.declared.answer.Answer.{Answer}
use Rattle.report_core.specs.declared.answer.Answer.TheVariants.{Memory, Printed, ReadFault, Refused}
use Rattle.report_core.specs.declared.refused.Refused as reason
use Rattle.script_core.specs.declared.command.Command.{Command}
use Rattle.script_core.specs.declared.command.Command.TheVariants as line
use Rattle.script_core.specs.declared.fault.LineFault.{LineFault}
use Rattle.user_model.specs.declared.edit.Edit.{Edit}
use Rattle.edit_engine.specs.LinesLaws.{fetches}
use Rattle.edit_engine.specs.Lines.{asks_by}
use Rattle.edit_engine.specs.Script.{DoesAlone, Machine, Makes, edits_after, group_after, group_by, held, is_end, is_printed}
use Rattle.io_face.specs.Shelf.{AsksFor}
use Rattle.io_face.specs.ToldLaws.{asks_none}
use Rattle.file_answers.specs.FileAnswers.{refused}

-- a refusal leaves the group
pub refused_stays : (r : Result Answer NoMemory) (group : Option (List Edit))
    (said : Result Command LineFault) (why : reason.Refused)
    → IfOk r (λ answer. answer ≡ refused why)
    → IfOk r (λ answer. group ≡ group_after group said answer)
refused_stays (Ok answer) group said why is = ap (group_after group said) (sym is)
refused_stays (Err memory) group said why is = tt

-- ---- in an open group

-- an edit is appended
pub held_more : (r : Result Answer NoMemory) (edits more : List Edit) (e : Edit)
    → OnOk r (more ≡ edits ++ e ∷ []) → IfOk r (λ answer. answer ≡ held)
    → IfOk r (λ answer. more ≡ edits_after edits answer (line.Edit e))
held_more (Ok answer) edits more e longer is =
    longer ∙ ap (λ (a : Answer). edits_after edits a (line.Edit e)) (sym is)
held_more (Err memory) edits more e longer is = tt

-- a commit, `abandon` and a refusal append nothing
pub commit_keeps : (r : Result Answer NoMemory) (edits : List Edit)
    → IfOk r (λ answer. edits ≡ edits_after edits answer line.Commit)
commit_keeps (Ok (Printed text)) edits = refl
commit_keeps (Ok _) edits = refl
commit_keeps (Err memory) edits = tt

pub abandon_keeps : (r : Result Answer NoMemory) (edits : List Edit)
    → IfOk r (λ answer. edits ≡ edits_after edits answer line.Abandon)
abandon_keeps (Ok (Printed text)) edits = refl
abandon_keeps (Ok _) edits = refl
abandon_keeps (Err memory) edits = tt

pub refused_keeps : (r : Result Answer NoMemory) (edits : List Edit) (command : Command)
    (why : reason.Refused) → IfOk r (λ answer. answer ≡ refused why)
    → IfOk r (λ answer. edits ≡ edits_after edits answer command)
refused_keeps (Ok answer) edits command why is =
    ap (λ (a : Answer). edits_after edits a command) (sym is)
refused_keeps (Err memory) edits command why is = tt

-- the group stays open, with what it holds then
pub stays_open : (edits more : List Edit) (command : Command) (answer : Answer)
    → more ≡ edits_after edits answer command → (is_end command && is_printed answer) ≡ false
    → Some more ≡ group_after (Some edits) (Ok command) answer
stays_open edits more (line.Edit e) (Printed text) is open_still = ap Some is
stays_open edits more line.Commit (Printed text) is open_still = absurd (true≢false open_still)
stays_open edits more line.Abandon (Printed text) is open_still = absurd (true≢false open_still)
stays_open edits more command (Printed text) is open_still = ap Some is
stays_open edits more command answer is open_still = ap Some is

-- or it is closed
pub closes : (edits : List Edit) (command : Command) (answer : Answer)
    → (is_end command && is_printed answer) ≡ true
    → None ≡ group_after (Some edits) (Ok command) answer
closes edits line.Commit (Printed text) both = refl
closes edits line.Abandon (Printed text) both = refl
closes edits command answer both = absurd (true≢false (sym both))

-- ---- while no group is open

after_none : (said : Result Command LineFault) (answer : Answer) → group_by None said ≡ None
    → None ≡ group_after None said answer
after_none said (Printed text) is = sym is
after_none said _ is = refl

opens : (m : Machine) (command : Command) (answer : Answer) (new : CacheState)
    → DoesAlone m command answer new
    → group_by None (Ok command) ≡ group_after None (Ok command) answer
opens m line.Begin answer new does = ap (group_after None (Ok line.Begin)) (sym does.0)
opens m command answer new does = after_none (Ok command) answer refl

pub opened : (m : Machine) (command : Command) (r : Result Answer NoMemory) (old new : CacheState)
    (group : Option (List Edit)) → Makes (DoesAlone m command) old r new
    → group ≡ group_by None (Ok command)
    → IfOk r (λ answer. group ≡ group_after None (Ok command) answer)
opened m command (Ok answer) old new group does is = is ∙ opens m command answer new does
opened m command (Err memory) old new group does is = tt

-- ---- while one is open no file is asked for

pub asks_open : (asked : Option (List (List ℕ))) (edits : List Edit) (s : CacheState)
    (said : Result Command LineFault) → AsksFor asked asked (asks_by (Some edits) s said)
asks_open asked edits s said = asks_none asked

abbrev fault_of : Result Answer NoMemory → Bool
fault_of (Ok answer) = fetches answer
fault_of (Err memory) = false

pub never_fetches : (r : Result Answer NoMemory) (why : reason.Refused)
    → IfOk r (λ answer. answer ≡ refused why) → r ≢ Ok ReadFault
never_fetches (Ok answer) why is fault =
    let same : answer ≡ ReadFault = ap (λ r. result_unwrap_or r Memory) fault in
    absurd (true≢false (ap fetches (sym same ∙ is)))
never_fetches (Err memory) why is fault = absurd (true≢false (sym (ap fault_of fault)))
