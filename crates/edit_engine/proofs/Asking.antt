-- When the shelf is asked for a file, and when its fault is answered.
use Rattle.std.specs.Prelude.{◌≡◌, ◌≢◌, ℕ, Bool, true, false, List, [], ◌∷◌, Option, None, Some, Result, Ok, Err, OnOk, refl}
use Rattle.std.specs.Result.{result_unwrap_or}
use Rattle.std.proofs.Common.{sym, ap, subst, inl, inr, ◌∙◌, true≢false}
use Rattle.std.proofs.lemmas.Bool.{cases_Bool}
use Rattle.lists.specs.declared.memory.Memory.{Memory as NoMemory}
use Rattle.cache_layer.specs.CacheState.{CacheState}
use Rattle.file_answers.specs.AskingLaws.{on_ok}
use Rattle.edit_engine.specs.Lines.{asks_by, is_load, line_asks, load_asks, said_asks, says_load}
use Rattle.edit_engine.specs.LinesLaws.{does_fit, fetches}
use Rattle.edit_engine.specs.Script.{DoesSaid, Machine, Makes}
use Rattle.io_face.specs.Shelf.{AsksFor}
use Rattle.io_face.specs.ToldLaws.{asks_none}
use Rattle.report_core.specs.declared.answer.Answer.{Answer}
use Rattle.report_core.specs.declared.answer.Answer.TheVariants.{Memory, ReadFault}
use Rattle.script_core.specs.Line.{line_said}
use Rattle.script_core.specs.declared.command.Command.{Command}
use Rattle.script_core.specs.declared.command.Command.TheVariants as line
use Rattle.script_core.specs.declared.fault.LineFault.{LineFault}
use Rattle.user_model.specs.declared.edit.Edit.{Edit}

abbrev fault_of_result : Result Answer NoMemory → Bool
fault_of_result (Ok answer) = fetches answer
fault_of_result (Err memory) = false

-- only a line that asks for a file is answered so
pub asked_by : (m : Machine) (said : Result Command LineFault) (made : Result Answer NoMemory)
    (new : CacheState) → Makes (DoesSaid m said) m.state made new → made ≡ Ok ReadFault
    → is_load said ≡ true
asked_by m said (Ok answer) new does fault =
    let is : answer ≡ ReadFault = ap (λ r. result_unwrap_or r Memory) fault in
    let does' : DoesSaid m said ReadFault new =
    subst (λ (a : Answer). DoesSaid m said a new) is does in
    ap is_load (does_fit m said new ReadFault does').1.said_so
asked_by m said (Err memory) new does fault = absurd (true≢false (sym (ap fault_of_result fault)))

-- and another line asks for none
pub unasked_by : (line : List ℕ) (command : Command) → Ok command ≡ line_said line
    → says_load line ≡ false → is_load (Ok command) ≡ false
unfolding says_load
unasked_by line command is off = ap is_load is ∙ off

-- a command other than `load`
pub not_load : (command : Command) → ((name : List ℕ) → command ≢ line.Load name)
    → is_load (Ok command) ≡ false
not_load (line.Load name) other = absurd (other name refl)
not_load _ other = refl

-- where memory ran out that is answered, and no fault of the shelf
pub fault_made : (made : Result Answer NoMemory) (result : Answer)
    → result ≡ result_unwrap_or made Memory → result ≡ ReadFault → made ≡ Ok ReadFault
fault_made (Ok answer) result is fault = ap Ok (sym is ∙ fault)
fault_made (Err memory) result is fault =
    absurd (true≢false (sym (ap fetches (sym is ∙ fault))))

-- ---- for which files the shelf is asked

-- for none while a solver is attached, or where something stands in the model
pub asks_attached : (asked : Option (List (List ℕ))) (attached bare : Bool) (name : List ℕ)
    → attached ≡ true → AsksFor asked asked (load_asks attached bare name)
asks_attached asked true bare name is = asks_none asked
asks_attached asked false bare name is = absurd (true≢false (sym is))

pub asks_full : (asked : Option (List (List ℕ))) (attached bare : Bool) (name : List ℕ)
    → bare ≡ false → AsksFor asked asked (load_asks attached bare name)
asks_full asked true bare name is = asks_none asked
asks_full asked false false name is = asks_none asked
asks_full asked false true name is = absurd (true≢false is)

-- else for the file of the line
pub asks_bare : (old new : Option (List (List ℕ))) (attached bare : Bool) (name : List ℕ)
    → attached ≡ false → bare ≡ true → AsksFor old new (name ∷ [])
    → AsksFor old new (load_asks attached bare name)
asks_bare old new true bare name is full asks = absurd (true≢false is)
asks_bare old new false false name is full asks = absurd (true≢false (sym full))
asks_bare old new false true name is full asks = asks

-- another line asks for none
asks_nothing : (asked : Option (List (List ℕ))) (m : Machine) (said : Result Command LineFault)
    → is_load said ≡ false → AsksFor asked asked (said_asks m said)
asks_nothing asked m said off = by m.group said off
  where
    by : (group : Option (List Edit)) (said : Result Command LineFault) → is_load said ≡ false
        → AsksFor asked asked (asks_by group m.state said)
    by None (Ok (line.Load name)) off = absurd (true≢false off)
    by None (Ok _) off = asks_none asked
    by None (Err fault) off = asks_none asked
    by (Some edits) said off = asks_none asked

-- a line that is read as no command
pub unread_asks : (asked : Option (List (List ℕ))) (m : Machine) (text : List ℕ) (fault : LineFault)
    (r : Result Answer NoMemory) → Err fault ≡ line_said text
    → OnOk r (AsksFor asked asked (line_asks m text))
unfolding line_asks
unread_asks asked m text fault r is =
    on_ok r _ (subst (λ said. AsksFor asked asked (said_asks m said)) is
    (asks_nothing asked m (Err fault) refl))

-- a command, by whether it is a `load`
pub command_asks : (old new : Option (List (List ℕ))) (m : Machine) (text : List ℕ)
    (command : Command) (r : Result Answer NoMemory) → Ok command ≡ line_said text
    → (is_load (Ok command) ≡ true → OnOk r (AsksFor old new (said_asks m (Ok command))))
    → (is_load (Ok command) ≡ false → new ≡ old)
    → OnOk r (AsksFor old new (line_asks m text))
unfolding line_asks
command_asks old new m text command r is loads other =
    subst (λ said. OnOk r (AsksFor old new (said_asks m said))) is
    (elim (cases_Bool (is_load (Ok command))) [
      | inl on ↦ loads on
      | inr off ↦ on_ok r _ (subst (λ n. AsksFor old n (said_asks m (Ok command)))
          (sym (other off)) (asks_nothing old m (Ok command) off))
    ])

-- the count of faults, likewise
pub command_sound : (P : Type 0) (command : Command) → (is_load (Ok command) ≡ true → P)
    → (is_load (Ok command) ≡ false → P) → P
command_sound P command loads other =
    elim (cases_Bool (is_load (Ok command))) [ inl on ↦ loads on | inr off ↦ other off ]

-- what holds of an answer that was made, where running out of memory is one
pub asks_or : (made : Result Answer NoMemory) (result : Answer) (P : Type 0)
    → result ≡ result_unwrap_or made Memory → result ≢ Memory → OnOk made P → P
asks_or (Ok answer) result P is other h = h
asks_or (Err memory) result P is other h = absurd (other is)

pub sound_or : (made : Result Answer NoMemory) (result : Answer) (P : Type 0)
    → result ≡ result_unwrap_or made Memory → result ≢ ReadFault → (made ≢ Ok ReadFault → P) → P
sound_or made result P is other h = h (λ e. other (is ∙ ap (λ r. result_unwrap_or r Memory) e))
