-- How the commands that answer lines run, from how their lines do.
use Rattle.std.proofs.Common.{◌≡◌, ◌≢◌, ℕ, ◌⊎◌, Bool, true, false, List, [], ◌∷◌, refl, sym, ap, ◌∙◌, subst, inl, inr, Option, Some, None, IfSome, true≢false}
use Rattle.std.specs.Prelude.{◌↔◌, All, Any, IsSome, codes, option_map, IsTrue, Err}
use Rattle.std.specs.Str.Lines.{lines}
use Rattle.std.proofs.lemmas.Option.{none-some}
use Rattle.command_words.specs.declared.words.Invocation.{Invocation}
use Rattle.command_words.specs.declared.words.Invocation.TheVariants.{Check, Generate, Plan, Run, Solve}
use Rattle.command_words.specs.declared.words.Setup.{Setup}
use Rattle.edit_engine.specs.Held.{SessionValue, machine_of, set_up, state_of}
use Rattle.edit_engine.specs.Lines.{Answers, heard, is_load, next, none, says_load}
use Rattle.edit_engine.specs.LinesLaws.{IsStopped, stops_by}
use Rattle.cache_layer.specs.CacheState.{with_table}
use Rattle.edit_engine.specs.Script.{Machine, machine_by}
use Rattle.certificate_check.specs.Verdict.{AsksModelAndCertificate}
use Rattle.generated_script.specs.ScriptNumbers.{ScriptNumbers}
use Rattle.io_face.specs.Fault.{HasFaulted}
use Rattle.io_face.specs.Shelf.{AsksFor}
use Rattle.io_face.specs.Sink.{Adds, AddsPrefix}
use Rattle.io_face.specs.SinkLaws.{Adds-empty}
use Rattle.io_face.specs.Told.{MayGive, Told}
use Rattle.io_face.specs.declared.shelf.FetchFault.{FetchFault}
use Rattle.io_face.specs.declared.shelf.FetchFault.TheVariants as fetch
use Rattle.item_core.specs.Table.{target_table}
use Rattle.moi_run.specs.Answering.{BeginsAnswers, StopsAtFile, WritesAnswers}
use Rattle.moi_run.specs.Commands.{AsksInVain, IfCheck, IfGenerate, LoadsFile, lines_for, solve_lines, start_by, start_for}
use Rattle.moi_run.specs.Input.{Ends}
use Rattle.moi_run.specs.Run.{EachOutcome, FetchFails, HasCause, RunOutcome, Runs, RunsEach}
use Rattle.moi_run.specs.Status.{IsEnded, has_refused}
use Rattle.moi_run.specs.RunState.{IsStill, RunState, run_state_of}
use Rattle.moi_run.specs.declared.status.Status.{Status}
use Rattle.moi_run.specs.declared.status.Status.TheVariants as status
use Rattle.moi_run.proofs.Completing.{clash}
use Rattle.moi_run.proofs.Each.{each_begins}
use Rattle.moi_run.proofs.Exits.{when_ended}
use Rattle.moi_run.proofs.Moving.{still}
use Rattle.moi_run.proofs.PlanLine.{one_line, plan_loads_nothing}
use Rattle.moi_run.proofs.Standing.{any_behind}
use Rattle.moi_run.proofs.Written.{answers_nothing, begun_whole}
use Rattle.report_core.specs.declared.answer.Answer.{Answer}
use Rattle.report_core.specs.declared.answer.Answer.TheVariants.{ReadFault, TooLong}
use Rattle.script_core.specs.Line.{line_said}
use Rattle.line_reader.specs.ReadingLaws.{told_weaker}

-- ---- where the shelf stopped the work

-- a line that loads a file asks for one
loads_file : (name line : List ℕ) → LoadsFile name line → says_load line ≡ true
unfolding says_load
loads_file name line loads = ap is_load loads

-- what the shelf tells stays while lines are answered
same_shelf : {s new : Machine} {ls : List (List ℕ)} {text : List ℕ} {any : Bool}
    → Answers s ls text any new → new.shelf ≡ s.shelf
same_shelf none = refl
same_shelf (next steps prints more) = same_shelf more ∙ ap (λ (m : Machine). m.shelf) steps.1

-- one of the lines loads a file that the shelf may not give, for this reason
abbrev Unfetched : List (List ℕ) → Told → FetchFault → Type 0
Unfetched ls shelf reason =
    (name : List ℕ) × Any (LoadsFile name) ls × MayGive shelf name (Err reason)

unfetched : (s new : RunState) (ls : List (List ℕ)) (wrote : List ℕ → Type 0) (shelf : Told)
    (stopped : Answer) (reason : FetchFault) → s.machine.shelf ≡ shelf
    → (stops : StopsAtFile s ls stopped new wrote)
    → IsStopped stops.after.machine (line_said stops.line) reason new.machine.state → Unfetched ls shelf reason
unfetched s new ls wrote shelf stopped reason same stops told = (
  told.name,
  subst (Any (LoadsFile told.name)) (sym stops.front)
      (any_behind (LoadsFile told.name) stops.done stops.line stops.more told.said_so),
  subst (λ t. MayGive t told.name (Err reason)) (same_shelf stops.answered.answers ∙ same)
      told.gave,
)

unfetched_at_fault : (s new : RunState) (ls : List (List ℕ)) (wrote : List ℕ → Type 0)
    (shelf : Told) → s.machine.shelf ≡ shelf → StopsAtFile s ls ReadFault new wrote
    → Unfetched ls shelf fetch.Failed
unfetched_at_fault s new ls wrote shelf same stops =
    unfetched s new ls wrote shelf ReadFault fetch.Failed same stops
    (stops_by stops.after.machine new.machine stops.line ReadFault stops.moves.steps)

unfetched_at_limit : (s new : RunState) (ls : List (List ℕ)) (wrote : List ℕ → Type 0)
    (shelf : Told) → s.machine.shelf ≡ shelf → StopsAtFile s ls TooLong new wrote
    → Unfetched ls shelf fetch.TooLong
unfetched_at_limit s new ls wrote shelf same stops =
    unfetched s new ls wrote shelf TooLong fetch.TooLong same stops
    (stops_by stops.after.machine new.machine stops.line TooLong stops.moves.steps)

-- ---- what the outcome says, by the status

ends_by : (source shelf : Type 0) (end : Status) (left left' : Option (List ℕ)) (s new : RunState)
    (wrote : List ℕ → Type 0) → IsEnded end
    → IfSome left (λ bytes. RunOutcome source shelf end bytes left' s new wrote)
    → IfSome left (λ bytes. Ends bytes left' (has_refused end) s new wrote)
ends_by source shelf end left left' s new wrote =
    when_ended (λ e. IfSome left (λ bytes. RunOutcome source shelf e bytes left' s new wrote))
    (λ b. IfSome left (λ bytes. Ends bytes left' b s new wrote)) (λ o. o) (λ o. o) end

each_ends_by : (end : Status) (ls : List (List ℕ)) (s new : RunState) (wrote : List ℕ → Type 0)
    → IsEnded end → EachOutcome end ls s new wrote → WritesAnswers s ls (has_refused end) new wrote
each_ends_by end ls s new wrote =
    when_ended (λ e. EachOutcome e ls s new wrote) (λ b. WritesAnswers s ls b new wrote)
    (λ o. o) (λ o. o) end

-- what is said of the lines, from what is said of the bytes
told_lines : (Q : List (List ℕ) → Type 0) (left : Option (List ℕ))
    → IfSome left (λ bytes. Q (heard (lines bytes)))
    → IfSome (option_map (λ bytes. heard (lines bytes)) left) Q
told_lines Q None told = tt
told_lines Q (Some bytes) told = told

-- ---- `run`

script_fault : (setup : Setup) (left left' : Option (List ℕ)) (shelf : Told) (faults faults' : ℕ)
    (source : Type 0) (s new : RunState) (wrote : List ℕ → Type 0) → s.machine.shelf ≡ shelf
    → IfSome left (λ bytes. RunOutcome source (FetchFails shelf faults faults') status.ReadFault bytes
    left' s new wrote)
    → source ⊎ FetchFails shelf faults faults'
    → source ⊎ (HasFaulted faults faults'
    × (IsTrue shelf.sure → AsksInVain (Some (Run setup)) left shelf))
script_fault setup None left' shelf faults faults' source s new wrote same came (inl read) =
    inl read
script_fault setup None left' shelf faults faults' source s new wrote same came (inr fails) =
    inr (fails.counted, λ sure. (fails.name, tt, fails.missing sure))
script_fault setup (Some bytes) left' shelf faults faults' source s new wrote same (inl taken)
    cause = inl taken.0
script_fault setup (Some bytes) left' shelf faults faults' source s new wrote same (inr stops)
    cause =
    let file = unfetched_at_fault s new (heard (lines bytes)) wrote shelf same stops.1 in
    inr (stops.0.counted, λ sure. (file.0, file.1, file.2 sure))

pub runs_script : (setup : Setup) (end : Status) (left left' : Option (List ℕ)) (shelf : Told)
    (faults faults' : ℕ) (source sink : Type 0) (s middle new : RunState)
    (wrote begun : List ℕ → Type 0)
    → middle ≡ start_by (Some setup) s → s.machine.shelf ≡ shelf → new.machine.pivots ≡ middle.machine.pivots
    → IfSome left (λ bytes. RunOutcome source (FetchFails shelf faults faults') end bytes left'
    middle new wrote)
    → IfSome left (λ bytes. BeginsAnswers middle (heard (lines bytes)) end new begun)
    → HasCause source (FetchFails shelf faults faults') sink end
    → Runs (Some (Run setup)) end left left' shelf source (HasFaulted faults faults') s
    new wrote begun
runs_script setup end left left' shelf faults faults' source sink s middle new wrote begun is same
    pivots outcome begins cause =
    let start : RunState = start_by (Some setup) s in
    let fetch : Type 0 = FetchFails shelf faults faults' in
    let came : Status → List ℕ → Type 0 =
    λ how bytes. RunOutcome source fetch how bytes left' start new wrote in
    let by : IfSome left (came end) =
    subst (λ m. IfSome left (λ bytes. RunOutcome source fetch end bytes left' m new wrote))
    is outcome in
    let at : (how : Status) → end ≡ how → IfSome left (came how) =
    λ (how : Status) (e : end ≡ how). subst (λ t. IfSome left (came t)) e by in
    let Ended : List ℕ → Type 0 = λ bytes. Ends bytes left' (has_refused end) start new wrote in
    let ends : IsEnded end → IfSome left Ended =
    λ (ended : IsEnded end). ends_by source fetch end left left' start new wrote ended by in
    record {
      text = λ ended. told_lines _ left (told_weaker Ended _ left (λ bytes e. e.answered)
          (ends ended));
      verdict = λ ended. tt;
      pivots = λ ended. pivots ∙ ap (λ (m : RunState). m.machine.pivots) is;
      to_the_end = λ ended. told_weaker Ended _ left (λ bytes e. e.to_the_end) (ends ended);
      within_limits = λ ended. told_weaker Ended _ left (λ bytes e. e.within_limits) (ends ended);
      prefix = told_lines _ left
          (subst (λ m. IfSome left (λ bytes. BeginsAnswers m (heard (lines bytes)) end new begun))
          is begins);
      asks = λ _. tt;
      verdict_prefix = tt;
      read_fault = λ e. script_fault setup left left' shelf faults faults' source start new wrote
          same (at status.ReadFault e) (subst (HasCause source fetch sink) e cause);
      at_read_fault = λ e. told_weaker (came status.ReadFault) _ left (λ bytes. elim [
        | inl taken ↦ inl taken
        | inr stops ↦ inr (stops.0.counted, stops.1)
      ]) (at status.ReadFault e);
      at_write_fault = λ e. told_lines _ left (at status.WriteFault e);
      too_long = λ e. told_weaker (came status.TooLong) _ left (λ bytes. elim [
        | inl passes ↦ inl passes.0
        | inr file ↦ inr (unfetched_at_limit start new (heard (lines bytes)) wrote shelf same file)
      ]) (at status.TooLong e);
      at_limit = λ e. at status.TooLong e;
    }

-- the session was told the options
pub machine_set_up : (setup : Setup) (old new : SessionValue) (shelf : Told)
    → state_of new ≡ with_table (state_of old) (target_table setup.target)
    → new.group ≡ old.group → new.pivots ≡ setup.pivots
    → machine_of new shelf
    ≡ set_up (machine_of old shelf) (target_table setup.target) setup.pivots
machine_set_up setup old new shelf state group pivots =
    let after = with_table (state_of old) (target_table setup.target) in
    ap (λ s. machine_by s new.group new.pivots shelf) state
    ∙ (ap (λ g. machine_by after g new.pivots shelf) group
    ∙ ap (λ n. machine_by after old.group n shelf) pivots)

pub set_up_is : (setup : Setup) (old new : SessionValue) (shelf : Told) (asked : Option (List (List ℕ)))
    → state_of new ≡ with_table (state_of old) (target_table setup.target)
    → new.group ≡ old.group → new.pivots ≡ setup.pivots
    → new.cache.lazy.solver.leaves.calls ≡ old.cache.lazy.solver.leaves.calls
    → run_state_of new shelf asked ≡ start_by (Some setup) (run_state_of old shelf asked)
set_up_is setup old new shelf asked state group pivots calls =
    let machine : machine_of new shelf
    ≡ set_up (machine_of old shelf) (target_table setup.target) setup.pivots =
    machine_set_up setup old new shelf state group pivots in
    λ i. record { machine = machine i; calls = calls i; asked = asked }

-- ---- given lines

pub runs_each : (ls : List (List ℕ)) (setup : Setup) (end : Status) (s middle new : RunState)
    (wrote begun : List ℕ → Type 0) → middle ≡ start_by (Some setup) s → new.machine.pivots ≡ middle.machine.pivots
    → EachOutcome end ls middle new wrote → BeginsAnswers middle ls end new begun
    → RunsEach ls setup end s new wrote begun
runs_each ls setup end s middle new wrote begun is pivots outcome begins = record {
  outcome = subst (λ m. EachOutcome end ls m new wrote) is outcome;
  prefix = subst (λ m. BeginsAnswers m ls end new begun) is begins;
  pivots = λ ended. pivots ∙ ap (λ (m : RunState). m.machine.pivots) is;
}

pub runs_plan : (setup : Setup) (end : Status) (left left' : Option (List ℕ)) (shelf : Told)
    (source fetch : Type 0) (s new : RunState) (wrote begun : List ℕ → Type 0)
    → RunsEach (codes "plan" ∷ []) setup end s new wrote begun → (end ≢ status.ReadFault)
    → (end ≢ status.TooLong)
    → Runs (Some (Plan setup)) end left left' shelf source fetch s new wrote begun
runs_plan setup end left left' shelf source fetch s new wrote begun runs no_fault no_limit =
    record {
      text = λ ended. each_ends_by end (codes "plan" ∷ []) (start_by (Some setup) s) new wrote ended
          runs.outcome;
      verdict = λ ended. tt;
      pivots = runs.pivots;
      to_the_end = λ ended. tt;
      within_limits = λ ended. tt;
      prefix = runs.prefix;
      asks = λ _. tt;
      verdict_prefix = tt;
      read_fault = λ e. absurd (no_fault e);
      at_read_fault = λ e. absurd (no_fault e);
      at_write_fault = λ e. subst (λ t. EachOutcome t (codes "plan" ∷ []) (start_by (Some setup) s)
          new wrote) e runs.outcome;
      too_long = λ e. absurd (no_limit e);
      at_limit = λ e. absurd (no_limit e);
    }

pub runs_solve : (setup : Setup) (model : List ℕ) (end : Status) (left left' : Option (List ℕ))
    (shelf : Told) (faults faults' : ℕ) (source : Type 0) (s new : RunState)
    (wrote begun : List ℕ → Type 0) → s.machine.shelf ≡ shelf
    → RunsEach (solve_lines model) setup end s new wrote begun
    → (end ≡ status.ReadFault → FetchFails shelf faults faults')
    → Runs (Some (Solve setup model)) end left left' shelf source (HasFaulted faults faults') s
    new wrote begun
runs_solve setup model end left left' shelf faults faults' source s new wrote begun
    same runs fails =
    let start : RunState = start_by (Some setup) s in
    let at : (how : Status) → end ≡ how → EachOutcome how (solve_lines model) start new wrote =
    λ (how : Status) (e : end ≡ how). subst (λ t. EachOutcome t (solve_lines model) start new wrote)
    e runs.outcome in
    record {
      text = λ ended. each_ends_by end (solve_lines model) start new wrote ended runs.outcome;
      verdict = λ ended. tt;
      pivots = runs.pivots;
      to_the_end = λ ended. tt;
      within_limits = λ ended. tt;
      prefix = runs.prefix;
      asks = λ _. tt;
      verdict_prefix = tt;
      read_fault = λ e. (
        (fails e).counted,
        λ sure. (let file = unfetched_at_fault start new (solve_lines model) wrote shelf same
            (at status.ReadFault e) in (file.0, file.1, file.2 sure)),
      );
      at_read_fault = λ e. at status.ReadFault e;
      at_write_fault = λ e. at status.WriteFault e;
      too_long = λ e. unfetched_at_limit start new (solve_lines model) wrote shelf same
          (at status.TooLong e);
      at_limit = λ e. at status.TooLong e;
    }

-- ---- nothing was done

pub each_without_memory : (ls : List (List ℕ)) (setup : Setup) (s new : RunState)
    (old : Option (List ℕ)) → RunsEach ls setup status.Memory s new (Adds old old)
    (AddsPrefix old old)
each_without_memory ls setup s new old =
    let start : RunState = start_by (Some setup) s in
    record {
      outcome = tt;
      prefix = each_begins false status.Memory ls [] ls start start new old old refl
          (answers_nothing start old) (λ ne. absurd (ne refl));
      pivots = λ ended. absurd ended;
    }

always_lines : (Q : List (List ℕ) → Type 0) (told : Option (List (List ℕ)))
    → ((ls : List (List ℕ)) → Q ls) → IfSome told Q
always_lines Q None h = tt
always_lines Q (Some ls) h = h ls

pub always_check : (said : Option Invocation) (Q : List ℕ → List ℕ → Type 0)
    → ((model certificate : List ℕ) → Q model certificate) → IfCheck said Q
always_check None Q h = tt
always_check (Some (Run setup)) Q h = tt
always_check (Some (Plan setup)) Q h = tt
always_check (Some (Solve setup model)) Q h = tt
always_check (Some (Check model certificate)) Q h = h model certificate
always_check (Some (Generate numbers)) Q h = tt

pub always_generate : (said : Option Invocation) (Q : ScriptNumbers → Type 0)
    → ((n : ScriptNumbers) → Q n)
    → IfGenerate said Q
always_generate None Q h = tt
always_generate (Some (Run setup)) Q h = tt
always_generate (Some (Plan setup)) Q h = tt
always_generate (Some (Solve setup model)) Q h = tt
always_generate (Some (Check model certificate)) Q h = tt
always_generate (Some (Generate numbers)) Q h = h numbers

-- memory ran out before the first line, or the words are of no command
runs_nothing : (said : Option Invocation) (end : Status) (left left' : Option (List ℕ)) (shelf : Told)
    (source fetch : Type 0) (s new : RunState) (old : Option (List ℕ)) → (IsEnded end → ⊥)
    → (end ≢ status.ReadFault) → (end ≢ status.WriteFault) → (end ≢ status.TooLong)
    → (end ≢ status.Memory → IsStill (start_for said s) new)
    → (end ≢ status.Memory → IfCheck said
    (λ model certificate. AsksModelAndCertificate shelf model certificate (AsksFor s.asked new.asked)))
    → Runs said end left left' shelf source fetch s new (Adds old old) (AddsPrefix old old)
runs_nothing said end left left' shelf source fetch s new old no_end no_fault no_write no_limit
    stands asks =
    let start : RunState = start_for said s in
    record {
      text = λ ended. absurd (no_end ended);
      verdict = λ ended. absurd (no_end ended);
      pivots = λ ended. absurd (no_end ended);
      to_the_end = λ ended. absurd (no_end ended);
      within_limits = λ ended. absurd (no_end ended);
      prefix = always_lines _ (lines_for said left) (λ ls. each_begins false end ls [] ls start
          start new old old refl (answers_nothing start old) stands);
      asks = asks;
      verdict_prefix = always_check said _
          (λ model certificate. inl (begun_whole old old [] (Adds-empty old)));
      read_fault = λ e. absurd (no_fault e);
      at_read_fault = λ e. absurd (no_fault e);
      at_write_fault = λ e. absurd (no_write e);
      too_long = λ e. absurd (no_limit e);
      at_limit = λ e. absurd (no_limit e);
    }

pub runs_without_memory : (said : Option Invocation) (left left' : Option (List ℕ)) (shelf : Told)
    (source fetch : Type 0) (s new : RunState) (old : Option (List ℕ))
    → Runs said status.Memory left left' shelf source fetch s new (Adds old old)
    (AddsPrefix old old)
runs_without_memory said left left' shelf source fetch s new old =
    runs_nothing said status.Memory left left' shelf source fetch s new old (λ ended. ended)
    (λ e. cc) (λ e. cc) (λ e. cc) (λ ne. absurd (ne refl)) (λ ne. absurd (ne refl))

pub runs_of_none : (left : Option (List ℕ)) (shelf : Told) (source fetch : Type 0) (s : RunState)
    (old : Option (List ℕ)) → Runs None status.Usage left left shelf source fetch s s (Adds old old)
    (AddsPrefix old old)
runs_of_none left shelf source fetch s old =
    runs_nothing None status.Usage left left shelf source fetch s s old (λ ended. ended)
    (λ e. cc) (λ e. cc) (λ e. cc) (λ _. still s) (λ _. tt)

-- ---- lines that ask for no file

no_fetch : (ls : List (List ℕ)) (end : Status) (s new : RunState) (wrote : List ℕ → Type 0)
    → All (λ line. says_load line ≡ false) ls → EachOutcome end ls s new wrote
    → (end ≢ status.ReadFault) × (end ≢ status.TooLong)
no_fetch ls end s new wrote quiet outcome = (
  λ e. unasked fetch.Failed
      (unfetched_at_fault s new ls wrote s.machine.shelf refl (at status.ReadFault e)),
  λ e. unasked fetch.TooLong
      (unfetched_at_limit s new ls wrote s.machine.shelf refl (at status.TooLong e)),
)
  where
    at : (how : Status) → end ≡ how → EachOutcome how ls s new wrote
    at how e = subst (λ t. EachOutcome t ls s new wrote) e outcome

    unasked : (reason : FetchFault) → Unfetched ls s.machine.shelf reason → ⊥
    unasked reason file =
        clash (LoadsFile file.0) (λ line. says_load line ≡ false) ls quiet file.1
        (λ line no loads. true≢false (sym (loads_file file.0 line loads) ∙ no))

pub plan_fetches_nothing : (end : Status) (s new : RunState) (wrote : List ℕ → Type 0)
    → EachOutcome end (codes "plan" ∷ []) s new wrote → (end ≢ status.ReadFault)
    × (end ≢ status.TooLong)
plan_fetches_nothing end s new wrote =
    no_fetch (codes "plan" ∷ []) end s new wrote (one_line (λ line. says_load line ≡ false)
    (codes "plan") plan_loads_nothing)

-- ---- by the words

-- what holds of a command holds of the one that the words say
pub said_runs : {said other : Option Invocation} {end : Status} {left left' : Option (List ℕ)}
    {shelf : Told} {source fetch : Type 0} {s new : RunState} {wrote begun : List ℕ → Type 0}
    → other ≡ said → Runs other end left left' shelf source fetch s new wrote begun
    → Runs said end left left' shelf source fetch s new wrote begun
said_runs {said} {other} {end} {left} {left'} {shelf} {source} {fetch} {s} {new} {wrote} {begun} is
    runs = subst (λ which. Runs which end left left' shelf source fetch s new wrote begun) is runs

-- whether the words are of a command
pub usage_at_command : (end : Status) (command : Invocation) (said : Option Invocation)
    → Some command ≡ said → end ≢ status.Usage → (end ≡ status.Usage) ↔ (said ≡ None)
usage_at_command end command said is not_usage =
    (λ e. absurd (not_usage e), λ none. absurd (none-some command (sym none ∙ sym is)))

pub usage_at_none : (said : Option Invocation) → None ≡ said → (status.Usage ≡ status.Usage)
    ↔ (said ≡ None)
usage_at_none said is = (λ _. sym is, λ _. refl)

pub usage_at_memory : (said : Option Invocation) → IsSome said → (status.Memory ≡ status.Usage)
    ↔ (said ≡ None)
usage_at_memory None some = absurd (true≢false (sym some))
usage_at_memory (Some command) some = (λ e. cc, λ none. cc)

pub command_runs : {given command : Invocation} {end : Status} {left left' : Option (List ℕ)}
    {shelf : Told} {source fetch : Type 0} {s new : RunState} {wrote begun : List ℕ → Type 0}
    → given ≡ command → Runs (Some given) end left left' shelf source fetch s new wrote begun
    → Runs (Some command) end left left' shelf source fetch s new wrote begun
command_runs is runs = said_runs (ap Some is) runs

-- ---- a generated script

pub runs_generated : (n : ScriptNumbers) (end : Status) (left left' : Option (List ℕ)) (shelf : Told)
    (source fetch : Type 0) (s new : RunState) (wrote begun : List ℕ → Type 0)
    → (IsEnded end → new.machine.pivots ≡ 100000)
    → (end ≢ status.ReadFault) × (end ≢ status.TooLong)
    → Runs (Some (Generate n)) end left left' shelf source fetch s new wrote begun
runs_generated n end left left' shelf source fetch s new wrote begun pivots stops = record {
  text = λ ended. tt;
  verdict = λ ended. tt;
  pivots = pivots;
  to_the_end = λ ended. tt;
  within_limits = λ ended. tt;
  prefix = tt;
  asks = λ other. tt;
  verdict_prefix = tt;
  read_fault = λ e. absurd (stops.0 e);
  at_read_fault = λ e. absurd (stops.0 e);
  at_write_fault = λ e. tt;
  too_long = λ e. absurd (stops.1 e);
  at_limit = λ e. absurd (stops.1 e);
}
