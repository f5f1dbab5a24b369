-- Each exit says what the text written so far is of the script's.
use Rattle.std.proofs.Common.{◌≡◌, ◌||◌, Ok, Err, refl, sym, ◌∙◌, ap, subst, arith}
use Rattle.moi_run.specs.RunState.{run_state_of}
use Rattle.io_face.specs.Fault.{HasFaulted}
use Rattle.io_face.specs.FaultLaws.{HasFaulted-within}
use Rattle.io_face.specs.Told.{told_by}
use Rattle.moi_run.specs.Answering.{HearsBy, is_quit}
use Rattle.moi_run.specs.Status.{status_of}
use Rattle.moi_run.specs.declared.stop.RunStop.{RunStop}
use Rattle.moi_run.specs.declared.stop.RunStop.TheVariants as stop
use Rattle.moi_run.proofs.Exits as exits
use Rattle.moi_run.proofs.Standing.{ends_at_end, ends_at_last, standing_at_start, stops_at_fault, stops_at_limit, taken_in_all}
use Rattle.moi_run.proofs.Turns as turns
use Rattle.moi_run.proofs.Moving.{still}
use Rattle.moi_run.proofs.Written.{hears_begun}
use Rattle.moi_run.proofs.input.answer_lines.Goals as goal
use Rattle.report_core.specs.declared.answer.Answer.TheVariants.{ReadFault, TooLong}

pub answering-init : goal.answering-init
answering-init g c = record {
  standing = standing_at_start (run_state_of c.args.session.now (told_by (g.H.Shelf.files c.args.shelf.now) (g.H.Shelf.sure c.args.shelf.now)) (g.H.Shelf.asked c.args.shelf.now))
      c.args.reader.now (g.I.Source.left c.args.input.now) (g.O.Sink.written c.args.output.now)
      c.requires.held c.requires.room;
  pivots = refl;
  files = refl;
  sure = refl;
  reads = refl;
  fetches = refl;
  writes = refl;
}

-- ---- reading stopped

pub returns-in-Err-clause-outcome : goal.returns-in-Err-clause-outcome
returns-in-Err-clause-outcome g c =
    let told = told_by (g.H.Shelf.files c.args.shelf.now) (g.H.Shelf.sure c.args.shelf.now) in
    let standing = c.answering.invariant.standing in
    let source = HasFaulted (g.I.Source.faults c.args.input.now)
    (g.I.Source.faults c.next_line.new.input) in
    exits.outcome_at_read source _ c.in-Err.reason c.from-in-Err.result
    (g.I.Source.left c.args.input.now) (g.I.Source.left c.next_line.new.input)
    (run_state_of c.args.session.now told (g.H.Shelf.asked c.args.shelf.now)) (run_state_of c.answering.session told (g.H.Shelf.asked c.answering.shelf)) _
    (c.from-in-Err.ensures ∙ ap status_of c.from.ensures)
    (λ is. HasFaulted-within _ _ _ _ (exits.at_least _ _ c.answering.invariant.reads) (omega arith)
    (c.in-Err.ensures.read_fault (ap Err is)).1)
    (λ is. stops_at_fault (g.I.Source.left c.args.input.now)
    (run_state_of c.args.session.now told (g.H.Shelf.asked c.args.shelf.now)) c.answering.reader (g.I.Source.left c.answering.input)
    (g.I.Source.left c.next_line.new.input) (run_state_of c.answering.session told (g.H.Shelf.asked c.answering.shelf))
    c.answering.any_refused (g.O.Sink.written c.args.output.now)
    (g.O.Sink.written c.answering.output) standing (c.in-Err.ensures.read_fault (ap Err is)).0)
    (λ is. stops_at_limit (g.I.Source.left c.args.input.now)
    (run_state_of c.args.session.now told (g.H.Shelf.asked c.args.shelf.now)) c.answering.reader (g.I.Source.left c.answering.input)
    (run_state_of c.answering.session told (g.H.Shelf.asked c.answering.shelf)) c.answering.any_refused
    (g.O.Sink.written c.args.output.now) (g.O.Sink.written c.answering.output) standing
    (c.in-Err.ensures.too_long (ap Err is)))

pub returns-in-Err-clause-prefix : goal.returns-in-Err-clause-prefix
returns-in-Err-clause-prefix g c =
    let told = told_by (g.H.Shelf.files c.args.shelf.now) (g.H.Shelf.sure c.args.shelf.now) in
    turns.begins_so_far (g.I.Source.left c.args.input.now) (run_state_of c.args.session.now told (g.H.Shelf.asked c.args.shelf.now))
    c.answering.reader (g.I.Source.left c.answering.input) (run_state_of c.answering.session told (g.H.Shelf.asked c.answering.shelf))
    (run_state_of c.answering.session told (g.H.Shelf.asked c.answering.shelf)) c.answering.any_refused
    (g.O.Sink.written c.args.output.now) (g.O.Sink.written c.answering.output)
    c.from-in-Err.result c.answering.invariant.standing (λ _. still _)

pub returns-in-Err-clause-taken : goal.returns-in-Err-clause-taken
returns-in-Err-clause-taken g c =
    taken_in_all (g.I.Source.left c.args.input.now)
    (run_state_of c.args.session.now (told_by (g.H.Shelf.files c.args.shelf.now)
    (g.H.Shelf.sure c.args.shelf.now)) (g.H.Shelf.asked c.args.shelf.now)) c.answering.reader (g.I.Source.left c.answering.input)
    (g.I.Source.left c.next_line.new.input) (run_state_of c.answering.session (told_by (g.H.Shelf.files c.args.shelf.now) (g.H.Shelf.sure c.args.shelf.now)) (g.H.Shelf.asked c.answering.shelf))
    c.answering.any_refused (g.O.Sink.written c.args.output.now)
    (g.O.Sink.written c.answering.output) c.answering.invariant.standing c.in-Err.ensures.taken

pub returns-in-Err-clause-cause : goal.returns-in-Err-clause-cause
returns-in-Err-clause-cause g c =
    exits.cause_at_read _ _ _ c.in-Err.reason c.from-in-Err.result (c.from-in-Err.ensures
    ∙ ap status_of c.from.ensures)
    (λ is. HasFaulted-within _ _ _ _ (exits.at_least _ _ c.answering.invariant.reads) (omega arith)
    (c.in-Err.ensures.read_fault (ap Err is)).1)

pub returns-in-Err-clause-not_usage : goal.returns-in-Err-clause-not_usage
returns-in-Err-clause-not_usage g c =
    exits.no_usage_at_stop c.from.result c.from-in-Err.result c.from-in-Err.ensures

-- ---- at the end of the input

pub returns-in-End-clause-outcome : goal.returns-in-End-clause-outcome
returns-in-End-clause-outcome g c =
    let told = told_by (g.H.Shelf.files c.args.shelf.now) (g.H.Shelf.sure c.args.shelf.now) in
    exits.outcome_at_end _ _ c.answering.any_refused c.ended.result
    (g.I.Source.left c.args.input.now) (g.I.Source.left c.next_line.new.input)
    (run_state_of c.args.session.now told (g.H.Shelf.asked c.args.shelf.now)) (run_state_of c.answering.session told (g.H.Shelf.asked c.answering.shelf)) _ c.ended.ensures
    (ends_at_end (g.I.Source.left c.args.input.now) (run_state_of c.args.session.now told (g.H.Shelf.asked c.args.shelf.now))
    c.answering.reader (g.I.Source.left c.answering.input)
    (g.I.Source.left c.next_line.new.input) (run_state_of c.answering.session told (g.H.Shelf.asked c.answering.shelf))
    c.answering.any_refused (g.O.Sink.written c.args.output.now)
    (g.O.Sink.written c.answering.output) c.answering.invariant.standing
    (c.in-Ok.ensures.end (ap Ok c.in-End.is)))

pub returns-in-End-clause-prefix : goal.returns-in-End-clause-prefix
returns-in-End-clause-prefix g c =
    let told = told_by (g.H.Shelf.files c.args.shelf.now) (g.H.Shelf.sure c.args.shelf.now) in
    turns.begins_so_far (g.I.Source.left c.args.input.now) (run_state_of c.args.session.now told (g.H.Shelf.asked c.args.shelf.now))
    c.answering.reader (g.I.Source.left c.answering.input) (run_state_of c.answering.session told (g.H.Shelf.asked c.answering.shelf))
    (run_state_of c.answering.session told (g.H.Shelf.asked c.answering.shelf)) c.answering.any_refused
    (g.O.Sink.written c.args.output.now) (g.O.Sink.written c.answering.output) c.ended.result
    c.answering.invariant.standing (λ _. still _)

pub returns-in-End-clause-taken : goal.returns-in-End-clause-taken
returns-in-End-clause-taken g c =
    taken_in_all (g.I.Source.left c.args.input.now)
    (run_state_of c.args.session.now (told_by (g.H.Shelf.files c.args.shelf.now)
    (g.H.Shelf.sure c.args.shelf.now)) (g.H.Shelf.asked c.args.shelf.now)) c.answering.reader (g.I.Source.left c.answering.input)
    (g.I.Source.left c.next_line.new.input) (run_state_of c.answering.session (told_by (g.H.Shelf.files c.args.shelf.now) (g.H.Shelf.sure c.args.shelf.now)) (g.H.Shelf.asked c.answering.shelf))
    c.answering.any_refused (g.O.Sink.written c.args.output.now)
    (g.O.Sink.written c.answering.output) c.answering.invariant.standing c.in-Ok.ensures.taken

pub returns-in-End-clause-cause : goal.returns-in-End-clause-cause
returns-in-End-clause-cause g c =
    exits.no_cause_at_end _ _ _ c.answering.any_refused c.ended.result c.ended.ensures

pub returns-in-End-clause-not_usage : goal.returns-in-End-clause-not_usage
returns-in-End-clause-not_usage g c =
    exits.no_usage_at_end c.answering.any_refused c.ended.result c.ended.ensures

-- ---- the answer to a line stopped the work

pub returns-in-Err-answer_line-clause-outcome : goal.returns-in-Err-answer_line-clause-outcome
returns-in-Err-answer_line-clause-outcome g c =
    let told = told_by (g.H.Shelf.files c.args.shelf.now) (g.H.Shelf.sure c.args.shelf.now) in
    let same = exits.told_same _ _ _ _ c.answering.invariant.files c.answering.invariant.sure in
    let heard = exits.heard_told (Err c.in-Err-answer_line.stop) told _ c.answering.session
    c.answer_line.new.session (g.H.Shelf.asked c.answering.shelf)
    (g.H.Shelf.asked c.answer_line.new.shelf) c.deref.result.now (g.O.Sink.written c.answering.output)
    (g.O.Sink.written c.answer_line.new.output) same c.in-Err-answer_line.ensures.heard in
    let turn = turns.gives_by c.in_default.not-End c.in-Ok.ensures.line c.in-Ok.ensures.last_line
    c.deref.ensures.value in
    let at_stop : (stop : RunStop) → c.in-Err-answer_line.stop ≡ stop
    → HearsBy (Err stop) (run_state_of c.answering.session told (g.H.Shelf.asked c.answering.shelf)) c.deref.result.now (run_state_of c.answer_line.new.session told (g.H.Shelf.asked c.answer_line.new.shelf)) (g.O.Sink.written c.answering.output)
    (g.O.Sink.written c.answer_line.new.output) =
    λ (stop : RunStop) (is : c.in-Err-answer_line.stop ≡ stop). subst
    (λ s. HearsBy (Err s) (run_state_of c.answering.session told (g.H.Shelf.asked c.answering.shelf)) c.deref.result.now
    (run_state_of c.answer_line.new.session told (g.H.Shelf.asked c.answer_line.new.shelf)) (g.O.Sink.written c.answering.output)
    (g.O.Sink.written c.answer_line.new.output)) is heard in
    exits.outcome_at_stop _ _ c.in-Err-answer_line.stop c.from-in-Err-answer_line.result
    (g.I.Source.left c.args.input.now) (g.I.Source.left c.next_line.new.input)
    (run_state_of c.args.session.now told (g.H.Shelf.asked c.args.shelf.now)) (run_state_of c.answer_line.new.session told (g.H.Shelf.asked c.answer_line.new.shelf)) _
    c.from-in-Err-answer_line.ensures
    (λ is. exits.fails_within told _ _ _ _ same (exits.at_least _ _ c.answering.invariant.fetches)
    (c.in-Err-answer_line.ensures.read_fault (ap Err is)))
    (λ is. let h = at_stop stop.ReadFault is in
    turns.stops_in_turn c.in-Ok.next (g.I.Source.left c.args.input.now)
    (run_state_of c.args.session.now told (g.H.Shelf.asked c.args.shelf.now)) c.answering.reader c.next_line.new.self
    (g.I.Source.left c.answering.input) (g.I.Source.left c.next_line.new.input)
    (run_state_of c.answering.session told (g.H.Shelf.asked c.answering.shelf)) (run_state_of c.answer_line.new.session told (g.H.Shelf.asked c.answer_line.new.shelf))
    c.answering.any_refused (g.O.Sink.written c.args.output.now)
    (g.O.Sink.written c.answering.output) (g.O.Sink.written c.answer_line.new.output)
    c.next_line.new.line.items c.deref.result.now ReadFault turn
    c.answering.invariant.standing h.0 h.1)
    (λ is. let h = at_stop stop.WriteFault is in
    turns.cut_in_turn c.in-Ok.next (g.I.Source.left c.args.input.now)
    (run_state_of c.args.session.now told (g.H.Shelf.asked c.args.shelf.now)) c.answering.reader c.next_line.new.self
    (g.I.Source.left c.answering.input) (g.I.Source.left c.next_line.new.input)
    (run_state_of c.answering.session told (g.H.Shelf.asked c.answering.shelf)) (run_state_of c.answer_line.new.session told (g.H.Shelf.asked c.answer_line.new.shelf))
    c.answering.any_refused h.0 (g.O.Sink.written c.args.output.now)
    (g.O.Sink.written c.answering.output) (g.O.Sink.written c.answer_line.new.output)
    c.next_line.new.line.items c.deref.result.now turn
    c.answering.invariant.standing h.1)
    (λ is. let h = at_stop stop.TooLong is in
    turns.stops_in_turn c.in-Ok.next (g.I.Source.left c.args.input.now)
    (run_state_of c.args.session.now told (g.H.Shelf.asked c.args.shelf.now)) c.answering.reader c.next_line.new.self
    (g.I.Source.left c.answering.input) (g.I.Source.left c.next_line.new.input)
    (run_state_of c.answering.session told (g.H.Shelf.asked c.answering.shelf)) (run_state_of c.answer_line.new.session told (g.H.Shelf.asked c.answer_line.new.shelf))
    c.answering.any_refused (g.O.Sink.written c.args.output.now)
    (g.O.Sink.written c.answering.output) (g.O.Sink.written c.answer_line.new.output)
    c.next_line.new.line.items c.deref.result.now TooLong turn
    c.answering.invariant.standing h.0 h.1)

pub returns-in-Err-answer_line-clause-prefix : goal.returns-in-Err-answer_line-clause-prefix
returns-in-Err-answer_line-clause-prefix g c =
    let told = told_by (g.H.Shelf.files c.args.shelf.now) (g.H.Shelf.sure c.args.shelf.now) in
    let same = exits.told_same _ _ _ _ c.answering.invariant.files c.answering.invariant.sure in
    let heard = exits.heard_told (Err c.in-Err-answer_line.stop) told _ c.answering.session
    c.answer_line.new.session (g.H.Shelf.asked c.answering.shelf)
    (g.H.Shelf.asked c.answer_line.new.shelf) c.deref.result.now (g.O.Sink.written c.answering.output)
    (g.O.Sink.written c.answer_line.new.output) same c.in-Err-answer_line.ensures.heard in
    turns.begins_at_stop c.in-Err-answer_line.stop c.from-in-Err-answer_line.result c.in-Ok.next
    (g.I.Source.left c.args.input.now) (run_state_of c.args.session.now told (g.H.Shelf.asked c.args.shelf.now)) c.answering.reader
    c.next_line.new.self
    (g.I.Source.left c.answering.input) (g.I.Source.left c.next_line.new.input)
    (run_state_of c.answering.session told (g.H.Shelf.asked c.answering.shelf)) (run_state_of c.answer_line.new.session told (g.H.Shelf.asked c.answer_line.new.shelf))
    c.answering.any_refused (g.O.Sink.written c.args.output.now)
    (g.O.Sink.written c.answering.output) (g.O.Sink.written c.answer_line.new.output)
    c.next_line.new.line.items c.deref.result.now c.from-in-Err-answer_line.ensures heard
    (turns.gives_by c.in_default.not-End c.in-Ok.ensures.line c.in-Ok.ensures.last_line
    c.deref.ensures.value) c.answering.invariant.standing

pub returns-in-Err-answer_line-clause-taken : goal.returns-in-Err-answer_line-clause-taken
returns-in-Err-answer_line-clause-taken g c =
    taken_in_all (g.I.Source.left c.args.input.now)
    (run_state_of c.args.session.now (told_by (g.H.Shelf.files c.args.shelf.now)
    (g.H.Shelf.sure c.args.shelf.now)) (g.H.Shelf.asked c.args.shelf.now)) c.answering.reader (g.I.Source.left c.answering.input)
    (g.I.Source.left c.next_line.new.input) (run_state_of c.answering.session (told_by (g.H.Shelf.files c.args.shelf.now) (g.H.Shelf.sure c.args.shelf.now)) (g.H.Shelf.asked c.answering.shelf))
    c.answering.any_refused (g.O.Sink.written c.args.output.now)
    (g.O.Sink.written c.answering.output) c.answering.invariant.standing c.in-Ok.ensures.taken

pub returns-in-Err-answer_line-clause-cause : goal.returns-in-Err-answer_line-clause-cause
returns-in-Err-answer_line-clause-cause g c =
    let same = exits.told_same _ _ _ _ c.answering.invariant.files c.answering.invariant.sure in
    exits.cause_at_stop _ _ _ c.in-Err-answer_line.stop c.from-in-Err-answer_line.result
    c.from-in-Err-answer_line.ensures
    (λ is. exits.fails_within (told_by (g.H.Shelf.files c.args.shelf.now)
    (g.H.Shelf.sure c.args.shelf.now)) _ _ _ _ same (exits.at_least _ _ c.answering.invariant.fetches)
    (c.in-Err-answer_line.ensures.read_fault (ap Err is)))
    (λ is. HasFaulted-within _ _ _ _ (exits.at_least _ _ c.answering.invariant.writes) (omega arith)
    (c.in-Err-answer_line.ensures.write_fault (ap Err is)))

pub returns-in-Err-answer_line-clause-not_usage : goal.returns-in-Err-answer_line-clause-not_usage
returns-in-Err-answer_line-clause-not_usage g c =
    exits.no_usage_at_stop c.in-Err-answer_line.stop c.from-in-Err-answer_line.result
    c.from-in-Err-answer_line.ensures

-- ---- at the line that ends the run

pub returns-in-Quit-clause-outcome : goal.returns-in-Quit-clause-outcome
returns-in-Quit-clause-outcome g c =
    let told = told_by (g.H.Shelf.files c.args.shelf.now) (g.H.Shelf.sure c.args.shelf.now) in
    let same = exits.told_same _ _ _ _ c.answering.invariant.files c.answering.invariant.sure in
    let was = c.is_refused-any_refused.result in
    let came = exits.heard_whole c.in-Ok-answer_line.reply told _ c.answering.session
    c.answer_line.new.session (g.H.Shelf.asked c.answering.shelf)
    (g.H.Shelf.asked c.answer_line.new.shelf) c.deref.result.now (g.O.Sink.written c.answering.output)
    (g.O.Sink.written c.answer_line.new.output) was same c.is_refused-any_refused.ensures
    c.in-Ok-answer_line.ensures.heard in
    exits.outcome_at_end _ _ (c.answering.any_refused || was) c.ended-in-Quit.result
    (g.I.Source.left c.args.input.now) (g.I.Source.left c.next_line.new.input)
    (run_state_of c.args.session.now told (g.H.Shelf.asked c.args.shelf.now)) (run_state_of c.answer_line.new.session told (g.H.Shelf.asked c.answer_line.new.shelf)) _
    c.ended-in-Quit.ensures
    (turns.ends_in_turn c.in-Ok.next (g.I.Source.left c.args.input.now)
    (run_state_of c.args.session.now told (g.H.Shelf.asked c.args.shelf.now)) c.answering.reader c.next_line.new.self
    (g.I.Source.left c.answering.input) (g.I.Source.left c.next_line.new.input)
    (run_state_of c.answering.session told (g.H.Shelf.asked c.answering.shelf)) (run_state_of c.answer_line.new.session told (g.H.Shelf.asked c.answer_line.new.shelf))
    c.answering.any_refused was (g.O.Sink.written c.args.output.now)
    (g.O.Sink.written c.answering.output) (g.O.Sink.written c.answer_line.new.output)
    c.next_line.new.line.items c.deref.result.now
    (turns.gives_by c.in_default.not-End c.in-Ok.ensures.line c.in-Ok.ensures.last_line
    c.deref.ensures.value) c.answering.invariant.standing (sym came.1
    ∙ ap is_quit c.in-Quit.is) came.0)

pub returns-in-Quit-clause-prefix : goal.returns-in-Quit-clause-prefix
returns-in-Quit-clause-prefix g c =
    let told = told_by (g.H.Shelf.files c.args.shelf.now) (g.H.Shelf.sure c.args.shelf.now) in
    let same = exits.told_same _ _ _ _ c.answering.invariant.files c.answering.invariant.sure in
    let was = c.is_refused-any_refused.result in
    let came = exits.heard_whole c.in-Ok-answer_line.reply told _ c.answering.session
    c.answer_line.new.session (g.H.Shelf.asked c.answering.shelf)
    (g.H.Shelf.asked c.answer_line.new.shelf) c.deref.result.now (g.O.Sink.written c.answering.output)
    (g.O.Sink.written c.answer_line.new.output) was same c.is_refused-any_refused.ensures
    c.in-Ok-answer_line.ensures.heard in
    turns.begins_in_turn c.in-Ok.next (g.I.Source.left c.args.input.now)
    (run_state_of c.args.session.now told (g.H.Shelf.asked c.args.shelf.now)) c.answering.reader c.next_line.new.self
    (g.I.Source.left c.answering.input) (g.I.Source.left c.next_line.new.input)
    (run_state_of c.answering.session told (g.H.Shelf.asked c.answering.shelf)) (run_state_of c.answer_line.new.session told (g.H.Shelf.asked c.answer_line.new.shelf))
    (run_state_of c.answer_line.new.session told (g.H.Shelf.asked c.answer_line.new.shelf)) c.answering.any_refused was
    (g.O.Sink.written c.args.output.now) (g.O.Sink.written c.answering.output)
    (g.O.Sink.written c.answer_line.new.output) c.next_line.new.line.items c.deref.result.now
    c.ended-in-Quit.result
    (turns.gives_by c.in_default.not-End c.in-Ok.ensures.line c.in-Ok.ensures.last_line
    c.deref.ensures.value) c.answering.invariant.standing
    (hears_begun _ _ came.0) (λ _. still _)

pub returns-in-Quit-clause-taken : goal.returns-in-Quit-clause-taken
returns-in-Quit-clause-taken g c =
    taken_in_all (g.I.Source.left c.args.input.now)
    (run_state_of c.args.session.now (told_by (g.H.Shelf.files c.args.shelf.now)
    (g.H.Shelf.sure c.args.shelf.now)) (g.H.Shelf.asked c.args.shelf.now)) c.answering.reader (g.I.Source.left c.answering.input)
    (g.I.Source.left c.next_line.new.input) (run_state_of c.answering.session (told_by (g.H.Shelf.files c.args.shelf.now) (g.H.Shelf.sure c.args.shelf.now)) (g.H.Shelf.asked c.answering.shelf))
    c.answering.any_refused (g.O.Sink.written c.args.output.now)
    (g.O.Sink.written c.answering.output) c.answering.invariant.standing c.in-Ok.ensures.taken

pub returns-in-Quit-clause-cause : goal.returns-in-Quit-clause-cause
returns-in-Quit-clause-cause g c =
    exits.no_cause_at_end _ _ _ _ c.ended-in-Quit.result c.ended-in-Quit.ensures

pub returns-in-Quit-clause-not_usage : goal.returns-in-Quit-clause-not_usage
returns-in-Quit-clause-not_usage g c =
    exits.no_usage_at_end _ c.ended-in-Quit.result c.ended-in-Quit.ensures

-- ---- at a last line without a newline

pub returns-in-LastLine-clause-outcome : goal.returns-in-LastLine-clause-outcome
returns-in-LastLine-clause-outcome g c =
    let told = told_by (g.H.Shelf.files c.args.shelf.now) (g.H.Shelf.sure c.args.shelf.now) in
    let same = exits.told_same _ _ _ _ c.answering.invariant.files c.answering.invariant.sure in
    let was = c.is_refused-any_refused.result in
    let came = exits.heard_whole c.in-Ok-answer_line.reply told _ c.answering.session
    c.answer_line.new.session (g.H.Shelf.asked c.answering.shelf)
    (g.H.Shelf.asked c.answer_line.new.shelf) c.deref.result.now (g.O.Sink.written c.answering.output)
    (g.O.Sink.written c.answer_line.new.output) was same c.is_refused-any_refused.ensures
    c.in-Ok-answer_line.ensures.heard in
    exits.outcome_at_end _ _ (c.answering.any_refused || was) c.ended-in-LastLine.result
    (g.I.Source.left c.args.input.now) (g.I.Source.left c.next_line.new.input)
    (run_state_of c.args.session.now told (g.H.Shelf.asked c.args.shelf.now)) (run_state_of c.answer_line.new.session told (g.H.Shelf.asked c.answer_line.new.shelf)) _
    c.ended-in-LastLine.ensures
    (ends_at_last (g.I.Source.left c.args.input.now) (run_state_of c.args.session.now told (g.H.Shelf.asked c.args.shelf.now))
    c.answering.reader (g.I.Source.left c.answering.input)
    (g.I.Source.left c.next_line.new.input)
    (run_state_of c.answering.session told (g.H.Shelf.asked c.answering.shelf)) (run_state_of c.answer_line.new.session told (g.H.Shelf.asked c.answer_line.new.shelf))
    c.answering.any_refused was (g.O.Sink.written c.args.output.now)
    (g.O.Sink.written c.answering.output) (g.O.Sink.written c.answer_line.new.output)
    c.next_line.new.line.items c.deref.result.now
    (c.in-Ok.ensures.last_line (ap Ok c.in-LastLine.is)) c.deref.ensures.value
    c.answering.invariant.standing came.0)

pub returns-in-LastLine-clause-prefix : goal.returns-in-LastLine-clause-prefix
returns-in-LastLine-clause-prefix g c =
    let told = told_by (g.H.Shelf.files c.args.shelf.now) (g.H.Shelf.sure c.args.shelf.now) in
    let same = exits.told_same _ _ _ _ c.answering.invariant.files c.answering.invariant.sure in
    let was = c.is_refused-any_refused.result in
    let came = exits.heard_whole c.in-Ok-answer_line.reply told _ c.answering.session
    c.answer_line.new.session (g.H.Shelf.asked c.answering.shelf)
    (g.H.Shelf.asked c.answer_line.new.shelf) c.deref.result.now (g.O.Sink.written c.answering.output)
    (g.O.Sink.written c.answer_line.new.output) was same c.is_refused-any_refused.ensures
    c.in-Ok-answer_line.ensures.heard in
    turns.begins_in_turn c.in-Ok.next (g.I.Source.left c.args.input.now)
    (run_state_of c.args.session.now told (g.H.Shelf.asked c.args.shelf.now)) c.answering.reader c.next_line.new.self
    (g.I.Source.left c.answering.input) (g.I.Source.left c.next_line.new.input)
    (run_state_of c.answering.session told (g.H.Shelf.asked c.answering.shelf)) (run_state_of c.answer_line.new.session told (g.H.Shelf.asked c.answer_line.new.shelf))
    (run_state_of c.answer_line.new.session told (g.H.Shelf.asked c.answer_line.new.shelf)) c.answering.any_refused was
    (g.O.Sink.written c.args.output.now) (g.O.Sink.written c.answering.output)
    (g.O.Sink.written c.answer_line.new.output) c.next_line.new.line.items c.deref.result.now
    c.ended-in-LastLine.result
    (turns.gives_by c.in_default.not-End c.in-Ok.ensures.line c.in-Ok.ensures.last_line
    c.deref.ensures.value) c.answering.invariant.standing
    (hears_begun _ _ came.0) (λ _. still _)

pub returns-in-LastLine-clause-taken : goal.returns-in-LastLine-clause-taken
returns-in-LastLine-clause-taken g c =
    taken_in_all (g.I.Source.left c.args.input.now)
    (run_state_of c.args.session.now (told_by (g.H.Shelf.files c.args.shelf.now)
    (g.H.Shelf.sure c.args.shelf.now)) (g.H.Shelf.asked c.args.shelf.now)) c.answering.reader (g.I.Source.left c.answering.input)
    (g.I.Source.left c.next_line.new.input) (run_state_of c.answering.session (told_by (g.H.Shelf.files c.args.shelf.now) (g.H.Shelf.sure c.args.shelf.now)) (g.H.Shelf.asked c.answering.shelf))
    c.answering.any_refused (g.O.Sink.written c.args.output.now)
    (g.O.Sink.written c.answering.output) c.answering.invariant.standing c.in-Ok.ensures.taken

pub returns-in-LastLine-clause-cause : goal.returns-in-LastLine-clause-cause
returns-in-LastLine-clause-cause g c =
    exits.no_cause_at_end _ _ _ _ c.ended-in-LastLine.result c.ended-in-LastLine.ensures

pub returns-in-LastLine-clause-not_usage : goal.returns-in-LastLine-clause-not_usage
returns-in-LastLine-clause-not_usage g c =
    exits.no_usage_at_end _ c.ended-in-LastLine.result c.ended-in-LastLine.ensures

-- ---- the next line

pub answering-preserved : goal.answering-preserved
answering-preserved g c =
    let told = told_by (g.H.Shelf.files c.args.shelf.now) (g.H.Shelf.sure c.args.shelf.now) in
    let same = exits.told_same _ _ _ _ c.answering.invariant.files c.answering.invariant.sure in
    let was = c.is_refused-any_refused.result in
    let came = exits.heard_whole c.in-Ok-answer_line.reply told _ c.answering.session
    c.answer_line.new.session (g.H.Shelf.asked c.answering.shelf)
    (g.H.Shelf.asked c.answer_line.new.shelf) c.deref.result.now (g.O.Sink.written c.answering.output)
    (g.O.Sink.written c.answer_line.new.output) was same c.is_refused-any_refused.ensures
    c.in-Ok-answer_line.ensures.heard in
    record {
      standing =
          turns.standing_after_turn c.in-Ok.next (g.I.Source.left c.args.input.now)
          (run_state_of c.args.session.now told (g.H.Shelf.asked c.args.shelf.now)) c.answering.reader c.next_line.new.self
          (g.I.Source.left c.answering.input) (g.I.Source.left c.next_line.new.input)
          (run_state_of c.answering.session told (g.H.Shelf.asked c.answering.shelf)) (run_state_of c.answer_line.new.session told (g.H.Shelf.asked c.answer_line.new.shelf))
          c.answering.any_refused was (g.O.Sink.written c.args.output.now)
          (g.O.Sink.written c.answering.output) (g.O.Sink.written c.answer_line.new.output)
          c.next_line.new.line.items c.deref.result.now
          (turns.gives_by c.in_default.not-End c.in-Ok.ensures.line c.in-Ok.ensures.last_line
          c.deref.ensures.value) c.in_default-next.not-LastLine
          c.answering.invariant.standing
          (sym came.1 ∙ exits.goes_on c.in-Ok-answer_line.reply c.in_default-reply.not-Quit) came.0;
      pivots = c.in-Ok-answer_line.ensures.pivots ∙ c.answering.invariant.pivots;
      files = c.in-Ok-answer_line.ensures.files ∙ c.answering.invariant.files;
      sure = c.in-Ok-answer_line.ensures.sure ∙ c.answering.invariant.sure;
      reads = c.in-Ok.ensures.sound ∙ c.answering.invariant.reads;
      fetches = c.in-Ok-answer_line.ensures.sound_fetches ∙ c.answering.invariant.fetches;
      writes = c.in-Ok-answer_line.ensures.sound_writes ∙ c.answering.invariant.writes;
    }

-- ---- no fault was counted where the work ended

pub returns-in-Err-clause-sound_reads : goal.returns-in-Err-clause-sound_reads
returns-in-Err-clause-sound_reads g c ended =
    absurd (exits.no_end_at_stop c.from.result c.from-in-Err.result c.from-in-Err.ensures ended)

pub returns-in-Err-clause-sound_fetches : goal.returns-in-Err-clause-sound_fetches
returns-in-Err-clause-sound_fetches g c ended =
    absurd (exits.no_end_at_stop c.from.result c.from-in-Err.result c.from-in-Err.ensures ended)

pub returns-in-Err-clause-sound_writes : goal.returns-in-Err-clause-sound_writes
returns-in-Err-clause-sound_writes g c ended =
    absurd (exits.no_end_at_stop c.from.result c.from-in-Err.result c.from-in-Err.ensures ended)

pub returns-in-Err-answer_line-clause-sound_reads : goal.returns-in-Err-answer_line-clause-sound_reads
returns-in-Err-answer_line-clause-sound_reads g c ended =
    absurd (exits.no_end_at_stop c.in-Err-answer_line.stop c.from-in-Err-answer_line.result c.from-in-Err-answer_line.ensures ended)

pub returns-in-Err-answer_line-clause-sound_fetches : goal.returns-in-Err-answer_line-clause-sound_fetches
returns-in-Err-answer_line-clause-sound_fetches g c ended =
    absurd (exits.no_end_at_stop c.in-Err-answer_line.stop c.from-in-Err-answer_line.result c.from-in-Err-answer_line.ensures ended)

pub returns-in-Err-answer_line-clause-sound_writes : goal.returns-in-Err-answer_line-clause-sound_writes
returns-in-Err-answer_line-clause-sound_writes g c ended =
    absurd (exits.no_end_at_stop c.in-Err-answer_line.stop c.from-in-Err-answer_line.result c.from-in-Err-answer_line.ensures ended)

pub returns-in-End-clause-sound_reads : goal.returns-in-End-clause-sound_reads
returns-in-End-clause-sound_reads g c _ = c.in-Ok.ensures.sound ∙ c.answering.invariant.reads

pub returns-in-End-clause-sound_fetches : goal.returns-in-End-clause-sound_fetches
returns-in-End-clause-sound_fetches g c _ = c.answering.invariant.fetches

pub returns-in-End-clause-sound_writes : goal.returns-in-End-clause-sound_writes
returns-in-End-clause-sound_writes g c _ = c.answering.invariant.writes

pub returns-in-Quit-clause-sound_reads : goal.returns-in-Quit-clause-sound_reads
returns-in-Quit-clause-sound_reads g c _ = c.in-Ok.ensures.sound ∙ c.answering.invariant.reads

pub returns-in-Quit-clause-sound_fetches : goal.returns-in-Quit-clause-sound_fetches
returns-in-Quit-clause-sound_fetches g c _ =
    c.in-Ok-answer_line.ensures.sound_fetches ∙ c.answering.invariant.fetches

pub returns-in-Quit-clause-sound_writes : goal.returns-in-Quit-clause-sound_writes
returns-in-Quit-clause-sound_writes g c _ =
    c.in-Ok-answer_line.ensures.sound_writes ∙ c.answering.invariant.writes

pub returns-in-LastLine-clause-sound_reads : goal.returns-in-LastLine-clause-sound_reads
returns-in-LastLine-clause-sound_reads g c _ = c.in-Ok.ensures.sound ∙ c.answering.invariant.reads

pub returns-in-LastLine-clause-sound_fetches : goal.returns-in-LastLine-clause-sound_fetches
returns-in-LastLine-clause-sound_fetches g c _ =
    c.in-Ok-answer_line.ensures.sound_fetches ∙ c.answering.invariant.fetches

pub returns-in-LastLine-clause-sound_writes : goal.returns-in-LastLine-clause-sound_writes
returns-in-LastLine-clause-sound_writes g c _ =
    c.in-Ok-answer_line.ensures.sound_writes ∙ c.answering.invariant.writes
