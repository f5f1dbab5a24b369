-- Each exit says what the text written so far is of the lines'.
use Rattle.std.proofs.Common.{◌≡◌, ◌+◌, [], Ok, Err, false, take, drop, refl, sym, ◌∙◌, ap, append-nil}
use Rattle.std.specs.Prelude.{map}
use Rattle.std.proofs.lemmas.List.{take_all}
use Rattle.std.proofs.lemmas.List.Elements.{All-get_or}
use Rattle.moi_run.specs.RunState.{run_state_of}
use Rattle.edit_engine.specs.Lines.{says_load}
use Rattle.io_face.specs.Told.{told_by}
use Rattle.moi_run.proofs.Each.{each_at_stop, each_begins, each_begins_at_stop, each_more, lines_around}
use Rattle.moi_run.specs.declared.stop.RunStop.TheVariants.{ReadFault}
use Rattle.moi_run.proofs.Exits.{at_least, fails_within, heard_told, no_end_at_stop, reason_by, told_same}
use Rattle.moi_run.proofs.Moving.{still}
use Rattle.moi_run.proofs.Written.{answers_nothing}
use Rattle.moi_run.proofs.answers.answer_each.Goals as goal

pub loop-line-init : goal.loop-line-init
loop-line-init g c = record {
  answered = answers_nothing (run_state_of c.args.session.now (told_by (g.H.Shelf.files c.args.shelf.now) (g.H.Shelf.sure c.args.shelf.now)) (g.H.Shelf.asked c.args.shelf.now))
      (g.O.Sink.written c.args.output.now);
  pivots = refl;
  files = refl;
  sure = refl;
  fetches = refl;
  writes = refl;
  unasked = λ _. refl;
}

pub returns-in-Err-clause-outcome : goal.returns-in-Err-clause-outcome
returns-in-Err-clause-outcome g c =
    let told = told_by (g.H.Shelf.files c.args.shelf.now) (g.H.Shelf.sure c.args.shelf.now) in
    let lines = c.args.lines.now in
    let i = c.loop-line.line-index in
    let same = told_same _ _ _ _ c.loop-line.invariant.files c.loop-line.invariant.sure in
    each_at_stop c.in-Err.stop c.from.result (map (λ line. line.now) lines)
    (map (λ line. line.now) (take i lines)) _ (map (λ line. line.now) (drop (i + 1) lines))
    (run_state_of c.args.session.now told (g.H.Shelf.asked c.args.shelf.now)) (run_state_of c.loop-line.session told (g.H.Shelf.asked c.loop-line.shelf))
    (run_state_of c.answer_line.new.session told (g.H.Shelf.asked c.answer_line.new.shelf)) c.loop-line.any_refused
    (g.O.Sink.written c.args.output.now) (g.O.Sink.written c.loop-line.output)
    (g.O.Sink.written c.answer_line.new.output) c.from.ensures
    (lines_around (λ line. line.now) lines i _ c.loop-line-test.true) c.loop-line.invariant.answered
    (heard_told (Err c.in-Err.stop) told _ c.loop-line.session c.answer_line.new.session (g.H.Shelf.asked c.loop-line.shelf)
    (g.H.Shelf.asked c.answer_line.new.shelf) _ _ _ same
    c.in-Err.ensures.heard)

pub returns-in-Err-clause-prefix : goal.returns-in-Err-clause-prefix
returns-in-Err-clause-prefix g c =
    let told = told_by (g.H.Shelf.files c.args.shelf.now) (g.H.Shelf.sure c.args.shelf.now) in
    let lines = c.args.lines.now in
    let i = c.loop-line.line-index in
    let same = told_same _ _ _ _ c.loop-line.invariant.files c.loop-line.invariant.sure in
    each_begins_at_stop c.in-Err.stop c.from.result (map (λ line. line.now) lines)
    (map (λ line. line.now) (take i lines)) _ (map (λ line. line.now) (drop (i + 1) lines))
    (run_state_of c.args.session.now told (g.H.Shelf.asked c.args.shelf.now)) (run_state_of c.loop-line.session told (g.H.Shelf.asked c.loop-line.shelf))
    (run_state_of c.answer_line.new.session told (g.H.Shelf.asked c.answer_line.new.shelf)) c.loop-line.any_refused
    (g.O.Sink.written c.args.output.now) (g.O.Sink.written c.loop-line.output)
    (g.O.Sink.written c.answer_line.new.output) c.from.ensures
    (lines_around (λ line. line.now) lines i _ c.loop-line-test.true) c.loop-line.invariant.answered
    (heard_told (Err c.in-Err.stop) told _ c.loop-line.session c.answer_line.new.session (g.H.Shelf.asked c.loop-line.shelf)
    (g.H.Shelf.asked c.answer_line.new.shelf) _ _ _ same
    c.in-Err.ensures.heard)

pub returns-in-Err-clause-read_fault : goal.returns-in-Err-clause-read_fault
returns-in-Err-clause-read_fault g c is =
    let same = told_same _ _ _ _ c.loop-line.invariant.files c.loop-line.invariant.sure in
    fails_within (told_by (g.H.Shelf.files c.args.shelf.now) (g.H.Shelf.sure c.args.shelf.now)) _ _
    _ _ same (at_least _ _ c.loop-line.invariant.fetches) (c.in-Err.ensures.read_fault
    (ap Err (reason_by c.in-Err.stop c.from.result c.from.ensures ReadFault is)))

pub loop-line-preserved : goal.loop-line-preserved
loop-line-preserved g c =
    let told = told_by (g.H.Shelf.files c.args.shelf.now) (g.H.Shelf.sure c.args.shelf.now) in
    let lines = c.args.lines.now in
    let i = c.loop-line.line-index in
    let same = told_same _ _ _ _ c.loop-line.invariant.files c.loop-line.invariant.sure in
    let came = heard_told (Ok c.in-Ok.reply) told _ c.loop-line.session c.answer_line.new.session (g.H.Shelf.asked c.loop-line.shelf)
    (g.H.Shelf.asked c.answer_line.new.shelf) _
    _ _ same c.in-Ok.ensures.heard in
    record {
      answered =
          each_more (λ line. line.now) lines i _ c.loop-line-test.true
          (run_state_of c.args.session.now told (g.H.Shelf.asked c.args.shelf.now)) (run_state_of c.loop-line.session told (g.H.Shelf.asked c.loop-line.shelf))
          (run_state_of c.answer_line.new.session told (g.H.Shelf.asked c.answer_line.new.shelf))
          c.loop-line.any_refused c.is_refused-any_refused.result _
          (g.O.Sink.written c.args.output.now) (g.O.Sink.written c.loop-line.output)
          (g.O.Sink.written c.answer_line.new.output)
          c.is_refused-any_refused.ensures c.loop-line.invariant.answered came.0;
      pivots = c.in-Ok.ensures.pivots ∙ c.loop-line.invariant.pivots;
      files = c.in-Ok.ensures.files ∙ c.loop-line.invariant.files;
      sure = c.in-Ok.ensures.sure ∙ c.loop-line.invariant.sure;
      fetches = c.in-Ok.ensures.sound_fetches ∙ c.loop-line.invariant.fetches;
      writes = c.in-Ok.ensures.sound_writes ∙ c.loop-line.invariant.writes;
      unasked = λ none. c.in-Ok.ensures.unasked (All-get_or (λ line. says_load line.now ≡ false)
          lines i _ c.loop-line-test.true none) ∙ c.loop-line.invariant.unasked none;
    }

pub returns-clause-prefix : goal.returns-clause-prefix
returns-clause-prefix g c =
    let told = told_by (g.H.Shelf.files c.args.shelf.now) (g.H.Shelf.sure c.args.shelf.now) in
    let lines = c.args.lines.now in
    let i = c.loop-line.line-index in
    let all = take_all i lines c.loop-line-test.false in
    each_begins c.loop-line.any_refused c.ended.result (map (λ line. line.now) lines)
    (map (λ line. line.now) (take i lines)) [] (run_state_of c.args.session.now told (g.H.Shelf.asked c.args.shelf.now))
    (run_state_of c.loop-line.session told (g.H.Shelf.asked c.loop-line.shelf)) (run_state_of c.loop-line.session told (g.H.Shelf.asked c.loop-line.shelf))
    (g.O.Sink.written c.args.output.now) (g.O.Sink.written c.loop-line.output)
    (ap (map (λ line. line.now)) (sym all)
    ∙ sym (append-nil (map (λ line. line.now) (take i lines)))) c.loop-line.invariant.answered
    (λ _. still _)

-- ---- no fault was counted

pub returns-in-Err-clause-sound_fetches : goal.returns-in-Err-clause-sound_fetches
returns-in-Err-clause-sound_fetches g c ended =
    absurd (no_end_at_stop c.in-Err.stop c.from.result c.from.ensures ended)

pub returns-in-Err-clause-sound_writes : goal.returns-in-Err-clause-sound_writes
returns-in-Err-clause-sound_writes g c ended =
    absurd (no_end_at_stop c.in-Err.stop c.from.result c.from.ensures ended)

pub returns-clause-sound_fetches : goal.returns-clause-sound_fetches
returns-clause-sound_fetches g c _ = c.loop-line.invariant.fetches

pub returns-clause-sound_writes : goal.returns-clause-sound_writes
returns-clause-sound_writes g c _ = c.loop-line.invariant.writes
