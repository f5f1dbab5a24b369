-- The lines so far were answered, and what the shelf tells is as it was.
use Rattle.std.proofs.Common.{◌≡◌, false, take}
use Rattle.std.specs.Prelude.{All, map}
use Rattle.moi_run.specs.RunState.{run_state_of}
use Rattle.edit_engine.specs.Lines.{says_load}
use Rattle.io_face.specs.Sink.{Adds}
use Rattle.io_face.specs.Told.{told_by}
use Rattle.moi_run.specs.Answering.{WritesAnswers}
use Rattle.moi_run.proofs.answers.answer_each.Given as goal

abbrev pub invariant-loop-line : goal.invariant-loop-line
invariant-loop-line g l = record {
  answered : WritesAnswers (run_state_of l.initial.session (told_by (g.H.Shelf.files l.initial.shelf)
      (g.H.Shelf.sure l.initial.shelf)) (g.H.Shelf.asked l.initial.shelf)) (map (λ line. line.now) (take l.line-index l.lines))
      l.any_refused
      (run_state_of l.session (told_by (g.H.Shelf.files l.initial.shelf)
      (g.H.Shelf.sure l.initial.shelf)) (g.H.Shelf.asked l.shelf)) (Adds (g.O.Sink.written l.initial.output)
      (g.O.Sink.written l.output));
  pivots : l.session.pivots ≡ l.initial.session.pivots;
  files : g.H.Shelf.files l.shelf ≡ g.H.Shelf.files l.initial.shelf;
  sure : g.H.Shelf.sure l.shelf ≡ g.H.Shelf.sure l.initial.shelf;
  fetches : g.H.Shelf.faults l.shelf ≡ g.H.Shelf.faults l.initial.shelf;
  writes : g.O.Sink.faults l.output ≡ g.O.Sink.faults l.initial.output;
  unasked : All (λ line. says_load line.now ≡ false) l.lines → l.shelf ≡ l.initial.shelf;
}
