-- The lines so far were answered, and what is left is read.
use Rattle.std.proofs.Common.{◌≡◌}
use Rattle.moi_run.specs.RunState.{run_state_of}
use Rattle.io_face.specs.Told.{told_by}
use Rattle.moi_run.proofs.Standing.{Standing}
use Rattle.moi_run.proofs.input.answer_lines.Given as goal
use Rattle.line_reader.specs.Reading.{allowance}

abbrev pub invariant-answering : goal.invariant-answering
invariant-answering g l = record {
  standing : Standing (g.I.Source.left l.initial.input)
      (run_state_of l.initial.session (told_by (g.H.Shelf.files l.initial.shelf)
      (g.H.Shelf.sure l.initial.shelf)) (g.H.Shelf.asked l.initial.shelf)) l.reader (g.I.Source.left l.input)
      (run_state_of l.session (told_by (g.H.Shelf.files l.initial.shelf)
      (g.H.Shelf.sure l.initial.shelf)) (g.H.Shelf.asked l.shelf)) l.any_refused (g.O.Sink.written l.initial.output)
      (g.O.Sink.written l.output);
  pivots : l.session.pivots ≡ l.initial.session.pivots;
  files : g.H.Shelf.files l.shelf ≡ g.H.Shelf.files l.initial.shelf;
  sure : g.H.Shelf.sure l.shelf ≡ g.H.Shelf.sure l.initial.shelf;
  reads : g.I.Source.faults l.input ≡ g.I.Source.faults l.initial.input;
  fetches : g.H.Shelf.faults l.shelf ≡ g.H.Shelf.faults l.initial.shelf;
  writes : g.O.Sink.faults l.output ≡ g.O.Sink.faults l.initial.output;
}

abbrev pub decreases-answering : goal.decreases-answering
decreases-answering g l = allowance l.reader
