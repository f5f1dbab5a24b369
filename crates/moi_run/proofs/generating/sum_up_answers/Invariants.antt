-- The lines so far were answered and counted.
use Rattle.std.proofs.Common.{◌≡◌, ◌-◌}
use Rattle.edit_engine.specs.Held.{machine_of}
use Rattle.generated_script.specs.Parts.{line_count}
use Rattle.io_face.specs.Told.{told_by}
use Rattle.moi_run.proofs.Summaries.{Stands}
use Rattle.moi_run.proofs.generating.sum_up_answers.Given as goal

abbrev pub invariant-answering : goal.invariant-answering
invariant-answering g l = record {
  stands : Stands l.fn.recipe l.lines
      (machine_of l.initial.session (told_by (g.H.Shelf.files l.initial.shelf)
      (g.H.Shelf.sure l.initial.shelf)))
      (machine_of l.session (told_by (g.H.Shelf.files l.initial.shelf)
      (g.H.Shelf.sure l.initial.shelf))) l.tally;
  shelf : l.shelf ≡ l.initial.shelf;
  output : l.output ≡ l.initial.output;
  pivots : l.session.pivots ≡ l.initial.session.pivots;
}

abbrev pub decreases-answering : goal.decreases-answering
decreases-answering g l = line_count l.fn.recipe - l.lines.next
