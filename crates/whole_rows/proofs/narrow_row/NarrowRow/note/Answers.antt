use Rattle.std.proofs.Common.{◌∙◌, ap, length, refl, subst₂, sym}
use Rattle.std.proofs.lemmas.List.{with_items_is}
use Rattle.whole_rows.specs.ColumnMarks.{MarksCover}
use Rattle.whole_rows.proofs.CoverSteps.{long_kept}
use Rattle.whole_rows.proofs.narrow_row.NarrowRow.note.Goals as goal

pub invariant_of-self-clause-covers : goal.invariant_of-self-clause-covers
invariant_of-self-clause-covers c =
    subst₂ MarksCover
    (sym (with_items_is c.args.self.now.marks c.note_columns.new.marks
    (c.note_columns.auto.marks ∙ c.deref_mut.ensures.len)))
    c.deref.ensures.value c.note_columns.ensures.covers

pub invariant_of-self-clause-marks_long : goal.invariant_of-self-clause-marks_long
invariant_of-self-clause-marks_long c =
    let row = c.args.self.now in
    long_kept row _ _ (ap length (with_items_is row.marks c.note_columns.new.marks
    (c.note_columns.auto.marks ∙ c.deref_mut.ensures.len))
    ∙ c.note_columns.auto.marks ∙ ap length c.deref_mut.ensures.value) refl
