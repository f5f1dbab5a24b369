use Rattle.std.proofs.Common.{◌∙◌, ap, ap₂, length, slice_index_or, subst, subst₂, sym, take}
use Rattle.std.proofs.lemmas.List.{with_items_is}
use Rattle.whole_rows.specs.ColumnMarks.{MarksCover, words_of}
use Rattle.whole_rows.specs.Listed.{AreZeros, ListsNonzeros}
use Rattle.whole_rows.specs.Numerators.{AreNumeratorsWithin}
use Rattle.whole_rows.proofs.CoverSteps.{joined_long, long_kept}
use Rattle.whole_rows.proofs.DivisionSteps.{side_is_lem}
use Rattle.whole_rows.proofs.narrow_row.NarrowRow.take_marked.Goals as goal

pub take_columns-used-requires-clause-covers : goal.take_columns-used-requires-clause-covers
take_columns-used-requires-clause-covers c =
    subst₂ MarksCover (sym c.deref-2.ensures.value) (sym c.deref.ensures.value) c.args.row.now.covers

pub take_columns-used-requires-clause-words : goal.take_columns-used-requires-clause-words
take_columns-used-requires-clause-words c =
    ap length c.deref-2.ensures.value ∙ c.args.row.now.marks_long
    ∙ ap (λ l. words_of (length l)) (sym c.deref.ensures.value)

pub take_columns-used-requires-clause-zeros : goal.take_columns-used-requires-clause-zeros
take_columns-used-requires-clause-zeros c =
    subst (λ l. AreZeros l) (sym c.deref_mut.ensures.value) c.requires.zeros

pub take_columns-used-requires-clause-wide : goal.take_columns-used-requires-clause-wide
take_columns-used-requires-clause-wide c =
    ap length c.deref_mut.ensures.value ∙ sym c.requires.width
    ∙ sym (ap length c.deref.ensures.value)

pub take_columns-used-requires-clause-marks : goal.take_columns-used-requires-clause-marks
take_columns-used-requires-clause-marks c =
    ap length c.deref_mut-2.ensures.value
    ∙ sym (joined_long c.args.self.now c.args.row.now c.requires.width)
    ∙ sym (ap length c.deref-2.ensures.value)

pub invariant_of-self-clause-within : goal.invariant_of-self-clause-within
invariant_of-self-clause-within c =
    subst₂ (AreNumeratorsWithin c.args.row.now.bound)
    (sym (with_items_is c.args.self.now.numbers c.take_columns-used.new.numbers
    (c.take_columns-used.auto.numbers ∙ c.deref_mut.ensures.len)
    ∙ c.take_columns-used.ensures.numbers ∙ c.deref.ensures.value))
    (sym (side_is_lem c.args.row.now)) c.args.row.now.within

pub invariant_of-self-clause-covers : goal.invariant_of-self-clause-covers
invariant_of-self-clause-covers c =
    subst₂ MarksCover
    (sym (with_items_is c.args.self.now.marks c.take_columns-used.new.marks
    (c.take_columns-used.auto.marks ∙ c.deref_mut-2.ensures.len)))
    (sym (with_items_is c.args.self.now.numbers c.take_columns-used.new.numbers
    (c.take_columns-used.auto.numbers ∙ c.deref_mut.ensures.len)
    ∙ c.take_columns-used.ensures.numbers))
    c.take_columns-used.ensures.covers

pub invariant_of-self-clause-marks_long : goal.invariant_of-self-clause-marks_long
invariant_of-self-clause-marks_long c =
    let row = c.args.self.now in
    long_kept row _ _ (ap length (with_items_is row.marks c.take_columns-used.new.marks
    (c.take_columns-used.auto.marks ∙ c.deref_mut-2.ensures.len))
    ∙ c.take_columns-used.auto.marks ∙ ap length c.deref_mut-2.ensures.value)
    (ap length (with_items_is row.numbers c.take_columns-used.new.numbers
    (c.take_columns-used.auto.numbers ∙ c.deref_mut.ensures.len))
    ∙ c.take_columns-used.auto.numbers ∙ ap length c.deref_mut.ensures.value)

pub returns-clause-numerators : goal.returns-clause-numerators
returns-clause-numerators c = λ j.
    ap₂ (λ x y. slice_index_or x j y)
    (with_items_is c.args.self.now.numbers c.take_columns-used.new.numbers
    (c.take_columns-used.auto.numbers ∙ c.deref_mut.ensures.len)
    ∙ c.take_columns-used.ensures.numbers ∙ c.deref.ensures.value)
    (side_is_lem c.args.row.now)

pub returns-clause-lists : goal.returns-clause-lists
returns-clause-lists c =
    subst (ListsNonzeros (take c.take_columns-used.result c.take_columns-used.new.columns))
    (sym (with_items_is c.args.self.now.numbers c.take_columns-used.new.numbers
    (c.take_columns-used.auto.numbers ∙ c.deref_mut.ensures.len)
    ∙ c.take_columns-used.ensures.numbers))
    c.take_columns-used.ensures.lists
