use Rattle.std.proofs.Common.{◌≡◌, ◌∙◌, ap, arith, length, map, pos, subst, sym}
use Rattle.std.proofs.lemmas.List.{with_items_is}
use Rattle.whole_rows.specs.ColumnMarks.{mark_of}
use Rattle.whole_rows.specs.Listed.{AreZeros}
use Rattle.whole_rows.proofs.ClearingSteps.{scaled_zeros, words_zeros, zeros_within}
use Rattle.whole_rows.proofs.CoverSteps.{long_kept}
use Rattle.whole_rows.proofs.MarkSteps.{covers_zeros}
use Rattle.whole_rows.proofs.narrow_row.NarrowRow.clear_marked.Goals as goal
use Rattle.whole_rows.proofs.narrow_row.NarrowRow.clear_marked.Goals.{After-clear_marks}

zeros_lem : (c : After-clear_marks) → AreZeros c.scale_numbers.new.numbers
zeros_lem c =
    scaled_zeros c.deref_mut.result.now c.scale_numbers.new.numbers c.scale_numbers.ensures

pub scale_numbers-requires-clause-fits : goal.scale_numbers-requires-clause-fits
scale_numbers-requires-clause-fits c = λ j b. omega arith

pub invariant_of-self-clause-within : goal.invariant_of-self-clause-within
invariant_of-self-clause-within c =
    zeros_within c.args.self.now _ (subst (λ l. AreZeros l)
    (sym (with_items_is c.args.self.now.numbers c.scale_numbers.new.numbers
    (c.scale_numbers.auto.numbers ∙ c.deref_mut.ensures.len)))
    (zeros_lem (goal.at.invariant_of-self-clause-within c).After-clear_marks))

pub invariant_of-self-clause-covers : goal.invariant_of-self-clause-covers
invariant_of-self-clause-covers c =
    covers_zeros _ _ (λ j. subst (λ l. mark_of l j ≡ 0)
    (sym (with_items_is c.args.self.now.marks c.clear_marks.new.marks
    (c.clear_marks.auto.marks ∙ c.deref_mut-2.ensures.len))) (c.clear_marks.ensures.none j))
    (subst (λ l. AreZeros l)
    (sym (with_items_is c.args.self.now.numbers c.scale_numbers.new.numbers
    (c.scale_numbers.auto.numbers ∙ c.deref_mut.ensures.len)))
    (zeros_lem (goal.at.invariant_of-self-clause-covers c).After-clear_marks))

pub invariant_of-self-clause-marks_long : goal.invariant_of-self-clause-marks_long
invariant_of-self-clause-marks_long c =
    let row = c.args.self.now in
    long_kept row _ _ (ap length (with_items_is row.marks c.clear_marks.new.marks
    (c.clear_marks.auto.marks ∙ c.deref_mut-2.ensures.len))
    ∙ c.clear_marks.auto.marks ∙ ap length c.deref_mut-2.ensures.value)
    (ap length (with_items_is row.numbers c.scale_numbers.new.numbers
    (c.scale_numbers.auto.numbers ∙ c.deref_mut.ensures.len))
    ∙ c.scale_numbers.auto.numbers ∙ ap length c.deref_mut.ensures.value)

pub returns-clause-zeros : goal.returns-clause-zeros
returns-clause-zeros c =
    subst (λ l. AreZeros l)
    (sym (with_items_is c.args.self.now.numbers c.scale_numbers.new.numbers
    (c.scale_numbers.auto.numbers ∙ c.deref_mut.ensures.len)))
    (zeros_lem (goal.at.returns-clause-zeros c).After-clear_marks)

pub returns-clause-words : goal.returns-clause-words
returns-clause-words c =
    subst (λ l. AreZeros (map pos l))
    (sym (with_items_is c.args.self.now.marks c.clear_marks.new.marks
    (c.clear_marks.auto.marks ∙ c.deref_mut-2.ensures.len)))
    (words_zeros c.clear_marks.new.marks c.clear_marks.ensures.words)
