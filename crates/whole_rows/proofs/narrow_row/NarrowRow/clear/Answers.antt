use Rattle.std.proofs.Common.{◌≡◌, ◌≤◌, ◌∙◌, ap, arith, length, pos, slice_index_or, subst, sym, unsigned_abs}
use Rattle.std.proofs.lemmas.List.{with_items_is}
use Rattle.whole_rows.proofs.MarkSteps.{covers_zeros, made_zeros}
use Rattle.whole_rows.specs.ColumnMarks.{mark_of}
use Rattle.whole_rows.proofs.CoverSteps.{long_kept}
use Rattle.whole_rows.proofs.DivisionSteps.{from_item}
use Rattle.whole_rows.proofs.narrow_row.NarrowRow.clear.Goals as goal

pub invariant_of-self-clause-covers : goal.invariant_of-self-clause-covers
invariant_of-self-clause-covers c =
    covers_zeros _ _ (λ j. subst (λ l. mark_of l j ≡ 0)
    (sym (with_items_is c.args.self.now.marks c.clear_marks.new.marks
    (c.clear_marks.auto.marks ∙ c.deref_mut-2.ensures.len))) (c.clear_marks.ensures.none j))
    (λ j. subst (λ l. slice_index_or l j (pos 0) ≡ pos 0)
    (sym (with_items_is c.args.self.now.numbers c.clear_numbers.new.numbers
    (c.clear_numbers.auto.numbers ∙ c.deref_mut.ensures.len)))
    (made_zeros c.deref_mut.result.now c.clear_numbers.new.numbers c.clear_numbers.ensures j))

pub invariant_of-self-clause-within : goal.invariant_of-self-clause-within
invariant_of-self-clause-within c = record {
  sizes = from_item (λ z. unsigned_abs z ≤ 0) _ (pos 0)
      (λ j b. subst (λ l. unsigned_abs (slice_index_or l j (pos 0)) ≤ 0)
      (sym (with_items_is c.args.self.now.numbers c.clear_numbers.new.numbers
      (c.clear_numbers.auto.numbers ∙ c.deref_mut.ensures.len)))
      (subst (λ z. unsigned_abs z ≤ 0)
      (sym (made_zeros c.deref_mut.result.now c.clear_numbers.new.numbers c.clear_numbers.ensures j))
      (omega arith)))
      (omega arith);
}

pub invariant_of-self-clause-marks_long : goal.invariant_of-self-clause-marks_long
invariant_of-self-clause-marks_long c =
    let row = c.args.self.now in
    long_kept row _ _ (ap length (with_items_is row.marks c.clear_marks.new.marks
    (c.clear_marks.auto.marks ∙ c.deref_mut-2.ensures.len))
    ∙ c.clear_marks.auto.marks ∙ ap length c.deref_mut-2.ensures.value)
    (ap length (with_items_is row.numbers c.clear_numbers.new.numbers
    (c.clear_numbers.auto.numbers ∙ c.deref_mut.ensures.len))
    ∙ c.clear_numbers.auto.numbers ∙ ap length c.deref_mut.ensures.value)
