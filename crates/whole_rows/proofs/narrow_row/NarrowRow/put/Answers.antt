use Rattle.std.proofs.Common.{◌<◌, ◌≤◌, ◌^◌, ◌∙◌, ap, arith, length, of_z, slice_set, subst, sym, to_z, unsigned_abs, w64}
use Rattle.std.proofs.lemmas.Int.{to_z-of_z}
use Rattle.std.proofs.lemmas.List.{length-set, with_items_is}
use Rattle.whole_rows.specs.ColumnMarks.{IsColumnMarked, MarksCover}
use Rattle.whole_rows.specs.Rows.{width_of}
use Rattle.whole_rows.proofs.CoverSteps.{long_kept, put_within, side_within}
use Rattle.whole_rows.proofs.MarkSteps.{covers_put}
use Rattle.whole_rows.proofs.narrow_row.NarrowRow.put.Goals as goal
use Rattle.whole_rows.proofs.narrow_row.NarrowRow.put.Goals.{After-greater-self}

small_lem : (c : After-greater-self)
    → unsigned_abs (to_z w64 (of_z w64 c.args.numerator)) ≤ c.greater-self.result
small_lem c =
    subst (λ x. x ≤ c.greater-self.result) c.unsigned_abs-size.ensures.value
    c.greater-self.ensures.left

bound_lem : (c : After-greater-self) → c.greater-self.result < 2 ^ 63
bound_lem c =
    c.greater-self.ensures.small
    (subst (λ x. x < 2 ^ 63) (sym (c.unsigned_abs-size.ensures.value
    ∙ ap unsigned_abs (to_z-of_z w64 c.args.numerator c.ranges.numerator))) c.requires.small)
    c.args.self.now.small_bound

pub invariant_of-self-clause-small_bound : goal.invariant_of-self-clause-small_bound
invariant_of-self-clause-small_bound c =
    bound_lem (goal.at.invariant_of-self-clause-small_bound c).After-greater-self

pub invariant_of-self-clause-within : goal.invariant_of-self-clause-within
invariant_of-self-clause-within c =
    put_within c.args.self.now (to_z w64 (of_z w64 c.args.numerator)) c.greater-self.result
    (small_lem (goal.at.invariant_of-self-clause-within c).After-greater-self)
    c.greater-self.ensures.right c.args.j

pub invariant_of-self-clause-marks_long : goal.invariant_of-self-clause-marks_long
invariant_of-self-clause-marks_long c =
    let row = c.args.self.now in
    long_kept row _ _ (ap length (with_items_is row.marks c.mark.new.marks
    (c.mark.auto.marks ∙ c.deref_mut.ensures.len))
    ∙ c.mark.auto.marks ∙ ap length c.deref_mut.ensures.value)
    (length-set row.numbers.items c.args.j (to_z w64 (of_z w64 c.args.numerator)))

pub invariant_of-self-clause-covers : goal.invariant_of-self-clause-covers
invariant_of-self-clause-covers c =
    let row = c.args.self.now in
    let number = to_z w64 (of_z w64 c.args.numerator) in
    let within : c.args.j < width_of row =
    omega (arith, c.if-j-len.true, c.len.ensures, row.numbers.ok.0) in
    subst (λ l. MarksCover l (slice_set row.numbers.items c.args.j number))
    (sym (with_items_is row.marks c.mark.new.marks (c.mark.auto.marks ∙ c.deref_mut.ensures.len)))
    (covers_put row.marks.items c.mark.new.marks row.numbers.items c.args.j number row.covers
    (subst (λ l. IsColumnMarked c.args.j l c.mark.new.marks) c.deref_mut.ensures.value
    c.mark.ensures) within)

pub invariant_of-self-else-j-len-clause-small_bound :
    goal.invariant_of-self-else-j-len-clause-small_bound
invariant_of-self-else-j-len-clause-small_bound c =
    bound_lem (goal.at.invariant_of-self-else-j-len-clause-small_bound c).After-greater-self

pub invariant_of-self-else-j-len-clause-within : goal.invariant_of-self-else-j-len-clause-within
invariant_of-self-else-j-len-clause-within c =
    side_within c.args.self.now (to_z w64 (of_z w64 c.args.numerator)) c.greater-self.result
    (small_lem (goal.at.invariant_of-self-else-j-len-clause-within c).After-greater-self)
    c.greater-self.ensures.right
