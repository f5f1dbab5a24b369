use Rattle.std.proofs.Common.{◌∙◌, FitsSigned, ap, length, map, pos, ◌*ℤ◌, refl, rules, subst, subst₂, sym, w64}
use Rattle.std.proofs.lemmas.Int.{to_z-of_z}
use Rattle.std.proofs.lemmas.List.{with_items_is}
use Rattle.whole_rows.proofs.DivisionSteps.{side_is_lem}
use Rattle.whole_rows.specs.ColumnMarks.{MarksCover, words_of}
use Rattle.whole_rows.specs.Listed.{ListsNonzeros}
use Rattle.whole_rows.proofs.CoverSteps.{joined_long, joined_row, joined_step, long_kept}
use Rattle.whole_rows.proofs.MarkSteps.{covers_shrunk}
use Rattle.whole_rows.proofs.LongSteps.{common_small, long_above, long_fits, long_ready, long_side_exact, long_side_small, long_within}
use Rattle.whole_rows.proofs.narrow_row.NarrowRow.lower_long.Goals as goal
use Rattle.whole_rows.proofs.narrow_row.NarrowRow.lower_long.Goals.{After-deref-3}

pub shrink_numbers-requires-clause-small_common : goal.shrink_numbers-requires-clause-small_common
shrink_numbers-requires-clause-small_common c =
    common_small c.requires.planned.0 c.args.step.now c.args.self.now c.args.plan
    c.requires.planned.1

pub shrunk-self-requires-clause-small_common : goal.shrunk-self-requires-clause-small_common
shrunk-self-requires-clause-small_common c =
    common_small c.requires.planned.0 c.args.step.now c.args.self.now c.args.plan
    c.requires.planned.1

pub shrink_numbers-requires-clause-fits : goal.shrink_numbers-requires-clause-fits
shrink_numbers-requires-clause-fits c =
    let by_fits : FitsSigned w64 c.args.plan.by = search rules in
    long_fits c.requires.planned.0 c.args.step.now c.args.self.now c.args.plan
    c.requires.planned.1 _ (to_z-of_z w64 c.args.plan.by by_fits) _ _ c.deref_mut-2.ensures.value
    c.deref-3.ensures.value

pub shrunk-self-requires-clause-exact : goal.shrunk-self-requires-clause-exact
shrunk-self-requires-clause-exact c =
    let by_fits : FitsSigned w64 c.args.plan.by = search rules in
    long_side_exact c.requires.planned.0 c.args.step.now c.args.self.now c.args.plan
    c.requires.planned.1 _ (to_z-of_z w64 c.args.plan.by by_fits) _ _
    (side_is_lem c.args.self.now) (side_is_lem c.args.step.now)

pub shrunk-self-requires-clause-small : goal.shrunk-self-requires-clause-small
shrunk-self-requires-clause-small c =
    let by_fits : FitsSigned w64 c.args.plan.by = search rules in
    long_side_small c.requires.planned.0 c.args.step.now c.args.self.now c.args.plan
    c.requires.planned.1 _ (to_z-of_z w64 c.args.plan.by by_fits) _ _
    (side_is_lem c.args.self.now) (side_is_lem c.args.step.now)

pub invariant_of-self-clause-above : goal.invariant_of-self-clause-above
invariant_of-self-clause-above c =
    long_above c.requires.planned.0 c.args.step.now c.args.self.now c.args.plan
    c.requires.planned.1

pub invariant_of-self-clause-within : goal.invariant_of-self-clause-within
invariant_of-self-clause-within c =
    let by_fits : FitsSigned w64 c.args.plan.by = search rules in
    let result_fits : FitsSigned w64 c.shrunk-self.result = search rules in
    long_within c.requires.planned.0 c.args.step.now c.args.self.now c.args.plan
    c.requires.planned.1 _ (to_z-of_z w64 c.args.plan.by by_fits) c.deref_mut-2.result.now
    c.deref-3.result.now c.shrink_numbers.new.numbers _ _ _ _ c.deref_mut-2.ensures.value
    c.deref-3.ensures.value (side_is_lem c.args.self.now) (side_is_lem c.args.step.now)
    c.shrink_numbers.ensures
    (with_items_is c.args.self.now.numbers c.shrink_numbers.new.numbers
    (c.shrink_numbers.auto.numbers ∙ c.deref_mut-2.ensures.len))
    (c.shrunk-self.ensures ∙ ap (λ z. z *ℤ pos c.args.plan.common)
    (sym (to_z-of_z w64 c.shrunk-self.result result_fits)))

pub returns-clause-ready : goal.returns-clause-ready
returns-clause-ready c = λ q planned.
    let row = c.args.self.now in
    let by_fits : FitsSigned w64 c.args.plan.by = search rules in
    let result_fits : FitsSigned w64 c.shrunk-self.result = search rules in
    long_ready q c.args.step.now row c.args.plan planned _ (to_z-of_z w64 c.args.plan.by by_fits)
    c.deref_mut-2.result.now c.deref-3.result.now c.shrink_numbers.new.numbers _ _ _ _
    c.deref_mut-2.ensures.value c.deref-3.ensures.value (side_is_lem row)
    (side_is_lem c.args.step.now) c.shrink_numbers.ensures
    (with_items_is row.numbers c.shrink_numbers.new.numbers
    (c.shrink_numbers.auto.numbers ∙ c.deref_mut-2.ensures.len))
    (c.shrunk-self.ensures ∙ ap (λ z. z *ℤ pos c.args.plan.common)
    (sym (to_z-of_z w64 c.shrunk-self.result result_fits)))
    _ refl refl refl
    (joined_step row c.args.step.now c.deref.result.now c.deref_mut.result.now
    c.join_marks.new.marks _ c.deref.ensures.value c.deref_mut.ensures.value
    (with_items_is row.marks c.join_marks.new.marks
    (c.join_marks.auto.marks ∙ c.deref_mut.ensures.len))
    planned.width c.join_marks.ensures)

pub join_marks-requires-clause-long : goal.join_marks-requires-clause-long
join_marks-requires-clause-long c =
    ap length c.deref.ensures.value
    ∙ joined_long c.args.self.now c.args.step.now c.requires.planned.1.width
    ∙ sym (ap length c.deref_mut.ensures.value)

pub join_marks-requires-clause-lists : goal.join_marks-requires-clause-lists
join_marks-requires-clause-lists c =
    subst (λ l. ListsNonzeros c.args.words.now (map pos l)) (sym c.deref.ensures.value)
    c.requires.words

-- the marks that are joined cover both rows
covers_lem : (c : After-deref-3) → MarksCover c.deref-2.result.now c.deref_mut-2.result.now
    × MarksCover c.deref-2.result.now c.deref-3.result.now
covers_lem c =
    let row = c.args.self.now in
    let marks_are = c.deref-2.ensures.value ∙ with_items_is row.marks c.join_marks.new.marks
    (c.join_marks.auto.marks ∙ c.deref_mut.ensures.len) in (
      joined_row row c.args.step.now c.deref.result.now c.deref_mut.result.now
          c.join_marks.new.marks c.deref-2.result.now c.deref.ensures.value
          c.deref_mut.ensures.value marks_are c.requires.planned.1.width c.join_marks.ensures
          c.deref_mut-2.result.now
          (subst (MarksCover row.marks.items) (sym c.deref_mut-2.ensures.value) row.covers)
          (ap length c.deref_mut-2.ensures.value),
      subst (MarksCover c.deref-2.result.now) (sym c.deref-3.ensures.value)
          (joined_step row c.args.step.now c.deref.result.now c.deref_mut.result.now
          c.join_marks.new.marks c.deref-2.result.now c.deref.ensures.value
          c.deref_mut.ensures.value marks_are c.requires.planned.1.width c.join_marks.ensures),
    )

pub shrink_numbers-requires-clause-marks : goal.shrink_numbers-requires-clause-marks
shrink_numbers-requires-clause-marks c =
    let row = c.args.self.now in
    ap length (c.deref-2.ensures.value ∙ with_items_is row.marks c.join_marks.new.marks
    (c.join_marks.auto.marks ∙ c.deref_mut.ensures.len))
    ∙ c.join_marks.auto.marks ∙ ap length c.deref_mut.ensures.value ∙ row.marks_long
    ∙ ap (λ l. words_of (length l)) (sym c.deref_mut-2.ensures.value)

pub shrink_numbers-requires-clause-covers : goal.shrink_numbers-requires-clause-covers
shrink_numbers-requires-clause-covers c =
    (covers_lem (goal.at.shrink_numbers-requires-clause-covers c).After-deref-3).0

pub shrink_numbers-requires-clause-step_covers : goal.shrink_numbers-requires-clause-step_covers
shrink_numbers-requires-clause-step_covers c =
    (covers_lem (goal.at.shrink_numbers-requires-clause-step_covers c).After-deref-3).1

pub invariant_of-self-clause-covers : goal.invariant_of-self-clause-covers
invariant_of-self-clause-covers c =
    let covers = covers_lem (goal.at.invariant_of-self-clause-covers c).After-deref-3 in
    subst₂ MarksCover c.deref-2.ensures.value
    (sym (with_items_is c.args.self.now.numbers c.shrink_numbers.new.numbers
    (c.shrink_numbers.auto.numbers ∙ c.deref_mut-2.ensures.len)))
    (covers_shrunk c.args.plan.over _ c.args.plan.common c.deref-2.result.now
    c.deref_mut-2.result.now c.deref-3.result.now c.shrink_numbers.new.numbers
    c.requires.planned.1.divides.positive covers.0 covers.1 c.shrink_numbers.ensures)

pub invariant_of-self-clause-marks_long : goal.invariant_of-self-clause-marks_long
invariant_of-self-clause-marks_long c =
    let row = c.args.self.now in
    long_kept row _ _ (ap length (with_items_is row.marks c.join_marks.new.marks
    (c.join_marks.auto.marks ∙ c.deref_mut.ensures.len))
    ∙ c.join_marks.auto.marks ∙ ap length c.deref_mut.ensures.value)
    (ap length (with_items_is row.numbers c.shrink_numbers.new.numbers
    (c.shrink_numbers.auto.numbers ∙ c.deref_mut-2.ensures.len))
    ∙ c.shrink_numbers.auto.numbers ∙ ap length c.deref_mut-2.ensures.value)
