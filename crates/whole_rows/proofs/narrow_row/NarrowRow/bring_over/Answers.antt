use Rattle.std.proofs.Common.{◌∙◌, FitsSigned, ap, length, map, pos, refl, rules, subst, sym, w64}
use Rattle.std.proofs.lemmas.Int.{to_z-of_z}
use Rattle.std.proofs.lemmas.List.{with_items_is}
use Rattle.whole_rows.specs.Listed.{ListsNonzeros}
use Rattle.whole_rows.proofs.CoverSteps.{joined_long, joined_step, long_kept, scaled_covers}
use Rattle.whole_rows.proofs.PlanSteps.{planned_above, planned_over, planned_ready, planned_side, planned_small, scaled_within}
use Rattle.whole_rows.proofs.narrow_row.NarrowRow.bring_over.Goals as goal

pub scale_numbers-requires-clause-fits : goal.scale_numbers-requires-clause-fits
scale_numbers-requires-clause-fits c =
    planned_small c.requires.planned.0 c.args.step.now c.args.self.now c.args.plan
    c.requires.planned.1 _ c.deref_mut.ensures.value

pub scale_numbers-requires-clause-over : goal.scale_numbers-requires-clause-over
scale_numbers-requires-clause-over c =
    planned_over c.requires.planned.0 c.args.step.now c.args.self.now c.args.plan
    c.requires.planned.1

pub multiplied-self-requires-clause-over : goal.multiplied-self-requires-clause-over
multiplied-self-requires-clause-over c =
    planned_over c.requires.planned.0 c.args.step.now c.args.self.now c.args.plan
    c.requires.planned.1

pub multiplied-self-requires-clause-fits : goal.multiplied-self-requires-clause-fits
multiplied-self-requires-clause-fits c =
    let side_fits : FitsSigned w64 c.args.self.now.side = search rules in
    planned_side c.requires.planned.0 c.args.step.now c.args.self.now c.args.plan
    c.requires.planned.1 _ (to_z-of_z w64 c.args.self.now.side side_fits)

pub invariant_of-self-clause-above : goal.invariant_of-self-clause-above
invariant_of-self-clause-above c =
    planned_above c.requires.planned.0 c.args.step.now c.args.self.now c.args.plan
    c.requires.planned.1

pub invariant_of-self-clause-small_den : goal.invariant_of-self-clause-small_den
invariant_of-self-clause-small_den c = c.requires.planned.1.small_den

pub invariant_of-self-clause-small_bound : goal.invariant_of-self-clause-small_bound
invariant_of-self-clause-small_bound c = c.requires.planned.1.small_bound

pub invariant_of-self-clause-within : goal.invariant_of-self-clause-within
invariant_of-self-clause-within c =
    let row = c.args.self.now in
    let side_fits : FitsSigned w64 row.side = search rules in
    let result_fits : FitsSigned w64 c.multiplied-self.result = search rules in
    scaled_within c.requires.planned.0 c.args.step.now row c.args.plan c.requires.planned.1
    c.deref_mut.result.now c.scale_numbers.new.numbers _ _ _
    c.deref_mut.ensures.value (to_z-of_z w64 row.side side_fits) c.scale_numbers.ensures
    (with_items_is row.numbers c.scale_numbers.new.numbers
    (c.scale_numbers.auto.numbers ∙ c.deref_mut.ensures.len))
    (to_z-of_z w64 c.multiplied-self.result result_fits ∙ c.multiplied-self.ensures)

pub join_marks-requires-clause-long : goal.join_marks-requires-clause-long
join_marks-requires-clause-long c =
    ap length c.deref-2.ensures.value
    ∙ joined_long c.args.self.now c.args.step.now c.requires.planned.1.width
    ∙ sym (ap length c.deref_mut-2.ensures.value)

pub join_marks-requires-clause-lists : goal.join_marks-requires-clause-lists
join_marks-requires-clause-lists c =
    subst (λ l. ListsNonzeros c.args.words.now (map pos l)) (sym c.deref-2.ensures.value)
    c.requires.words

pub invariant_of-self-clause-covers : goal.invariant_of-self-clause-covers
invariant_of-self-clause-covers c =
    let row = c.args.self.now in
    scaled_covers row c.args.step.now c.deref-2.result.now c.deref_mut-2.result.now
    c.join_marks.new.marks _ c.deref-2.ensures.value c.deref_mut-2.ensures.value
    (with_items_is row.marks c.join_marks.new.marks
    (c.join_marks.auto.marks ∙ c.deref_mut-2.ensures.len)) c.requires.planned.1.width c.join_marks.ensures
    (pos c.args.plan.over) c.deref_mut.result.now c.scale_numbers.new.numbers _
    c.deref_mut.ensures.value
    (with_items_is row.numbers c.scale_numbers.new.numbers
    (c.scale_numbers.auto.numbers ∙ c.deref_mut.ensures.len))
    c.scale_numbers.ensures

pub invariant_of-self-clause-marks_long : goal.invariant_of-self-clause-marks_long
invariant_of-self-clause-marks_long c =
    let row = c.args.self.now in
    long_kept row _ _ (ap length (with_items_is row.marks c.join_marks.new.marks
    (c.join_marks.auto.marks ∙ c.deref_mut-2.ensures.len))
    ∙ c.join_marks.auto.marks ∙ ap length c.deref_mut-2.ensures.value)
    (ap length (with_items_is row.numbers c.scale_numbers.new.numbers
    (c.scale_numbers.auto.numbers ∙ c.deref_mut.ensures.len))
    ∙ c.scale_numbers.auto.numbers ∙ ap length c.deref_mut.ensures.value)

pub returns-clause-ready : goal.returns-clause-ready
returns-clause-ready c = λ q planned.
    let row = c.args.self.now in
    let side_fits : FitsSigned w64 row.side = search rules in
    let result_fits : FitsSigned w64 c.multiplied-self.result = search rules in
    planned_ready q c.args.step.now row c.args.plan planned c.deref_mut.result.now
    c.scale_numbers.new.numbers _ _ _ c.deref_mut.ensures.value
    (to_z-of_z w64 row.side side_fits) c.scale_numbers.ensures
    (with_items_is row.numbers c.scale_numbers.new.numbers
    (c.scale_numbers.auto.numbers ∙ c.deref_mut.ensures.len))
    (to_z-of_z w64 c.multiplied-self.result result_fits ∙ c.multiplied-self.ensures) _ _ refl refl
    refl refl
    (joined_step row c.args.step.now c.deref-2.result.now c.deref_mut-2.result.now
    c.join_marks.new.marks _ c.deref-2.ensures.value c.deref_mut-2.ensures.value
    (with_items_is row.marks c.join_marks.new.marks
    (c.join_marks.auto.marks ∙ c.deref_mut-2.ensures.len)) planned.width c.join_marks.ensures)
    refl
