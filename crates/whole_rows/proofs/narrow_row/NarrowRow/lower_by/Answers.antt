use Rattle.std.proofs.Common.{◌∙◌, FitsSigned, ap, length, of_z, refl, rules, subst, sym, to_z, w64}
use Rattle.std.proofs.lemmas.Int.{to_z-of_z}
use Rattle.std.proofs.lemmas.List.{with_items_is}
use Rattle.whole_rows.specs.Rows.{CanLower, lowered_by}
use Rattle.whole_rows.proofs.CoverSteps.{long_kept}
use Rattle.whole_rows.proofs.OnceSteps.{once_covers, once_fits, once_lowered, once_side, once_within}
use Rattle.whole_rows.proofs.narrow_row.NarrowRow.lower_by.Goals as goal

pub lower_listed-requires-clause-fits : goal.lower_listed-requires-clause-fits
lower_listed-requires-clause-fits c =
    let row = c.args.self.now in
    let step = c.args.step.now.row in
    let by_is = to_z-of_z w64 c.args.by c.ranges.by in
    once_fits step row (to_z w64 (of_z w64 c.args.by))
    (subst (CanLower step row) (sym by_is) c.requires) _ _ c.deref_mut.ensures.value
    c.deref.ensures.value

pub less-self-requires : goal.less-self-requires
less-self-requires c =
    let row = c.args.self.now in
    let step = c.args.step.now.row in
    let by_is = to_z-of_z w64 c.args.by c.ranges.by in
    let side_fits : FitsSigned w64 row.side = search rules in
    let step_fits : FitsSigned w64 step.side = search rules in
    once_side step row (to_z w64 (of_z w64 c.args.by))
    (subst (CanLower step row) (sym by_is) c.requires) _ _ (to_z-of_z w64 row.side side_fits)
    (to_z-of_z w64 step.side step_fits)

pub invariant_of-self-clause-within : goal.invariant_of-self-clause-within
invariant_of-self-clause-within c =
    let row = c.args.self.now in
    let step = c.args.step.now.row in
    let by_is = to_z-of_z w64 c.args.by c.ranges.by in
    let side_fits : FitsSigned w64 row.side = search rules in
    let step_fits : FitsSigned w64 step.side = search rules in
    let result_fits : FitsSigned w64 c.less-self.result = search rules in
    once_within step row (to_z w64 (of_z w64 c.args.by))
    (subst (CanLower step row) (sym by_is) c.requires) c.deref_mut.result.now c.deref.result.now
    c.lower_listed.new.numbers _ _ _ _ c.deref_mut.ensures.value c.deref.ensures.value
    (to_z-of_z w64 row.side side_fits) (to_z-of_z w64 step.side step_fits) c.lower_listed.ensures
    (with_items_is row.numbers c.lower_listed.new.numbers
    (c.lower_listed.auto.numbers ∙ c.deref_mut.ensures.len))
    (to_z-of_z w64 c.less-self.result result_fits ∙ c.less-self.ensures)

pub invariant_of-self-clause-covers : goal.invariant_of-self-clause-covers
invariant_of-self-clause-covers c =
    let row = c.args.self.now in
    let step = c.args.step.now.row in
    let by_is = to_z-of_z w64 c.args.by c.ranges.by in
    let side_fits : FitsSigned w64 row.side = search rules in
    let step_fits : FitsSigned w64 step.side = search rules in
    let result_fits : FitsSigned w64 c.less-self.result = search rules in
    once_covers step row (to_z w64 (of_z w64 c.args.by))
    (subst (CanLower step row) (sym by_is) c.requires) c.deref_mut.result.now c.deref.result.now
    c.lower_listed.new.numbers _ _ _ _ c.deref_mut.ensures.value c.deref.ensures.value
    (to_z-of_z w64 row.side side_fits) (to_z-of_z w64 step.side step_fits) c.lower_listed.ensures
    (with_items_is row.numbers c.lower_listed.new.numbers
    (c.lower_listed.auto.numbers ∙ c.deref_mut.ensures.len))
    (to_z-of_z w64 c.less-self.result result_fits ∙ c.less-self.ensures)

pub invariant_of-self-clause-marks_long : goal.invariant_of-self-clause-marks_long
invariant_of-self-clause-marks_long c =
    let row = c.args.self.now in
    long_kept row _ _ refl
    (ap length (with_items_is row.numbers c.lower_listed.new.numbers
    (c.lower_listed.auto.numbers ∙ c.deref_mut.ensures.len))
    ∙ c.lower_listed.auto.numbers ∙ ap length c.deref_mut.ensures.value)

pub returns-clause-numbers : goal.returns-clause-numbers
returns-clause-numbers c j =
    let row = c.args.self.now in
    let step = c.args.step.now.row in
    let by_is = to_z-of_z w64 c.args.by c.ranges.by in
    let side_fits : FitsSigned w64 row.side = search rules in
    let step_fits : FitsSigned w64 step.side = search rules in
    let result_fits : FitsSigned w64 c.less-self.result = search rules in
    once_lowered step row (to_z w64 (of_z w64 c.args.by))
    (subst (CanLower step row) (sym by_is) c.requires) c.deref_mut.result.now c.deref.result.now
    c.lower_listed.new.numbers _ _ _ _ c.deref_mut.ensures.value c.deref.ensures.value
    (to_z-of_z w64 row.side side_fits) (to_z-of_z w64 step.side step_fits) c.lower_listed.ensures
    (with_items_is row.numbers c.lower_listed.new.numbers
    (c.lower_listed.auto.numbers ∙ c.deref_mut.ensures.len))
    (to_z-of_z w64 c.less-self.result result_fits ∙ c.less-self.ensures) j
    ∙ ap (λ b. lowered_by step row b j) by_is
