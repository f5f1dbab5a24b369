use Rattle.std.proofs.Common.{◌<◌, ◌^◌, ◌∙◌, ◌*ℤ◌, ℕ, FitsSigned, ap, arith, length, pos, refl, rules, slice_index_or, subst, sym, unsigned_abs, w64, to_z, of_z}
use Rattle.std.proofs.lemmas.Int.{to_z-of_z}
use Rattle.std.proofs.lemmas.List.{with_items_is}
use Rattle.whole_rows.proofs.CoverSteps.{divided_covers, long_kept}
use Rattle.whole_rows.proofs.ListedDividingSteps.{lists_divided}
use Rattle.whole_rows.specs.Listed.{ListsNonzeros}
use Rattle.whole_rows.proofs.DivisionSteps.{at_item, division_divided, division_within, exact_items, exact_side, numerator_small, side_is_lem, side_of}
use Rattle.whole_rows.proofs.narrow_row.NarrowRow.divide.Goals as goal
use Rattle.whole_rows.proofs.narrow_row.NarrowRow.divide.Goals.{After-divide_numbers}

pub divide_numbers-requires-clause-exact : goal.divide_numbers-requires-clause-exact
divide_numbers-requires-clause-exact c =
    let by_fits : FitsSigned w64 c.division-division.result.by = search rules in
    exact_items c.args.q c.args.self.now c.division-division.result c.division-division.ensures
    _ (to_z-of_z w64 c.division-division.result.by by_fits) _ c.deref_mut.ensures.value

pub divide_numbers-requires-clause-small : goal.divide_numbers-requires-clause-small
divide_numbers-requires-clause-small c =
    let row = c.args.self.now in
    subst (λ xs. (j : ℕ) → unsigned_abs (slice_index_or xs j (pos 0)) < 2 ^ 63)
    (sym c.deref_mut.ensures.value)
    (at_item (λ z. unsigned_abs z < 2 ^ 63) row.numbers.items row.side (numerator_small row)
    (omega arith))

pub quotient-self-requires-clause-exact : goal.quotient-self-requires-clause-exact
quotient-self-requires-clause-exact c =
    let by_fits : FitsSigned w64 c.division-division.result.by = search rules in
    exact_side c.args.q c.args.self.now c.division-division.result c.division-division.ensures
    _ (to_z-of_z w64 c.division-division.result.by by_fits) _ (side_is_lem c.args.self.now)

pub quotient-self-requires-clause-small : goal.quotient-self-requires-clause-small
quotient-self-requires-clause-small c =
    let row = c.args.self.now in
    subst (λ z. unsigned_abs z < 2 ^ 63) (sym (side_is_lem row))
    (side_of (λ z. unsigned_abs z < 2 ^ 63) row.numbers.items row.side (numerator_small row))

pub invariant_of-self-clause-within : goal.invariant_of-self-clause-within
invariant_of-self-clause-within c =
    let by_fits : FitsSigned w64 c.division-division.result.by = search rules in
    let result_fits : FitsSigned w64 c.quotient-self.result = search rules in
    division_within c.args.q c.args.self.now c.division-division.result
    c.division-division.ensures (to_z w64 (of_z w64 c.division-division.result.by))
    (to_z-of_z w64 c.division-division.result.by by_fits) c.deref_mut.result.now
    c.divide_numbers.new.numbers _ (to_z w64 (of_z w64 c.args.self.now.side)) _
    c.deref_mut.ensures.value (side_is_lem c.args.self.now) c.divide_numbers.ensures
    (with_items_is c.args.self.now.numbers c.divide_numbers.new.numbers
    (c.divide_numbers.auto.numbers ∙ c.deref_mut.ensures.len))
    (c.quotient-self.ensures
    ∙ ap (λ z. z *ℤ to_z w64 (of_z w64 c.division-division.result.by))
    (sym (to_z-of_z w64 c.quotient-self.result result_fits)))

pub returns-clause-divided : goal.returns-clause-divided
returns-clause-divided c =
    let by_fits : FitsSigned w64 c.division-division.result.by = search rules in
    let result_fits : FitsSigned w64 c.quotient-self.result = search rules in
    division_divided c.args.q c.args.self.now c.division-division.result
    c.division-division.ensures (to_z w64 (of_z w64 c.division-division.result.by))
    (to_z-of_z w64 c.division-division.result.by by_fits) c.deref_mut.result.now
    c.divide_numbers.new.numbers _ (to_z w64 (of_z w64 c.args.self.now.side)) _
    c.deref_mut.ensures.value (side_is_lem c.args.self.now) c.divide_numbers.ensures
    (with_items_is c.args.self.now.numbers c.divide_numbers.new.numbers
    (c.divide_numbers.auto.numbers ∙ c.deref_mut.ensures.len))
    (c.quotient-self.ensures
    ∙ ap (λ z. z *ℤ to_z w64 (of_z w64 c.division-division.result.by))
    (sym (to_z-of_z w64 c.quotient-self.result result_fits)))
    c.requires.nonzero _ refl refl refl

-- the columns of the row that is divided are those listed
lists_lem : (c : After-divide_numbers)
    → ListsNonzeros c.args.columns.now c.divide_numbers.new.numbers
lists_lem c =
    let by_fits : FitsSigned w64 c.division-division.result.by = search rules in
    lists_divided (to_z w64 (of_z w64 c.division-division.result.by)) c.args.columns.now
    c.deref_mut.result.now c.divide_numbers.new.numbers
    (λ z. c.division-division.ensures.nonzero
    (sym (to_z-of_z w64 c.division-division.result.by by_fits) ∙ z))
    (subst (ListsNonzeros c.args.columns.now) (sym c.deref_mut.ensures.value) c.requires.lists)
    c.divide_numbers.ensures

pub invariant_of-self-clause-covers : goal.invariant_of-self-clause-covers
invariant_of-self-clause-covers c =
    let by_fits : FitsSigned w64 c.division-division.result.by = search rules in
    divided_covers c.args.self.now (to_z w64 (of_z w64 c.division-division.result.by))
    c.deref_mut.result.now c.divide_numbers.new.numbers _ c.deref_mut.ensures.value
    (with_items_is c.args.self.now.numbers c.divide_numbers.new.numbers
    (c.divide_numbers.auto.numbers ∙ c.deref_mut.ensures.len))
    (λ z. c.division-division.ensures.nonzero
    (sym (to_z-of_z w64 c.division-division.result.by by_fits) ∙ z))
    c.divide_numbers.ensures

pub divide_numbers-requires-clause-lists : goal.divide_numbers-requires-clause-lists
divide_numbers-requires-clause-lists c =
    subst (ListsNonzeros c.args.columns.now) (sym c.deref_mut.ensures.value) c.requires.lists

pub returns-clause-lists : goal.returns-clause-lists
returns-clause-lists c =
    subst (ListsNonzeros c.args.columns.now)
    (sym (with_items_is c.args.self.now.numbers c.divide_numbers.new.numbers
    (c.divide_numbers.auto.numbers ∙ c.deref_mut.ensures.len)))
    (lists_lem (goal.at.returns-clause-lists c).After-divide_numbers)

pub invariant_of-self-clause-marks_long : goal.invariant_of-self-clause-marks_long
invariant_of-self-clause-marks_long c =
    let row = c.args.self.now in
    long_kept row _ _ refl
    (ap length (with_items_is row.numbers c.divide_numbers.new.numbers
    (c.divide_numbers.auto.numbers ∙ c.deref_mut.ensures.len))
    ∙ c.divide_numbers.auto.numbers ∙ ap length c.deref_mut.ensures.value)
