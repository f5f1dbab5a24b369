use Rattle.std.proofs.Common.{◌≡◌, ◌≤◌, ◌∙◌, ℕ, FitsSigned, ap, arith, pos, rules, slice_index_or, subst, subst₂, sym, unsigned_abs, length, w64}
use Rattle.std.proofs.lemmas.Int.{to_z-of_z}
use Rattle.std.specs.Int.{is_negative}
use Rattle.ratio_core.specs.Rational.{signed}
use Rattle.whole_rows.specs.Numerators.{IsMeasured}
use Rattle.whole_rows.specs.Rows.{numerator_of}
use Rattle.whole_rows.proofs.DivisionSteps.{at_item, division_made, divisor_at_most, entry_is, side_is_lem, side_of, size_above_zero}
use Rattle.whole_rows.proofs.narrow_row.NarrowRow.division.Goals as goal
use Rattle.whole_rows.proofs.narrow_row.NarrowRow.division.Goals.{After-measured-measure}

pub measured-measure-requires-clause-side : goal.measured-measure-requires-clause-side
measured-measure-requires-clause-side c =
    let row = c.args.self.now in
    subst (λ z. unsigned_abs z ≤ row.bound) (sym (side_is_lem row))
    (side_of (λ z. unsigned_abs z ≤ row.bound) row.numbers.items row.side row.within.sizes)

pub measured-measure-requires-clause-within : goal.measured-measure-requires-clause-within
measured-measure-requires-clause-within c =
    let row = c.args.self.now in
    subst (λ xs. (j : ℕ) → unsigned_abs (slice_index_or xs j (pos 0)) ≤ row.bound)
    (sym c.deref.ensures.value)
    (at_item (λ z. unsigned_abs z ≤ row.bound) row.numbers.items row.side row.within.sizes
    (omega arith))

size_is : (c : After-measured-measure) → c.unsigned_abs-size.result
    ≡ unsigned_abs (numerator_of c.args.self.now c.args.q)
size_is c =
    c.unsigned_abs-size.ensures.value
    ∙ ap unsigned_abs (entry_is c.args.self.now c.args.q c.index-entry.result.now
    c.requires.column c.index-entry.ensures)

pub with_sign-requires : goal.with_sign-requires
with_sign-requires c =
    let size = size_above_zero c.args.self.now c.args.q c.unsigned_abs-size.result
    c.requires.nonzero (size_is c) in
    let most = divisor_at_most c.measured-measure.result.common c.unsigned_abs-size.result
    c.measured-measure.ensures.divides_size size.0 in
    omega (arith, most, size.1)

pub returns : goal.returns
returns c =
    let row = c.args.self.now in
    let common = c.measured-measure.result.common in
    let greatest = c.measured-measure.result.greatest in
    let by_fits : FitsSigned w64 c.with_sign.result = search rules in
    division_made c.args.q row c.unsigned_abs-size.result common greatest c.with_sign.result
    (size_is (goal.at.returns c).After-measured-measure) c.requires.nonzero
    (subst₂ (λ xs s. IsMeasured xs (length xs) s c.unsigned_abs-size.result common greatest)
    c.deref.ensures.value (side_is_lem row) c.measured-measure.ensures)
    (c.with_sign.ensures
    ∙ ap (λ z. signed (is_negative z) common) (entry_is row c.args.q c.index-entry.result.now
    c.requires.column c.index-entry.ensures))
    _ (to_z-of_z w64 c.with_sign.result by_fits) c.part.ensures c.part-2.ensures
