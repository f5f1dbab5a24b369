use Rattle.std.proofs.Common.{◌≡◌, ◌+◌, ◌*◌, ◌<◌, ◌^◌, ◌∙◌, ap, refl, subst, sym, unsigned_abs}
use Rattle.whole_rows.specs.Rows.{numerator_of}
use Rattle.whole_rows.proofs.DivisionSteps.{entry_is}
use Rattle.whole_rows.proofs.UnitSteps.{unit_planned, unit_small}
use Rattle.whole_rows.proofs.narrow_row.NarrowRow.unit_plan.Goals as goal
use Rattle.whole_rows.proofs.narrow_row.NarrowRow.unit_plan.Goals.{After-unsigned_abs-size}

-- the size of the entry
size_is : (c : After-unsigned_abs-size) → c.unsigned_abs-size.result
    ≡ unsigned_abs (numerator_of c.args.self.now c.args.q)
size_is c =
    c.unsigned_abs-size.ensures.value
    ∙ ap unsigned_abs (entry_is c.args.self.now c.args.q c.index-by.result.now c.requires.column
    c.index-by.ensures)

pub raised-bound-requires : goal.raised-bound-requires
raised-bound-requires c =
    let row = c.args.self.now in
    let step = c.args.step.now.row in
    subst (λ s. row.bound + s * step.bound < 2 ^ 63)
    (sym (size_is (goal.at.raised-bound-requires c).After-unsigned_abs-size))
    (unit_small c.args.q step row c.requires.unit c.requires.stays)

pub returns : goal.returns
returns c =
    let row = c.args.self.now in
    let step = c.args.step.now.row in
    unit_planned c.args.q step row c.requires.unit c.requires.stays c.requires.column
    c.requires.width _ refl
    (entry_is row c.args.q c.index-by.result.now c.requires.column c.index-by.ensures)
    (c.raised-bound.ensures
    ∙ ap (λ s. row.bound + s * step.bound)
    (size_is (goal.at.returns c).After-unsigned_abs-size)) refl
