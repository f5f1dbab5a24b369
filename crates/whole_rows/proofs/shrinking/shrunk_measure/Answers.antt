use Rattle.std.proofs.Common.{◌+◌, subst, w64}
use Rattle.std.proofs.lemmas.Int.{to_z-of_z}
use Rattle.whole_rows.specs.Rows.{width_of}
use Rattle.whole_rows.specs.Shrinking.{DividesTo, IsBoundedTo}
use Rattle.whole_rows.proofs.ShrinkSteps.{bounded_by}
use Rattle.whole_rows.proofs.shrinking.shrunk_measure.Goals as goal

pub returns-clause-divides : goal.returns-clause-divides
returns-clause-divides c =
    let row = c.args.row.now in
    subst (λ b. DividesTo row c.args.step.now c.args.over b (width_of row + 1)
    c.measured_long-measure.result.common) (to_z-of_z w64 c.args.by c.ranges.by)
    c.measured_long-measure.ensures.common

pub returns-clause-bounded : goal.returns-clause-bounded
returns-clause-bounded c =
    let row = c.args.row.now in
    let step = c.args.step.now in
    let measure = c.measured_long-measure.result in
    subst (λ b. IsBoundedTo row step c.args.over b measure.common (width_of row + 1)
    c.in_ok-greatest.greatest) (to_z-of_z w64 c.args.by c.ranges.by)
    (bounded_by row step c.args.over _ measure.common (width_of row + 1) measure.greatest
    c.in_ok-greatest.greatest c.measured_long-measure.ensures.common.positive
    c.measured_long-measure.ensures.greatest c.in_ok-greatest.ensures.0
    c.in_ok-greatest.ensures.1)
