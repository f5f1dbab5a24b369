use Rattle.std.proofs.Common.{arith, not, sym}
use Rattle.ratio_core.specs.Rational.{rational_eq, zero_ℚ}
use Rattle.tableau_core.specs.LeastLaws.{least_found, least_more, nonzero_told, zero_told}
use Rattle.tableau_core.specs.Row.{cell}
use Rattle.tableau_core.specs.ItemLaws.{item_is}
use Rattle.tableau_core.proofs.scan.first_nonzero.Goals as goal

pub returns-then-not-is_zero-clause-value : goal.returns-then-not-is_zero-clause-value
returns-then-not-is_zero-clause-value c =
    let row = c.args.row.now in
    sym (least_found c.args.count c.loop-j.j (λ j. not (rational_eq (cell row j) zero_ℚ))
    (omega arith) c.loop-j.invariant (nonzero_told c.is_zero.result c.index-row-j.result
    (cell row c.loop-j.j) (item_is row c.loop-j.j c.index-row-j.result (omega arith)
    c.index-row-j.is) c.is_zero.ensures.1 c.if-not-is_zero.true))

pub loop-j-preserved : goal.loop-j-preserved
loop-j-preserved c =
    let row = c.args.row.now in
    least_more c.loop-j.j (λ j. not (rational_eq (cell row j) zero_ℚ)) c.loop-j.invariant
    (zero_told c.is_zero.result c.index-row-j.result (cell row c.loop-j.j)
    (item_is row c.loop-j.j c.index-row-j.result (omega arith) c.index-row-j.is)
    c.is_zero.ensures.0 c.if-not-is_zero.false)
