use Rattle.std.proofs.Common.{arith}
use Rattle.whole_rows.proofs.MarkSteps.{first_marked_more, first_marked_none}
use Rattle.whole_rows.proofs.marks.mark_all.Goals as goal

pub loop-j-init : goal.loop-j-init
loop-j-init c =
    first_marked_none c.args.marks.now c.clear_marks.new.marks c.clear_marks.ensures.long
    c.clear_marks.ensures.none

pub mark-requires : goal.mark-requires
mark-requires c =
    omega (arith, c.loop-j.invariant.long, c.requires, c.loop-j-test.true)

pub loop-j-preserved : goal.loop-j-preserved
loop-j-preserved c =
    first_marked_more c.loop-j.j c.args.marks.now c.loop-j.marks c.mark.new.marks
    c.loop-j.invariant c.mark.ensures

pub returns-clause-long : goal.returns-clause-long
returns-clause-long c = c.loop-j.invariant.long

pub returns-clause-marked : goal.returns-clause-marked
returns-clause-marked c = λ j b. c.loop-j.invariant.marked j (omega (arith, b, c.loop-j-test.false))

pub returns-clause-others : goal.returns-clause-others
returns-clause-others c = λ j b.
    c.loop-j.invariant.others j (omega (arith, b, c.loop-j.auto.j-end, c.loop-j-test.false))
