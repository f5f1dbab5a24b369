use Rattle.std.proofs.Common.{ap, arith, length}
use Rattle.relaxation.proofs.RowLemmas.{few_slacks, first_count}
use Rattle.relaxation.proofs.rows.slack_count.Goals as goal

pub overflow_add-count : goal.overflow_add-count
overflow_add-count c =
    let all = c.args.rows.now.items in
    let first = first_count c.loop-row.row-iterator c.next.new.self c.in-Some.row.now
    c.in-Some.ensures.steps in
    omega (
      arith,
      c.loop-row.invariant,
      first,
      c.count-count.ensures.count,
      ap length c.slacks_of.ensures,
      few_slacks all,
      c.requires,
    )

pub loop-row-preserved : goal.loop-row-preserved
loop-row-preserved c =
    let first = first_count c.loop-row.row-iterator c.next.new.self c.in-Some.row.now
    c.in-Some.ensures.steps in
    omega (
      arith,
      c.loop-row.invariant,
      first,
      c.count-count.ensures.count,
      ap length c.slacks_of.ensures,
    )
