use Rattle.std.proofs.Common.{◌≤◌, ap, drop, length, subst, sym, take, ◌∙◌}
use Rattle.relaxation.proofs.LoopLemmas.{violations_more, own_size}
use Rattle.relaxation.proofs.reading.violations.Goals as goal

pub split_at-requires : goal.split_at-requires
split_at-requires c =
    subst (λ n. n ≤ length c.loop-row.left.now)
    (sym (c.count.ensures.count ∙ ap length c.slacks_of.ensures))
    (own_size c.loop-row.row-iterator c.next.new.self c.in-Some.row.now c.loop-row.left.now
    c.in-Some.ensures.steps c.loop-row.invariant.1)

pub loop-row-preserved : goal.loop-row-preserved
loop-row-preserved c =
    let size = c.count.ensures.count ∙ ap length c.slacks_of.ensures in
    let front = c.split_at.ensures.front ∙ ap (λ n. take n c.loop-row.left.now) size in
    let back = c.split_at.ensures.back ∙ ap (λ n. drop n c.loop-row.left.now) size in
    violations_more c.loop-row.row-iterator c.next.new.self c.in-Some.row.now c.loop-row.left.now
    c.split_at.result.0.now c.split_at.result.1.now c.loop-row.violations.items
    c.push_violation.new.violations.items _ c.in-Some.ensures.steps front back c.loop-row.invariant.0
    c.loop-row.invariant.1 c.in_ok-push_violation.ensures
