use Rattle.std.proofs.Common.{◌≤◌, ap, drop, length, subst, sym, take, ◌∙◌}
use Rattle.relaxation.proofs.LoopLemmas.{edits_more, own_size}
use Rattle.relaxation.specs.Signs.{signs_of}
use Rattle.relaxation.proofs.edits.push_rows.Goals as goal

pub split_at-requires : goal.split_at-requires
split_at-requires c =
    let size = c.count.ensures.count ∙ ap length c.slacks_of-slacks.ensures in
    subst (λ n. n ≤ length c.loop-row.left.now) (sym size)
    (own_size c.loop-row.row-iterator c.next.new.self c.in-Some.row.now c.loop-row.left.now
    c.in-Some.ensures.steps c.loop-row.invariant.1)

pub loop-row-preserved : goal.loop-row-preserved
loop-row-preserved c =
    let size = c.count.ensures.count ∙ ap length c.slacks_of-slacks.ensures in
    let front = c.split_at.ensures.front ∙ ap (λ n. take n c.loop-row.left.now) size in
    let back = c.split_at.ensures.back ∙ ap (λ n. drop n c.loop-row.left.now) size in
    edits_more c.loop-row.row-iterator c.next.new.self c.in-Some.row.now c.loop-row.left.now
    c.split_at.result.0.now c.split_at.result.1.now (signs_of c.slacks_of-slacks.result)
    c.loop-row.edits.items
    c.push_coefficients.new.edits.items _ c.in-Some.ensures.steps front back
    c.slacks_of-slacks.ensures c.loop-row.invariant.0
    c.loop-row.invariant.1 c.in_ok-push_coefficients.ensures
