use Rattle.std.specs.Prelude.{◌≡◌, take}
use Rattle.std.proofs.Common.{◌∙◌, ap, drop, subst, sym}
use Rattle.ratio_core.specs.Folds.{sum_from}
use Rattle.certificates.specs.Duals.{group_with, groups_with}
use Rattle.cert_core.specs.Folds.{AddUp, gap_parts, gap_parts_of}
use Rattle.ratio_core.specs.AnsweredLaws.{passed_on}
use Rattle.cert_core.proofs.GroupSteps.{GroupsSummed, own_left, sums_end, sums_refused, sums_step}
use Rattle.cert_core.proofs.gap.plus_groups.Goals as goal

pub returns-in_err-sum : goal.returns-in_err-sum
returns-in_err-sum c = λ w is.
    let gs = c.args.groups.now.items in
    let g = c.in-Some.group.now in
    let next = c.in-Some.ensures.steps in
    let front = c.split_at.ensures.front ∙ ap (λ n. take n c.loop-group.left.now) c.len.ensures in
    let own = own_left c.args.of_rows.now c.loop-group.sum gs c.loop-group.group-iterator c.next.new.self
    c.args.duals.now c.loop-group.left.now g c.loop-group.invariant next w is in
    passed_on c.from_residual.result c.in_err-sum.field-0.0
    (AddUp c.loop-group.sum (gap_parts_of (group_with w g)))
    (AddUp c.args.of_rows.now (gap_parts (groups_with w gs)))
    (λ q. q ≡ sum_from c.args.of_rows.now (gap_parts (groups_with w gs)))
    (λ q. q ≡ sum_from c.loop-group.sum (gap_parts_of (group_with w g)))
    c.from_residual.ensures.1 (c.in_err-sum.ensures w (sym (front ∙ own)))
    (sums_refused c.args.of_rows.now c.loop-group.sum gs c.loop-group.group-iterator c.next.new.self
    c.args.duals.now c.loop-group.left.now g c.loop-group.invariant next w is)

pub loop-group-preserved : goal.loop-group-preserved
loop-group-preserved c =
    let gs = c.args.groups.now.items in
    let g = c.in-Some.group.now in
    let next = c.in-Some.ensures.steps in
    let front = c.split_at.ensures.front ∙ ap (λ n. take n c.loop-group.left.now) c.len.ensures in
    let back = c.split_at.ensures.back ∙ ap (λ n. drop n c.loop-group.left.now) c.len.ensures in
    subst (GroupsSummed c.args.of_rows.now c.in_ok-sum.sum gs c.next.new.self c.args.duals.now)
    (sym back)
    (sums_step c.args.of_rows.now c.loop-group.sum gs c.loop-group.group-iterator c.next.new.self
    c.args.duals.now c.loop-group.left.now g c.loop-group.invariant next c.in_ok-sum.sum
    (λ w own. c.in_ok-sum.ensures w (sym (front ∙ own))))

pub returns : goal.returns
returns c = λ w is.
    sums_end c.args.of_rows.now c.loop-group.sum c.args.groups.now.items
    c.loop-group.group-iterator c.args.duals.now c.loop-group.left.now
    c.loop-group.invariant
    c.in-None.ensures.steps.0 w is
