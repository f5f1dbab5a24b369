use Rattle.std.specs.Prelude.{◌≡◌, map, take}
use Rattle.std.specs.List.{zip}
use Rattle.std.proofs.Common.{◌∙◌, ap, drop, subst, sym}
use Rattle.ratio_core.specs.Folds.{sum_from}
use Rattle.certificates.specs.Duals.{group_with, groups_with}
use Rattle.cert_core.specs.Folds.{AddUp, gap_parts, gap_parts_of}
use Rattle.adjoint_core.specs.CarriedBack.{GapFits, UnfitGap, group_place}
use Rattle.adjoint_core.proofs.GapSteps.{GroupsGap, groups_gap_end, groups_gap_refused, groups_gap_step, own_is}
use Rattle.adjoint_core.proofs.InOrder.{told_on}
use Rattle.adjoint_core.proofs.gap.plus_each_group.Goals as goal

pub returns-in_err-sum : goal.returns-in_err-sum
returns-in_err-sum c = λ w is.
    let gs = c.args.groups.now.items in
    let g = c.in-Some.group.now in
    let next = c.in-Some.ensures.steps in
    let front = c.split_at.ensures.front ∙ ap (λ n. take n c.loop-group.left.now) c.len.ensures in
    let own = own_is c.args.of_rows.now c.loop-group.sum gs c.loop-group.group-iterator c.next.new.self
    c.args.duals.now c.loop-group.left.now g c.loop-group.invariant next w is in
    told_on c.from_residual.result c.in_err-sum.field-0.0
    (AddUp c.loop-group.sum (gap_parts_of (group_with w g)))
    (GapFits c.args.of_rows.now (zip (map group_place gs) (groups_with w gs)))
    (λ q. q ≡ sum_from c.args.of_rows.now (gap_parts (groups_with w gs)))
    (λ q. q ≡ sum_from c.loop-group.sum (gap_parts_of (group_with w g))) _
    (UnfitGap c.args.of_rows.now (zip (map group_place gs) (groups_with w gs)))
    c.from_residual.ensures.1 (c.in_err-sum.ensures w (sym (front ∙ own)))
    (groups_gap_refused c.args.of_rows.now c.loop-group.sum gs c.loop-group.group-iterator c.next.new.self
    c.args.duals.now c.loop-group.left.now g c.loop-group.invariant next w is)

pub loop-group-preserved : goal.loop-group-preserved
loop-group-preserved c =
    let gs = c.args.groups.now.items in
    let g = c.in-Some.group.now in
    let next = c.in-Some.ensures.steps in
    let front = c.split_at.ensures.front ∙ ap (λ n. take n c.loop-group.left.now) c.len.ensures in
    let back = c.split_at.ensures.back ∙ ap (λ n. drop n c.loop-group.left.now) c.len.ensures in
    subst (GroupsGap c.args.of_rows.now c.in_ok-sum.sum gs c.next.new.self c.args.duals.now)
    (sym back)
    (groups_gap_step c.args.of_rows.now c.loop-group.sum gs c.loop-group.group-iterator c.next.new.self
    c.args.duals.now c.loop-group.left.now g c.loop-group.invariant next c.in_ok-sum.sum
    (λ w own. c.in_ok-sum.ensures w (sym (front ∙ own))))

pub returns : goal.returns
returns c = λ w is.
    groups_gap_end c.args.of_rows.now c.loop-group.sum c.args.groups.now.items
    c.loop-group.group-iterator c.args.duals.now c.loop-group.left.now
    c.loop-group.invariant
    c.in-None.ensures.steps.0 w is
