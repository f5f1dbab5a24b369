use Rattle.std.proofs.Common.{◌∙◌, ap, map, subst, sym}
use Rattle.fresh_bridging.specs.ModelImage.{group_item}
use Rattle.model_bridging.proofs.InOrder.{GroupsSoFar, group_more, group_within, groups_end, groups_start}
use Rattle.model_bridging.proofs.model_plan.plan_groups.Goals as goal

pub loop-group-init : goal.loop-group-init
loop-group-init g c =
    let source = c.into_iter-group-iterator.ensures.into_iter_gives
    ∙ c.iter-group-items.ensures.items in
    subst (λ left. GroupsSoFar (g.R.Rewriter.means c.args.rewriter.now)
    (map group_item c.args.groups.now.items) (map group_item left) c.args.plan.now
    c.args.plan.now c.new-entries.result.items (g.R.Rewriter.means c.args.rewriter.now))
    (sym source) (groups_start (g.R.Rewriter.means c.args.rewriter.now)
    (map group_item c.args.groups.now.items)
    c.args.plan.now c.new-entries.result.items c.new-entries.ensures.items c.requires)

pub plan_item-requires : goal.plan_item-requires
plan_item-requires g c =
    let groups = c.args.groups.now.items in
    let at = c.loop-group in
    let group = c.in-Some.group.now in
    let next = ap (map group_item) c.in-Some.ensures.steps in
    group_within (g.R.Rewriter.means c.args.rewriter.now) (map group_item groups)
    (map group_item at.group-iterator)
    (map group_item c.next.new.self) (group_item group) c.args.plan.now
    at.plan at.entries.items (g.R.Rewriter.means at.rewriter) at.invariant next
    c.in_ok-item.item c.in_ok-item.ensures

pub loop-group-preserved : goal.loop-group-preserved
loop-group-preserved g c =
    let groups = c.args.groups.now.items in
    let at = c.loop-group in
    let group = c.in-Some.group.now in
    let next = ap (map group_item) c.in-Some.ensures.steps in
    group_more (g.R.Rewriter.means c.args.rewriter.now) (map group_item groups)
    (map group_item at.group-iterator)
    (map group_item c.next.new.self) (group_item group) c.args.plan.now
    at.plan at.entries.items (g.R.Rewriter.means at.rewriter) at.invariant next
    c.in_ok-item.item c.in_ok-item.ensures
    c.plan_item.new.plan c.plan_item.new.entries.items (g.R.Rewriter.means c.plan_item.new.rewriter)
    c.in-Ok.ensures.answer.0 c.in-Ok.ensures.answer.1 c.plan_item.ensures.means

pub returns-clause-answer : goal.returns-clause-answer
returns-clause-answer g c =
    let groups = c.args.groups.now.items in
    let at = c.loop-group in
    groups_end (g.R.Rewriter.means c.args.rewriter.now) (map group_item groups)
    (map group_item at.group-iterator) c.args.plan.now at.plan at.entries.items
    (g.R.Rewriter.means at.rewriter) at.invariant
    (ap (map group_item) c.in-None.ensures.steps.0)
