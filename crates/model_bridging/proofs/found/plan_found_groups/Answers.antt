use Rattle.std.proofs.Common.{◌+◌, ap, arith, drop, map}
use Rattle.std.proofs.lemmas.List.{drop_all}
use Rattle.map_laws.specs.LoopLaws.{next_item}
use Rattle.fresh_bridging.specs.ModelImage.{group_item}
use Rattle.model_bridging.proofs.InOrder.{group_more, group_within, groups_end, groups_start}
use Rattle.model_bridging.proofs.found.plan_found_groups.Goals as goal

pub loop-group-init : goal.loop-group-init
loop-group-init g c = record {
  planned = groups_start (g.R.Rewriter.means c.args.rewriter.now)
      (map group_item (map (λ x. x.now) c.args.groups.now))
      c.args.plan.now c.new-entries.result.items c.new-entries.ensures.items c.requires;
  turns = omega arith;
}

pub plan_item-requires : goal.plan_item-requires
plan_item-requires g c =
    let groups = c.args.groups.now in
    let at = c.loop-group in
    let i = at.group-index in
    let group = c.group-item.result in
    let next = ap (λ xs. map group_item (map (λ x. x.now) xs))
    (next_item groups groups i group (λ j. groups) c.group-item.is c.loop-group-test.true) in
    group_within (g.R.Rewriter.means c.args.rewriter.now)
    (map group_item (map (λ x. x.now) groups))
    (map group_item (map (λ x. x.now) (drop i groups)))
    (map group_item (map (λ x. x.now) (drop (i + 1) groups))) (group_item group.now)
    c.args.plan.now at.plan at.entries.items (g.R.Rewriter.means at.rewriter) at.invariant.planned
    next c.in_ok-item.item c.in_ok-item.ensures

pub loop-group-preserved : goal.loop-group-preserved
loop-group-preserved g c =
    let groups = c.args.groups.now in
    let at = c.loop-group in
    let i = at.group-index in
    let group = c.group-item.result in
    let next = ap (λ xs. map group_item (map (λ x. x.now) xs))
    (next_item groups groups i group (λ j. groups) c.group-item.is c.loop-group-test.true) in
    record {
      planned = group_more (g.R.Rewriter.means c.args.rewriter.now)
          (map group_item (map (λ x. x.now) groups))
          (map group_item (map (λ x. x.now) (drop i groups)))
          (map group_item (map (λ x. x.now) (drop (i + 1) groups))) (group_item group.now)
          c.args.plan.now at.plan at.entries.items (g.R.Rewriter.means at.rewriter)
          at.invariant.planned next c.in_ok-item.item c.in_ok-item.ensures c.plan_item.new.plan
          c.plan_item.new.entries.items (g.R.Rewriter.means c.plan_item.new.rewriter)
          c.in-Ok.ensures.answer.0 c.in-Ok.ensures.answer.1 c.plan_item.ensures.means;
      turns = omega (arith, at.invariant.turns, c.in-Ok.ensures.turns);
    }

pub returns-clause-answer : goal.returns-clause-answer
returns-clause-answer g c =
    let groups = c.args.groups.now in
    let at = c.loop-group in
    groups_end (g.R.Rewriter.means c.args.rewriter.now) (map group_item (map (λ x. x.now) groups))
    (map group_item (map (λ x. x.now) (drop at.group-index groups))) c.args.plan.now at.plan
    at.entries.items (g.R.Rewriter.means at.rewriter) at.invariant.planned
    (ap (λ xs. map group_item (map (λ x. x.now) xs))
    (drop_all at.group-index groups (omega arith)))
