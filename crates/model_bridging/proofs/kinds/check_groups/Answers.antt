use Rattle.std.proofs.Common.{map}
use Rattle.fresh_bridging.specs.ModelImage.{group_item}
use Rattle.model_bridging.specs.Kinds.{kinds_as_they_stand}
use Rattle.model_bridging.proofs.KindSteps.{kinds_more, kinds_refused, next_group}
use Rattle.model_bridging.proofs.kinds.check_groups.Goals as goal

pub loop-group-preserved : goal.loop-group-preserved
loop-group-preserved g c =
    let groups = c.args.groups.now.items in
    let at = c.loop-group in
    let group = c.in-Some.group.now in
    let kind = c.group_kind.result in
    let next = c.in-Some.ensures.steps in
    kinds_more (g.R.Rewriter.means c.args.rewriter.now).choice
    (kinds_as_they_stand (map group_item groups))
    (kinds_as_they_stand (map group_item at.group-iterator))
    (kinds_as_they_stand (map group_item c.next.new.self)) kind at.invariant
    (next_group at.group-iterator c.next.new.self group kind next c.group_kind.ensures)
    c.in_ok-check_kind.ensures

pub returns-in_err-check_kind : goal.returns-in_err-check_kind
returns-in_err-check_kind g c =
    let groups = c.args.groups.now.items in
    let at = c.loop-group in
    let group = c.in-Some.group.now in
    let kind = c.group_kind.result in
    let next = c.in-Some.ensures.steps in
    kinds_refused (g.R.Rewriter.means c.args.rewriter.now).choice
    (kinds_as_they_stand (map group_item groups))
    (kinds_as_they_stand (map group_item at.group-iterator))
    (kinds_as_they_stand (map group_item c.next.new.self)) kind at.invariant
    (next_group at.group-iterator c.next.new.self group kind next c.group_kind.ensures) (Unit {0})
    (Unit {0}) c.from_residual.result c.in_err-check_kind.field-0.0
    c.from_residual.ensures.1 c.in_err-check_kind.ensures
