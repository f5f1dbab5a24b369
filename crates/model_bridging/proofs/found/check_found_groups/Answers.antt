use Rattle.std.proofs.Common.{◌+◌, ap, drop, map}
use Rattle.map_laws.specs.LoopLaws.{next_item}
use Rattle.fresh_bridging.specs.ModelImage.{group_item}
use Rattle.model_bridging.specs.Kinds.{kinds_as_they_stand}
use Rattle.model_bridging.proofs.KindSteps.{kinds_more, kinds_refused, next_group}
use Rattle.model_bridging.proofs.found.check_found_groups.Goals as goal

pub loop-group-preserved : goal.loop-group-preserved
loop-group-preserved g c =
    let groups = c.args.groups.now in
    let i = c.loop-group.group-index in
    let group = c.group-item.result in
    let kind = c.group_kind.result in
    let next = ap (map (λ x. x.now))
    (next_item groups groups i group (λ j. groups) c.group-item.is c.loop-group-test.true) in
    kinds_more (g.R.Rewriter.means c.args.rewriter.now).choice
    (kinds_as_they_stand (map group_item (map (λ x. x.now) groups)))
    (kinds_as_they_stand (map group_item (map (λ x. x.now) (drop i groups))))
    (kinds_as_they_stand (map group_item (map (λ x. x.now) (drop (i + 1) groups)))) kind
    c.loop-group.invariant
    (next_group (map (λ x. x.now) (drop i groups)) (map (λ x. x.now) (drop (i + 1) groups))
    group.now kind next c.group_kind.ensures)
    c.in_ok-check_kind.ensures

pub returns-in_err-check_kind : goal.returns-in_err-check_kind
returns-in_err-check_kind g c =
    let groups = c.args.groups.now in
    let i = c.loop-group.group-index in
    let group = c.group-item.result in
    let kind = c.group_kind.result in
    let next = ap (map (λ x. x.now))
    (next_item groups groups i group (λ j. groups) c.group-item.is c.loop-group-test.true) in
    kinds_refused (g.R.Rewriter.means c.args.rewriter.now).choice
    (kinds_as_they_stand (map group_item (map (λ x. x.now) groups)))
    (kinds_as_they_stand (map group_item (map (λ x. x.now) (drop i groups))))
    (kinds_as_they_stand (map group_item (map (λ x. x.now) (drop (i + 1) groups)))) kind
    c.loop-group.invariant
    (next_group (map (λ x. x.now) (drop i groups)) (map (λ x. x.now) (drop (i + 1) groups))
    group.now kind next c.group_kind.ensures) (Unit {0})
    (Unit {0}) c.from_residual.result c.in_err-check_kind.field-0.0
    c.from_residual.ensures.1 c.in_err-check_kind.ensures
