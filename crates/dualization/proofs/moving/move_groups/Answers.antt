use Rattle.std.specs.Prelude.{◌≡◌}
use Rattle.std.proofs.Common.{ap}
use Rattle.dualization.specs.Fitting.{FirstMove, MovesFit, after_moves, moves, own_moves}
use Rattle.dualization.proofs.MoveLemmas.{moved_all, moved_more, moved_unfit}
use Rattle.dualization.proofs.ToldLemmas.{told_passed}
use Rattle.dualization.proofs.moving.move_groups.Goals as goal

pub loop-group-preserved : goal.loop-group-preserved
loop-group-preserved c =
    moved_more c.args.rows.now.items c.args.objective.now (moves c.args.groups.now.items)
    (moves c.loop-group.group-iterator) (own_moves c.in-Some.group.now) (moves c.next.new.self)
    c.args.sums c.loop-group.now c.in_ok-now.now (ap moves c.in-Some.ensures.steps)
    c.in_ok-now.ensures.0 c.in_ok-now.ensures.1 c.loop-group.invariant

pub returns-in_err-now : goal.returns-in_err-now
returns-in_err-now c =
    let rows = c.args.rows.now.items in
    let objective = c.args.objective.now in
    let all = moves c.args.groups.now.items in
    let own = own_moves c.in-Some.group.now in
    told_passed c.from_residual.result c.in_err-now.field-0.0
    (λ new. MovesFit rows objective own c.loop-group.now
    × (new ≡ after_moves rows objective own c.loop-group.now))
    (λ new. MovesFit rows objective all c.args.sums
    × (new ≡ after_moves rows objective all c.args.sums))
    (λ _. ⊥) (FirstMove rows objective own c.loop-group.now) (λ _. ⊥)
    (FirstMove rows objective all c.args.sums) c.from_residual.ensures.1 c.in_err-now.ensures
    (λ name h. h)
    (moved_unfit rows objective all (moves c.loop-group.group-iterator) own
    (moves c.next.new.self) c.args.sums c.loop-group.now (ap moves c.in-Some.ensures.steps)
    c.loop-group.invariant)

pub returns : goal.returns
returns c =
    moved_all c.args.rows.now.items c.args.objective.now (moves c.args.groups.now.items)
    (moves c.loop-group.group-iterator) c.args.sums c.loop-group.now
    (ap moves c.in-None.ensures.steps.0) c.loop-group.invariant
