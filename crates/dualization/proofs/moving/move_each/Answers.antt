use Rattle.std.specs.Prelude.{◌≡◌, ◌+◌, [], ◌∷◌, drop}
use Rattle.std.proofs.Common.{◌∙◌, ap, sym}
use Rattle.std.proofs.Math.ListN.{drop_of_length-le}
use Rattle.std.proofs.lemmas.List.{drop_more}
use Rattle.dualization.specs.Fitting.{FirstMove, MovesFit, after_moves, moves_to}
use Rattle.dualization.proofs.MoveLemmas.{moved_all, moved_more, moved_unfit, one_fits, one_unfit}
use Rattle.dualization.proofs.ToldLemmas.{told_variable}
use Rattle.dualization.proofs.moving.move_each.Goals as goal

pub returns-in-Err-Overflow : goal.returns-in-Err-Overflow
returns-in-Err-Overflow c =
    let rows = c.args.rows.now.items in
    let objective = c.args.objective.now in
    let u = c.args.bound.now in
    let vars = c.args.vars.now in
    let i = c.loop-var.var-index in
    let v = c.var-item.result in
    let unfit = rw c.in-Err-Overflow.field-0-is at c.in-Err-Overflow.ensures in
    let split = drop_more vars i v c.loop-var-test.true
    ∙ ap (λ x. x ∷ drop (i + 1) vars) (sym c.var-item.is) in
    told_variable (λ new. MovesFit rows objective (moves_to vars u) c.args.sums
    × (new ≡ after_moves rows objective (moves_to vars u) c.args.sums)) (λ _. ⊥)
    (FirstMove rows objective (moves_to vars u) c.args.sums) c.at_variable.result v.name
    c.at_variable.ensures
    (moved_unfit rows objective (moves_to vars u) (moves_to (drop i vars) u) ((v, u) ∷ [])
    (moves_to (drop (i + 1) vars) u) c.args.sums c.loop-var.now (ap (λ vs. moves_to vs u) split)
    c.loop-var.invariant v.name (one_unfit rows objective (v, u) c.loop-var.now unfit))

pub loop-var-preserved : goal.loop-var-preserved
loop-var-preserved c =
    let rows = c.args.rows.now.items in
    let objective = c.args.objective.now in
    let u = c.args.bound.now in
    let vars = c.args.vars.now in
    let i = c.loop-var.var-index in
    let v = c.var-item.result in
    let split = drop_more vars i v c.loop-var-test.true
    ∙ ap (λ x. x ∷ drop (i + 1) vars) (sym c.var-item.is) in
    moved_more rows objective (moves_to vars u) (moves_to (drop i vars) u) ((v, u) ∷ [])
    (moves_to (drop (i + 1) vars) u) c.args.sums c.loop-var.now c.in-Ok.next
    (ap (λ vs. moves_to vs u) split) (one_fits rows objective (v, u) c.loop-var.now c.in-Ok.ensures.0)
    c.in-Ok.ensures.1 c.loop-var.invariant

pub returns : goal.returns
returns c =
    let vars = c.args.vars.now in
    moved_all c.args.rows.now.items c.args.objective.now (moves_to vars c.args.bound.now)
    (moves_to (drop c.loop-var.var-index vars) c.args.bound.now) c.args.sums c.loop-var.now
    (ap (λ vs. moves_to vs c.args.bound.now) (drop_of_length-le vars c.loop-var-test.false))
    c.loop-var.invariant
