use Rattle.std.proofs.Common.{◌≡◌, ◌+◌, drop, length, arith, ap, ◌∙◌, sym, subst, refl}
use Rattle.std.proofs.lemmas.List.{drop_all}
use Rattle.std.proofs.lemmas.List.Elements.{All-head}
use Rattle.std.specs.Prelude.{IsSome}
use Rattle.std.specs.FinMap as finite
use Rattle.leaf_update.specs.Puts.{objectives_in, rows_in, variables_in}
use Rattle.map_laws.specs.LoopLaws.{next_item}
use Rattle.leaf_update.proofs.variables.drop_variables.Goals as goal
use Rattle.leaf_update.specs.Phases.{AreDroppable, BodiesMiss, CountsAt, HasDropped}
use Rattle.leaf_update.proofs.Dropping.{counts_as, counts_gone, counts_nothing, dropped_more, dropped_none, left_droppable, left_gone, nobody_names}
use Rattle.leaf_update.specs.Splice.{without_all}

pub loop-at-init : goal.loop-at-init
loop-at-init c = record {
  done = dropped_none c.args.map.now c.args.solver.now.leaves c.requires.named;
  left = c.requires.droppable;
  gone = refl;
  counts = λ whole n h.
      counts_as (variables_in c.args.map.now c.args.solver.now.leaves) whole c.args.gone.now n
      (n + 0) (omega arith) h;
}

pub drop_variable-requires-clause-there : goal.drop_variable-requires-clause-there
drop_variable-requires-clause-there c =
    let l = c.loop-at in
    let next = next_item c.args.gone.now c.args.gone.now l.at-index c.at-item.result refl
    c.at-item.is c.loop-at-test.true in
    All-head (λ q. IsSome (finite.get l.map.vars.indices q)) c.at-item.result
    (drop (l.at-index + 1) c.args.gone.now)
    (subst (AreDroppable l.map l.solver.leaves) next l.invariant.left).there

pub drop_variable-requires-clause-named : goal.drop_variable-requires-clause-named
drop_variable-requires-clause-named c = c.loop-at.invariant.done.beside.named

pub drop_variable-requires-clause-nobody : goal.drop_variable-requires-clause-nobody
drop_variable-requires-clause-nobody c =
    let l = c.loop-at in
    let next = next_item c.args.gone.now c.args.gone.now l.at-index c.at-item.result refl
    c.at-item.is c.loop-at-test.true in
    nobody_names l.map l.solver.leaves l.invariant.done.beside.named c.at-item.result
    (All-head (BodiesMiss (rows_in l.map l.solver.leaves) (objectives_in l.map l.solver.leaves))
    c.at-item.result (drop (l.at-index + 1) c.args.gone.now)
    (subst (AreDroppable l.map l.solver.leaves) next l.invariant.left).nobody)

pub loop-at-preserved : goal.loop-at-preserved
loop-at-preserved c =
    let l = c.loop-at in
    let at = c.at-item.result in
    let rest = drop (l.at-index + 1) c.args.gone.now in
    let m = c.drop_variable.new.map in
    let s = c.drop_variable.new.solver.leaves in
    let next = next_item c.args.gone.now c.args.gone.now l.at-index at refl
    c.at-item.is c.loop-at-test.true in
    let names = l.invariant.done.beside.named in
    let are = subst (AreDroppable l.map l.solver.leaves) next l.invariant.left in
    let step = c.drop_variable.ensures.dropped in
    record {
      done =
          dropped_more c.args.map.now c.args.solver.now.leaves l.at-index l.map l.solver.leaves at m
          s l.invariant.done step;
      left = left_droppable l.map l.solver.leaves names at rest are m s step;
      gone =
          left_gone l.map l.solver.leaves names at rest are m s step
          ∙ ap (without_all (variables_in l.map l.solver.leaves)) (sym next)
          ∙ l.invariant.gone;
      counts = λ whole n h.
          counts_as (variables_in c.args.map.now c.args.solver.now.leaves) whole c.args.gone.now
          (n + 1 + l.at-index) (n + (l.at-index + 1)) (omega arith)
          (l.invariant.counts whole (n + 1)
          (subst (λ g. CountsAt (variables_in l.map l.solver.leaves) whole g (n + 1)) (sym next)
          (counts_gone l.map l.solver.leaves names at rest are m s step whole n h)));
    }

pub returns : goal.returns
returns c =
    let l = c.loop-at in
    let none = drop_all l.at-index c.args.gone.now c.loop-at-test.false in
    let whole = variables_in l.map l.solver.leaves in
    let end : l.at-index ≡ length c.args.gone.now =
    omega (arith, c.loop-at-test.false, l.auto.at-index-end) in
    record {
      dropped = subst (λ n. HasDropped c.args.map.now c.args.solver.now.leaves n l.map
          l.solver.leaves) end l.invariant.done;
      gone = sym (ap (without_all whole) none) ∙ l.invariant.gone;
      counts =
          counts_as (variables_in c.args.map.now c.args.solver.now.leaves) whole c.args.gone.now
          (0 + l.at-index) (length c.args.gone.now) (omega (arith, end))
          (l.invariant.counts whole 0
          (subst (λ g. CountsAt whole whole g 0) (sym none) (counts_nothing whole)));
    }
