use Rattle.std.proofs.Common.{Err, ap, arith, refl}
use Rattle.simplex_core.proofs.Running.{at_next, at_start, tells_end, tells_limit, tells_overflow, tells_refused}
use Rattle.simplex_core.proofs.run.run.Goals as goal

pub steps-init : goal.steps-init
steps-init g c = record {
  phase = c.requires.in_first;
  steps = λ F h b. at_start F c.args.pivots (g.T.Tableau.contents c.args.board) h b;
}

pub returns-in-Infeasible : goal.returns-in-Infeasible
returns-in-Infeasible g c = λ F h b.
    let a = c.steps.invariant.steps F h b in
    tells_end a c.steps.invariant.phase c.turn.ensures.turn c.in_ok-infeasible-in-Infeasible.field-0
    c.in-Infeasible.is refl (c.in_ok-infeasible-in-Infeasible.ensures F a.state)

pub returns-in-Unbounded : goal.returns-in-Unbounded
returns-in-Unbounded g c = λ F h b.
    let a = c.steps.invariant.steps F h b in
    tells_end a c.steps.invariant.phase c.turn.ensures.turn c.in_ok-unbounded-in-Unbounded.field-0
    c.in-Unbounded.is refl (c.in_ok-unbounded-in-Unbounded.ensures F a.state)

pub returns-in-Optimal : goal.returns-in-Optimal
returns-in-Optimal g c = λ F h b.
    let a = c.steps.invariant.steps F h b in
    tells_end a c.steps.invariant.phase c.turn.ensures.turn c.in_ok-optimal-in-Optimal.field-0
    c.in-Optimal.is refl (c.in_ok-optimal-in-Optimal.ensures F a.state)

pub returns-then-left-eq0 : goal.returns-then-left-eq0
returns-then-left-eq0 g c = λ F h b.
    tells_limit (c.steps.invariant.steps F h b) c.steps.invariant.phase c.turn.ensures.turn
    c.in-Stuck.is refl c.if-left-eq0.true c.in_ok-basis-in-Stuck.ensures

pub returns-in-Stuck : goal.returns-in-Stuck
returns-in-Stuck g c = λ F h b.
    tells_overflow (c.steps.invariant.steps F h b) c.steps.invariant.phase c.turn.ensures.turn
    c.in-Stuck.is refl (omega arith) refl c.in_ok-basis-in-Stuck.ensures

pub returns-then-left-eq0-2 : goal.returns-then-left-eq0-2
returns-then-left-eq0-2 g c = λ F h b.
    tells_limit (c.steps.invariant.steps F h b) c.steps.invariant.phase c.turn.ensures.turn
    c.in-Pivot.is refl c.if-left-eq0-2.true c.in_ok-basis-in-Pivot.ensures

pub returns-in-Err-Overflow : goal.returns-in-Err-Overflow
returns-in-Err-Overflow g c = λ F h b.
    tells_refused (c.steps.invariant.steps F h b) c.steps.invariant.phase c.turn.ensures.turn
    c.in-Pivot.is c.in-Pivot.ensures.within (omega arith) refl
    (c.in-Err-Overflow.ensures.overflow (ap Err c.in-Err-Overflow.field-0-is)) c.in-Err-Overflow.ensures.board
    c.in_ok-basis-in-Err-Overflow.ensures

pub steps-preserved : goal.steps-preserved
steps-preserved g c = record {
  phase = c.in-Ok.ensures.board.in_first;
  steps = λ F h b.
      at_next (c.steps.invariant.steps F h b) c.steps.invariant.phase c.turn.ensures.turn
      c.in-Pivot.is c.in-Pivot.ensures.within (omega arith) refl c.in-Ok.ensures.fits
      c.in-Ok.ensures.board;
}
