use Rattle.std.proofs.Common.{◌≡◌, ◌+◌, length, sym, subst, Option, Some, arith, refl}
use Rattle.bridge_graph.specs.declared.settling.Step.{Step}
use Rattle.bridge_graph.specs.Candidate.{cheaper_of}
use Rattle.bridge_graph.proofs.Steps.{IsBestBelow, best_kept, best_next, best_absent, best_cheapest, best_kind}
use Rattle.bridge_graph.proofs.settling.cheapest.Goals as goal
use Rattle.bridge_graph.proofs.settling.cheapest.Goals.{in-Some, in_default, After-loop-edge}

pub loop-edge-preserved : goal.loop-edge-preserved
loop-edge-preserved c =
    let P : Option Step → Type 0 =
    λ best. IsBestBelow c.args.edges.now c.args.costs.now c.args.on.now c.args.plans.now
    (c.loop-edge.edge + 1) best in
    elim c.match-candidate.branch [
      | in-Some w ↦
          let found = w.in-Some.ensures in
          let is : Some (cheaper_of c.loop-edge.best w.in-Some.step) ≡ c.match-candidate.best =
          cc (w.best-is, w.cheaper.ensures) in
          subst P is (best_next c.loop-edge.best w.in-Some.step c.loop-edge.invariant found.place.0
          found.place.1 found.step)
      | in_default w ↦ subst P (sym w.best-is) (best_kept c.loop-edge.invariant
          (λ step e h. w.in_default.ensures.none refl step e h))
    ]

-- the loop has seen every edge
seen : (c : After-loop-edge)
    → IsBestBelow c.args.edges.now c.args.costs.now c.args.on.now c.args.plans.now (length
    c.args.edges.now) c.loop-edge.best
seen c =
    let all : c.loop-edge.edge ≡ length c.args.edges.now = omega arith in
    subst (λ n. IsBestBelow c.args.edges.now c.args.costs.now c.args.on.now c.args.plans.now n
    c.loop-edge.best) all c.loop-edge.invariant

pub returns-clause-none : goal.returns-clause-none
returns-clause-none c = best_absent c.loop-edge.best (seen c)

pub returns-clause-cheapest : goal.returns-clause-cheapest
returns-clause-cheapest c = best_cheapest c.loop-edge.best (seen c)

pub returns-clause-kind : goal.returns-clause-kind
returns-clause-kind c = best_kind c.loop-edge.best (seen c)
