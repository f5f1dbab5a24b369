use Rattle.std.proofs.Common.{◌≡◌, ◌-◌, length, IsTrue, sym, subst, refl, ◌∙◌, arith}
use Rattle.std.specs.List.{list_all}
use Rattle.bridge_graph.specs.Hypergraph.{hypergraph_of, has_kinds_below}
use Rattle.bridge_graph.proofs.Settled.{open_count, limit_is_small, starts, starts_within, settle_one, within_step, costly_from, settled}
use Rattle.bridge_graph.proofs.settling.settle.Goals as goal

pub loop-step-init : goal.loop-step-init
loop-step-init c = record {
  settling = starts c.start.ensures;
  within = starts_within c.args.supported.now _ _ c.start.ensures;
}

pub cheapest-requires-clause-within : goal.cheapest-requires-clause-within
cheapest-requires-clause-within c = λ kind.
    let plans = c.loop-step.plans in
    let small = limit_is_small (length plans - open_count plans) (omega arith) in
    let h = c.loop-step.invariant.within kind in
    omega arith

pub loop-step-preserved : goal.loop-step-preserved
loop-step-preserved c =
    let graph = hypergraph_of c.args.edges.now c.args.costs.now c.args.supported.now
    c.args.on.now in
    let found = c.in-Some.ensures in
    let same : length c.args.plans.now ≡ length c.loop-step.plans =
    sym (c.loop-step.auto.plans ∙ c.start.auto.plans) in
    let rows = subst (λ n. IsTrue (list_all (has_kinds_below n) c.args.edges.now)) same
    c.requires.kinds in
    record {
      settling = settle_one c.loop-step.invariant.settling (costly_from graph c.requires.edge_costs)
          found.cheapest found.kind;
      within = within_step graph c.loop-step.invariant.within found.cheapest.candidate found.kind
          rows c.requires.edge_costs;
    }

pub returns : goal.returns
returns c = record {
  plan = settled c.loop-step.invariant.settling (c.in_default.ensures.none refl);
  costly = costly_from (hypergraph_of c.args.edges.now c.args.costs.now c.args.supported.now
      c.args.on.now) c.requires.edge_costs;
}
