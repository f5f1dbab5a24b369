use Rattle.std.proofs.Common.{sym, ◌∙◌}
use Rattle.bridge_tests.specs.RoundLaws.{own_family}
use Rattle.bridge_tests.proofs.edges.own_edge.Goals as goal

pub pass-requires : goal.pass-requires
pass-requires g c = record {
  own =
      own_family c.args.edge c.entry.result c.family-own.result
      (g.B.Bridge.state c.args.bridge.now) c.entry.ensures c.family-own.ensures.family
      (sym c.eq.ensures ∙ c.if-eq.true);
}
