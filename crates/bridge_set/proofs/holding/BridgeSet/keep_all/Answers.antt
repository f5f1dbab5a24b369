use Rattle.std.proofs.Common.{◌∙◌}
use Rattle.std.proofs.lemmas.Result.{on_ok_weaker}
use Rattle.bridge_set.proofs.Keeping.{all_free, kept_from_nothing}
use Rattle.bridge_set.proofs.holding.BridgeSet.keep_all.Goals as goal

pub keep_each-requires : goal.keep_each-requires
keep_each-requires g c = record {
  nodes = c.requires.nodes;
  free = all_free c.args.nodes.items c.args.self.now.states c.requires.empty;
}

pub returns-clause-kept : goal.returns-clause-kept
returns-clause-kept g c =
    on_ok_weaker c.keep_each.result
    (λ e. e ∙ kept_from_nothing c.args.nodes.items c.requires.nodes.apart c.args.self.now.states
    c.requires.empty)
    c.keep_each.ensures.kept
