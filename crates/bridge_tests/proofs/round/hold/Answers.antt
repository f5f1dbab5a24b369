use Rattle.std.proofs.Common.{ap, ap₂, sym, ◌∙◌}
use Rattle.bridge_face.specs.BridgeState.{BridgeState, found}
use Rattle.bridge_tests.specs.RoundLaws.{gone_found, kept_here}
use Rattle.bridge_tests.specs.SampleLaws.{here}
use Rattle.bridge_tests.proofs.round.hold.Goals as goal

pub keep-requires-clause-own : goal.keep-requires-clause-own
keep-requires-clause-own g c =
    c.requires.own ∙ sym (ap (λ (s : BridgeState). s.family) c.let_go.ensures.state)

pub keep-requires-clause-free : goal.keep-requires-clause-free
keep-requires-clause-free g c =
    ap₂ found c.let_go.ensures.state (c.requires.at ∙ sym c.place.ensures)
    ∙ gone_found (g.B.Bridge.state c.args.bridge.now) c.place.result

pub returns-in-Ok : goal.returns-in-Ok
returns-in-Ok g c =
    ap (λ s. found s here) c.in-Ok.ensures.ok
    ∙ kept_here (g.B.Bridge.state c.let_go.new.self) c.args.edge c.args.item c.requires.at
