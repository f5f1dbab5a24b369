use Rattle.bridge_tests.specs.RoundLaws.{suits_kept}
use Rattle.bridge_tests.proofs.round.change.Goals as goal

pub alter-requires : goal.alter-requires
alter-requires g c =
    suits_kept (g.B.Bridge.state c.args.bridge.now) c.args.edge c.args.item c.requires.suits
    c.requires.at c.requires.kept
