use Rattle.any_bridge.proofs.Lawful.{every_lawful}
use Rattle.any_bridge.proofs.bridge.AnyBridgeBridge.family.Goals as goal

pub returns-clause-lawful : goal.returns-clause-lawful
returns-clause-lawful c = every_lawful _
