use Rattle.mapped_certificates.specs.TakenBackLaws.{good_seen}
use Rattle.mapped_certificates.proofs.duals_taken_back.Goals as goal

pub returns : goal.returns
returns c = good_seen
