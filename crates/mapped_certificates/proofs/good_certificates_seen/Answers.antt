use Rattle.mapped_certificates.specs.ShowsSeenLaws.{good_shows_seen}
use Rattle.mapped_certificates.proofs.good_certificates_seen.Goals as goal

pub returns : goal.returns
returns c = good_shows_seen
