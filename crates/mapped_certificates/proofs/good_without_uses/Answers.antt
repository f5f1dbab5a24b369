use Rattle.mapped_certificates.specs.UnmappedLaws.{good_without_uses}
use Rattle.mapped_certificates.proofs.good_without_uses.Goals as goal

pub returns : goal.returns
returns c = good_without_uses
