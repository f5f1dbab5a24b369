use Rattle.answer_meaning_laws.specs.GoodCertificates.{good_shows}
use Rattle.answer_meaning_laws.proofs.good_certificates.Goals as goal

pub returns : goal.returns
returns g = good_shows
