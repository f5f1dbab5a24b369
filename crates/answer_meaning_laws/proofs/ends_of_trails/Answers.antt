use Rattle.answer_meaning_laws.specs.Trails.{along_trail}
use Rattle.answer_meaning_laws.proofs.ends_of_trails.Goals as goal

pub returns : goal.returns
returns g = along_trail
