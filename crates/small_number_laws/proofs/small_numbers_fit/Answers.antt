use Rattle.small_number_laws.specs.ModelLaws as laws
use Rattle.small_number_laws.proofs.small_numbers_fit.Goals as goal

pub returns : goal.returns
returns g = laws.small_numbers_fit
