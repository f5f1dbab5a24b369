use Rattle.answer_meaning_laws.specs.LeastProducts.{low_is_least}
use Rattle.answer_meaning_laws.proofs.least_products.Goals as goal

pub returns : goal.returns
returns g = low_is_least
