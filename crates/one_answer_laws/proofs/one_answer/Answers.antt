use Rattle.one_answer_laws.specs.OneAnswer as laws
use Rattle.one_answer_laws.proofs.one_answer.Goals as goal

pub returns : goal.returns
returns g = laws.one_answer
