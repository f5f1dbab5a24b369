use Rattle.one_answer_laws.specs.OneText as laws
use Rattle.one_answer_laws.proofs.one_text.Goals as goal

pub returns : goal.returns
returns g = laws.one_text
