use Rattle.std.proofs.Common.{arith}
use Rattle.model_refusals.proofs.MarkLemmas.{bit_in-set}
use Rattle.model_refusals.proofs.marks.Marks.put_bit.Goals as goal

pub returns : goal.returns
returns c = λ n. bit_in-set c.args.self.now.words c.args.place n (omega arith)
