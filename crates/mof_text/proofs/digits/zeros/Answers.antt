use Rattle.std.proofs.Common.{arith}
use Rattle.std.proofs.lemmas.List.{take-replicate}
use Rattle.mof_text.proofs.digits.zeros.Goals as goal

pub returns : goal.returns
returns c = take-replicate c.args.count 39 48 (omega (arith, c.requires))
