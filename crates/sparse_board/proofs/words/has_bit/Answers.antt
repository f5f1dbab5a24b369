use Rattle.std.proofs.Common.{ap, nat_eq}
use Rattle.std.proofs.lemmas.Nat.Bits.{shr_and_one}
use Rattle.sparse_board.proofs.words.has_bit.Goals as goal

pub returns : goal.returns
returns c = ap (λ x. nat_eq x 1) (shr_and_one c.args.word c.args.k)
