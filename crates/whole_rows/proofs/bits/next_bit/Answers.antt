use Rattle.std.proofs.Common.{arith, rules}
use Rattle.whole_rows.proofs.BitSteps.{lowest_passed, lowest_set, none_set}
use Rattle.whole_rows.proofs.bits.next_bit.Goals as goal

pub returns-then-rest-eq0-clause-passed : goal.returns-then-rest-eq0-clause-passed
returns-then-rest-eq0-clause-passed c = λ k f _.
    none_set c.args.word c.args.from c.if-rest-eq0.true k f

pub returns-then-rest-eq0-clause-set : goal.returns-then-rest-eq0-clause-set
returns-then-rest-eq0-clause-set c = λ b. absurd (omega (arith, b))

pub returns-clause-passed : goal.returns-clause-passed
returns-clause-passed c =
    lowest_passed c.args.word c.args.from (search rules) (omega (arith, c.if-rest-eq0.false))

pub returns-clause-set : goal.returns-clause-set
returns-clause-set c = λ _.
    lowest_set c.args.word c.args.from (search rules) (omega (arith, c.if-rest-eq0.false))
