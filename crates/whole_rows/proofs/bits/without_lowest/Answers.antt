use Rattle.whole_rows.proofs.BitSteps.{lowest_cleared, lowest_smaller}
use Rattle.whole_rows.proofs.bits.without_lowest.Goals as goal

pub returns-clause-smaller : goal.returns-clause-smaller
returns-clause-smaller c = lowest_smaller c.args.word c.requires

pub returns-clause-cleared : goal.returns-clause-cleared
returns-clause-cleared c = λ k is. lowest_cleared c.args.word k is
