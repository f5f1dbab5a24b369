use Rattle.whole_rows.proofs.BitSteps.{clears_here, clears_none, clears_others}
use Rattle.whole_rows.proofs.bits.without_bit_if.Goals as goal

pub returns-clause-cleared : goal.returns-clause-cleared
returns-clause-cleared c =
    clears_here c.args.word c.bit_if.result c.args.k c.requires c.args.clears c.bit_if.ensures.one
    c.bit_if.ensures.none

pub returns-clause-kept : goal.returns-clause-kept
returns-clause-kept c =
    clears_none c.args.word c.bit_if.result c.args.k c.requires c.args.clears c.bit_if.ensures.one
    c.bit_if.ensures.none

pub returns-clause-others : goal.returns-clause-others
returns-clause-others c =
    clears_others c.args.word c.bit_if.result c.args.k c.requires c.args.clears
    c.bit_if.ensures.one c.bit_if.ensures.none
