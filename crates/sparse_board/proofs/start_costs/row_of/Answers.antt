use Rattle.std.proofs.Common.{arith, subst, sym, ◌∙◌}
use Rattle.ratio_core.specs.Rational.{Fits}
use Rattle.tableau_core.specs.ItemLaws.{item_is}
use Rattle.sparse_board.proofs.start_costs.row_of.Goals as goal

pub returns-clause-numbers : goal.returns-clause-numbers
returns-clause-numbers c j b =
    c.new.ensures.numbers j b
    ∙ c.loop-j.invariant.held.numbers j (omega (arith, b, c.loop-j-test.false))

pub push_any-requires-clause-fits : goal.push_any-requires-clause-fits
push_any-requires-clause-fits c =
    subst Fits (sym (item_is c.args.numbers.now c.loop-j.j c.index-numbers-j.result
    c.loop-j-test.true c.index-numbers-j.is)) (c.requires.all_fit c.loop-j.j)
