use Rattle.std.proofs.Common.{arith, refl, ◌∙◌}
use Rattle.tableau_core.specs.ItemLaws.{item_is}
use Rattle.sparse_board.proofs.WholeStartSteps.{first_more, first_none}
use Rattle.sparse_board.proofs.starting.put_numbers.Goals as goal

pub loop-j-init : goal.loop-j-init
loop-j-init c = record {
  width = refl;
  den = c.requires.den;
  put = first_none c.args.numbers.now c.args.row.now c.requires.zeros;
}

pub put_any-requires-clause-zero : goal.put_any-requires-clause-zero
put_any-requires-clause-zero c =
    c.loop-j.invariant.put.zeros c.loop-j.j (omega arith)
    (omega (arith, c.requires.long, c.loop-j-test.true, c.loop-j.invariant.width))

pub loop-j-preserved : goal.loop-j-preserved
loop-j-preserved c = record {
  width = c.put_any.ensures.width ∙ c.loop-j.invariant.width;
  den = c.put_any.ensures.den;
  put = first_more c.loop-j.j c.args.numbers.now c.index-numbers-j.result c.loop-j.row c.put_any.new.row
      (omega (arith, c.requires.long, c.loop-j-test.true, c.loop-j.invariant.width))
      c.loop-j.invariant.put
      (item_is c.args.numbers.now c.loop-j.j c.index-numbers-j.result c.loop-j-test.true
      c.index-numbers-j.is) (c.put_any.ensures.put c.if-not-put_any.false);
}

pub returns-clause-numbers : goal.returns-clause-numbers
returns-clause-numbers c _ j b =
    c.loop-j.invariant.put.put j (omega (arith, b, c.loop-j-test.false))

pub returns-clause-others : goal.returns-clause-others
returns-clause-others c _ j b w =
    c.loop-j.invariant.put.zeros j (omega (arith, b, c.loop-j.auto.j-end, c.loop-j-test.false))
    (omega (arith, w, c.loop-j.invariant.width))
