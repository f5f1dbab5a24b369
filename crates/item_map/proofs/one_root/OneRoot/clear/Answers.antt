use Rattle.std.specs.Prelude.{◌+◌}
use Rattle.std.proofs.Common.{arith, sym, subst, ◌∙◌}
use Rattle.item_map.specs.ItemLists.{AreBetween}
use Rattle.item_map.proofs.EndLaws.{none_past, one_past}
use Rattle.item_map.proofs.one_root.OneRoot.clear.Goals as goal

pub loop-number-preserved : goal.loop-number-preserved
loop-number-preserved g c = record {
  between = subst (AreBetween (c.loop-number.number + 1) c.in-Some.last)
      (sym c.exchange.ensures.after)
      (one_past c.loop-number.number c.in-Some.last c.loop-number.self.items.items
      c.loop-number.invariant.between);
  room = omega (arith, c.loop-number.invariant.room, c.exchange.ensures.room);
}

pub returns-clause-none : goal.returns-clause-none
returns-clause-none g c =
    c.exchange-2.ensures.after
    ∙ none_past c.loop-number.number c.in-Some.last c.loop-number.self.items.items
    (omega (arith, c.loop-number-test.false)) c.loop-number.invariant.between
