use Rattle.std.proofs.Common.{arith, sym, subst}
use Rattle.item_map.specs.ItemLists.{HaveRoom}
use Rattle.item_map.proofs.ChangeLaws.{emptied_room, none_kept, none_map, none_room}
use Rattle.item_map.proofs.map.ItemMap.clear.Goals as goal

pub invariant_of-self : goal.invariant_of-self
invariant_of-self g c =
    none_kept c.new.result c.self.inside.nothing c.self.inside.spare c.new.ensures
    c.self.invariant.empty
    (subst (HaveRoom c.new.result) (sym c.if-self-eq0.true) (none_room c.new.result c.new.ensures))
    (omega (arith, c.self.invariant.fits))

pub returns-then-self-eq0-clause-emptied : goal.returns-then-self-eq0-clause-emptied
returns-then-self-eq0-clause-emptied g c = none_map c.new.result c.new.ensures

pub invariant_of-self-2 : goal.invariant_of-self-2
invariant_of-self-2 g c =
    none_kept c.clear.new.self c.self.inside.nothing c.self.inside.spare c.clear.ensures.none
    c.self.invariant.empty
    (emptied_room c.self.inside.roots c.clear.new.self c.self.inside.spare c.clear.ensures
    c.self.invariant.room)
    (omega (arith, c.self.invariant.fits))

pub returns-clause-emptied : goal.returns-clause-emptied
returns-clause-emptied g c = none_map c.clear.new.self c.clear.ensures.none
