use Rattle.std.proofs.Common.{lit<}
use Rattle.item_map.proofs.ChangeLaws.{none_kept, none_map, none_room}
use Rattle.item_map.proofs.map.ItemMap.new.Goals as goal

pub invariant_of-result : goal.invariant_of-result
invariant_of-result g c =
    none_kept c.new.result c.new-2.result 0 c.new.ensures c.new-2.ensures
    (none_room c.new.result c.new.ensures) (lit< tt)

pub returns : goal.returns
returns g c = none_map c.new.result c.new.ensures
