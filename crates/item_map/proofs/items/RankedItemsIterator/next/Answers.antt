use Rattle.std.specs.Prelude.{◌<◌, length}
use Rattle.std.proofs.Common.{◌∙◌, arith, sym}
use Rattle.std.proofs.lemmas.Option.{slice_get_within}
use Rattle.map_laws.specs.PlaceLaws.{drop_at}
use Rattle.item_map.proofs.items.RankedItemsIterator.next.Goals as goal

pub overflow_add-self : goal.overflow_add-self
overflow_add-self g c =
    let within : c.self.inside.place < length c.self.inside.list.now =
    slice_get_within c.self.inside.list.now c.self.inside.place c.in_ok-item.item.now
    (sym c.in_ok-item.ensures) in
    omega (arith, within, c.len-len.ensures, c.len-len.type_inv)

pub returns-clause-steps : goal.returns-clause-steps
returns-clause-steps g c =
    sym c.self.view_is
    ∙ drop_at c.self.inside.place c.in_ok-item.item.now c.self.inside.list.now
    (sym c.in_ok-item.ensures)
