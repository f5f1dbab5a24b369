use Rattle.std.proofs.Common.{Some, refl}
use Rattle.numbered_list.specs.Changes.{change_to, changed_number}
use Rattle.numbered_list.specs.PlaceLaws.{after_inserting}
use Rattle.numbered_list.proofs.places.insert_new.Goals as goal

pub returns-clause-after : goal.returns-clause-after
returns-clause-after g c =
    let change = change_to c.args.number (Some c.args.item) in
    after_inserting changed_number c.args.number (Some change) change c.args.places.now.items _ _
    c.in-Err.place c.in-Err.ensures c.deref.ensures.value c.in-Ok.ensures.items refl
