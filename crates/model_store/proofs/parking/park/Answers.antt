use Rattle.std.proofs.Common.{◌≡◌, ◌+◌, length, refl, sym, ap, ap₂, subst, ◌∙◌}
use Rattle.user_model.specs.Undone.{before}
use Rattle.user_model.specs.Model.{variables}
use Rattle.model_store.specs.declared.parked.Parked.{Parked}
use Rattle.model_catalog.specs.Names.{put_count}
use Rattle.model_store.specs.Rooms.{IsParked}
use Rattle.model_store.proofs.RoomLaws.{entry_of, parked_more}
use Rattle.model_store.proofs.parking.park.Goals as goal

pub returns : goal.returns
returns c =
    let entry : Parked = record {
      names = c.exchange.new.names;
      groups = c.args.reserved.groups;
      rows = c.args.reserved.rows;
      variables = c.variable_count.result + c.put_count.result;
    } in
    let new = c.exchange.new.self in
    let count : c.variable_count.result + c.put_count.result
    ≡ length (variables new.model) + put_count c.exchange.new.names.variables.items = ap₂
    (λ m n. m + n) c.variable_count.ensures (c.put_count.ensures ∙ ap put_count
    c.deref.ensures.value) in
    let undo = c.from.ensures ∙ c.exchange.ensures.contents in
    let back = ap (before new.model) c.from.ensures ∙ c.exchange.ensures.back in
    record {
      model = c.exchange.ensures.model;
      undo = undo;
      back = back;
      entry = record {
        entry = entry;
        last = c.push_with_room.ensures;
        is = entry_of c.args.plan c.args.names c.args.reserved c.args.catalog.now new entry
            c.from.result c.requires.reserved c.requires.was c.requires.changes
            c.exchange.ensures.model undo back c.exchange.ensures.names refl refl count;
      };
      parked = subst (λ parked. IsParked parked c.args.reserved.names new.room)
          (sym c.push_with_room.ensures) (parked_more c.args.plan c.args.names c.args.reserved
          c.args.catalog.now new c.exchange.new.with c.args.parked.now.items entry
          c.requires.reserved c.requires.parked c.exchange.ensures.kept c.exchange.ensures.room
          c.exchange.ensures.standing refl refl count);
    }
