use Rattle.std.specs.Prelude.{◌≡◌, ◌+◌, length}
use Rattle.std.proofs.Common.{arith, sym, ap, subst, ◌∙◌}
use Rattle.std.specs.FinMap as finite
use Rattle.item_map.specs.ItemAddresses.{item_of}
use Rattle.item_map.specs.ItemLists.{AreOfItem, map_in, own_entries}
use Rattle.item_map.proofs.ChangeLaws.{inserted_own, one_more, put_in, put_one}
use Rattle.item_map.proofs.OwnLaws.{got, own_are, own_fits}
use Rattle.item_map.proofs.map.ItemMap.insert.Goals as goal
use Rattle.item_map.proofs.map.ItemMap.insert.Goals.{After-insert, After-put}

pub take-entries-requires-clause-room : goal.take-entries-requires-clause-room
take-entries-requires-clause-room g c = λ none.
    let root = c.deref.result.now.item.0.root in
    omega (arith, c.self.invariant.room root, c.requires.spare, ap (λ m. m.spare) c.self.view_is)

pub insert-requires-clause-free : goal.insert-requires-clause-free
insert-requires-clause-free g c =
    let at = c.deref.result.now.item.0 in
    ap (λ f. finite.get c.take-entries.result f.item.0) (sym c.deref.ensures)
    ∙ ap (λ m. finite.get m at) c.take-entries.ensures.entries
    ∙ sym (got c.self.inside.roots c.self.invariant.order at)
    ∙ ap (λ m. finite.get m.entries at) c.self.view_is
    ∙ ap (λ f. finite.get c.args.self.now.entries f.item.0) c.deref.ensures
    ∙ c.requires.free

pub insert-requires-clause-fits : goal.insert-requires-clause-fits
insert-requires-clause-fits g c =
    omega (
      arith,
      ap (λ m. length (finite.keys m)) c.take-entries.ensures.entries,
      own_fits c.self.inside.roots c.self.invariant.order c.deref.result.now.item.0,
      c.self.invariant.count,
      c.self.invariant.fits,
      c.requires.spare,
      ap (λ m. m.spare) c.self.view_is,
    )

with_it : (g : _) (c : After-insert g) → c.insert.new.self
    ≡ finite.insert (own_entries c.self.inside.roots c.deref.result.now.item.0)
    c.deref.result.now.item.0 c.args.room.value.item.1
with_it g c =
    c.insert.ensures ∙ (λ i. finite.insert (c.take-entries.ensures.entries i)
    (sym c.deref.ensures i).item.0 c.args.room.value.item.1)

pub put-requires-clause-own : goal.put-requires-clause-own
put-requires-clause-own g c =
    let a = c.self.inside.roots in
    let at = c.deref.result.now.item.0 in
    subst (AreOfItem (item_of at))
    (sym (with_it g (goal.at.put-requires-clause-own g c).After-insert))
    (inserted_own at (own_entries a at) c.args.room.value.item.1
    (own_are a c.self.invariant.order at))

made : (g : _) (c : After-put g) → map_in c.put.new.self
    ≡ finite.insert (map_in c.self.inside.roots) c.args.room.value.item.0 c.args.room.value.item.1
made g c =
    let a = c.self.inside.roots in
    let value = c.args.room.value.item.1 in
    put_in c.deref.result.now.item.0 a c.take-entries.new.self c.put.new.self c.insert.new.self
    c.self.invariant.order c.put.ensures.order c.take-entries.ensures.taken c.put.ensures.put value
    (c.insert.ensures ∙ (λ i. finite.insert (c.take-entries.ensures.entries i)
    (sym c.deref.ensures i).item.0 value))
    ∙ ap (λ f. finite.insert (map_in a) f.item.0 value) c.deref.ensures

pub invariant_of-self : goal.invariant_of-self
invariant_of-self g c =
    let a = c.self.inside.roots in
    let at = c.args.room.value.item.0 in
    let value = c.args.room.value.item.1 in
    record {
      order = c.put.ensures.order;
      empty = c.self.invariant.empty;
      count = ap (λ n. n + 1) c.self.invariant.count
          ∙ sym (ap finite.len (made g (goal.at.invariant_of-self g c).After-put)
          ∙ one_more (map_in a) at value
          (ap (λ m. finite.get m.entries at) c.self.view_is ∙ c.requires.free));
      room = put_one c.deref.result.now.item.0 a c.take-entries.new.self c.put.new.self
          c.self.inside.spare
          (omega (arith, c.requires.spare, ap (λ m. m.spare) c.self.view_is))
          (c.take-entries.ensures.spare c.self.inside.spare c.self.invariant.room)
          c.put.ensures.spare;
      fits = omega (
        arith,
        c.self.invariant.fits,
        c.requires.spare,
        ap (λ m. m.spare) c.self.view_is,
      );
    }

pub returns-clause-put : goal.returns-clause-put
returns-clause-put g c =
    made g (goal.at.returns-clause-put g c).After-put
    ∙ ap (λ m. finite.insert m.entries c.args.room.value.item.0 c.args.room.value.item.1)
    c.self.view_is

pub returns-clause-spare : goal.returns-clause-spare
returns-clause-spare g c = omega (arith, ap (λ m. m.spare) c.self.view_is)
