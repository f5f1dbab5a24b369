use Rattle.std.specs.Prelude.{◌≡◌, IsSome}
use Rattle.std.proofs.Common.{sym, ap, subst, ◌∙◌}
use Rattle.std.specs.FinMap as finite
use Rattle.item_map.specs.ItemAddresses.{item_of}
use Rattle.item_map.specs.ItemLists.{AreOfItem, map_in, own_entries}
use Rattle.item_map.proofs.ChangeLaws.{as_many, inserted_own, put_again, put_in}
use Rattle.item_map.proofs.OwnLaws.{got, own_are, room_there}
use Rattle.item_map.proofs.map.ItemMap.replace.Goals as goal
use Rattle.item_map.proofs.map.ItemMap.replace.Goals.{After-put}

pub take-entries-requires-clause-order : goal.take-entries-requires-clause-order
take-entries-requires-clause-order g c = c.self.invariant.order

pub take-entries-requires-clause-room : goal.take-entries-requires-clause-room
take-entries-requires-clause-room g c =
    room_there c.self.inside.roots c.self.invariant.order c.args.at.now
    (subst (λ m. IsSome (finite.get m.entries c.args.at.now)) (sym c.self.view_is) c.requires)

pub replace-before-requires : goal.replace-before-requires
replace-before-requires g c =
    subst IsSome (ap (λ m. finite.get m.entries c.args.at.now) (sym c.self.view_is)
    ∙ got c.self.inside.roots c.self.invariant.order c.args.at.now
    ∙ ap (λ m. finite.get m c.args.at.now) (sym c.take-entries.ensures.entries)) c.requires

pub put-requires-clause-own : goal.put-requires-clause-own
put-requires-clause-own g c =
    let a = c.self.inside.roots in
    let at = c.args.at.now in
    subst (AreOfItem (item_of at))
    (sym (c.replace-before.ensures.after
    ∙ ap (λ m. finite.insert m at c.args.value) c.take-entries.ensures.entries))
    (inserted_own at (own_entries a at) c.args.value (own_are a c.self.invariant.order at))

made : (g : _) (c : After-put g) → map_in c.put.new.self
    ≡ finite.insert (map_in c.self.inside.roots) c.args.at.now c.args.value
made g c =
    let at = c.args.at.now in
    put_in at c.self.inside.roots c.take-entries.new.self c.put.new.self c.replace-before.new.self
    c.self.invariant.order c.put.ensures.order c.take-entries.ensures.taken c.put.ensures.put
    c.args.value (c.replace-before.ensures.after
    ∙ ap (λ m. finite.insert m at c.args.value) c.take-entries.ensures.entries)

pub invariant_of-self : goal.invariant_of-self
invariant_of-self g c =
    let a = c.self.inside.roots in
    record {
      order = c.put.ensures.order;
      empty = c.self.invariant.empty;
      count = c.self.invariant.count
          ∙ sym (ap finite.len (made g (goal.at.invariant_of-self g c).After-put)
          ∙ as_many (map_in a) c.args.at.now c.args.value
          (subst (λ m. IsSome (finite.get m.entries c.args.at.now)) (sym c.self.view_is) c.requires));
      room = c.put.ensures.spare c.self.inside.spare
          (put_again c.args.at.now a c.take-entries.new.self c.self.inside.spare
          (c.take-entries.ensures.spare c.self.inside.spare c.self.invariant.room) c.self.invariant.order
          (subst (λ m. IsSome (finite.get m.entries c.args.at.now)) (sym c.self.view_is) c.requires));
      fits = c.self.invariant.fits;
    }

pub returns-clause-before : goal.returns-clause-before
returns-clause-before g c =
    c.replace-before.ensures.before
    ∙ ap (λ m. finite.get m c.args.at.now) c.take-entries.ensures.entries
    ∙ sym (got c.self.inside.roots c.self.invariant.order c.args.at.now)
    ∙ ap (λ m. finite.get m.entries c.args.at.now) c.self.view_is

pub returns-clause-after : goal.returns-clause-after
returns-clause-after g c =
    made g (goal.at.returns-clause-after g c).After-put
    ∙ ap (λ m. finite.insert m.entries c.args.at.now c.args.value) c.self.view_is
