use Rattle.std.specs.Prelude.{◌≡◌, ◌-◌, IsSome, is_some}
use Rattle.std.proofs.Common.{arith, sym, ap, subst, ◌∙◌}
use Rattle.std.specs.FinMap as finite
use Rattle.std.specs.Option.{option_copied}
use Rattle.aff_core.specs.Address.{address_total, exact_addresses}
use Rattle.map_laws.specs.SumLaws.{taken_in_vain}
use Rattle.item_map.specs.ItemAddresses.{item_of}
use Rattle.item_map.specs.ItemLists.{AreOfItem, map_in, own_entries}
use Rattle.item_map.proofs.ChangeLaws.{one_less, put_again, removed_own, some_there, taken_from}
use Rattle.item_map.proofs.OwnLaws.{got, own_are, room_there}
use Rattle.item_map.proofs.map.ItemMap.remove.Goals as goal
use Rattle.item_map.proofs.map.ItemMap.remove.Goals.{After-put, In-Some}

pub returns-in_default-clause-removed : goal.returns-in_default-clause-removed
returns-in_default-clause-removed g c =
    sym (taken_in_vain address_total exact_addresses c.args.self.now.entries c.args.at.now
    (sym c.get.ensures ∙ ap option_copied c.in_default.is))

there : (g : _) (c : In-Some g) → IsSome (finite.get c.args.self.now.entries c.args.at.now)
there g c = ap is_some (sym c.get.ensures ∙ ap option_copied c.in-Some.is)

pub take-entries-requires-clause-room : goal.take-entries-requires-clause-room
take-entries-requires-clause-room g c =
    room_there c.self.inside.roots c.self.invariant.order c.args.at.now
    (subst (λ m. IsSome (finite.get m.entries c.args.at.now)) (sym c.self.view_is)
    (there g (goal.at.take-entries-requires-clause-room g c).In-Some))

pub put-requires-clause-own : goal.put-requires-clause-own
put-requires-clause-own g c =
    let a = c.self.inside.roots in
    let at = c.args.at.now in
    subst (AreOfItem (item_of at))
    (sym (c.remove-value.ensures.removed
    ∙ ap (λ m. finite.remove m at) c.take-entries.ensures.entries))
    (removed_own at (own_entries a at) (own_are a c.self.invariant.order at))

made : (g : _) (c : After-put g) → map_in c.put.new.self
    ≡ finite.remove (map_in c.self.inside.roots) c.args.at.now
made g c =
    let at = c.args.at.now in
    taken_from at c.self.inside.roots c.take-entries.new.self c.put.new.self
    c.remove-value.new.self c.self.invariant.order c.put.ensures.order
    c.take-entries.ensures.taken c.put.ensures.put
    (c.remove-value.ensures.removed
    ∙ ap (λ m. finite.remove m at) c.take-entries.ensures.entries)

inside : (g : _) (c : After-put g)
    → IsSome (finite.get (map_in c.self.inside.roots) c.args.at.now)
inside g c =
    subst (λ m. IsSome (finite.get m.entries c.args.at.now)) (sym c.self.view_is)
    (ap is_some (sym c.get.ensures ∙ ap option_copied c.in-Some.is))

pub overflow_sub-self : goal.overflow_sub-self
overflow_sub-self g c =
    omega (
      arith,
      c.self.invariant.count,
      some_there (map_in c.self.inside.roots) c.args.at.now
          (inside g (goal.at.overflow_sub-self g c).After-put),
    )

pub invariant_of-self : goal.invariant_of-self
invariant_of-self g c =
    let a = c.self.inside.roots in
    let d = (goal.at.invariant_of-self g c).After-put in
    record {
      order = c.put.ensures.order;
      empty = c.self.invariant.empty;
      count = ap (λ n. n - 1) c.self.invariant.count
          ∙ sym (ap finite.len (made g d) ∙ one_less (map_in a) c.args.at.now (inside g d));
      room = c.put.ensures.spare c.self.inside.spare
          (put_again c.args.at.now a c.take-entries.new.self c.self.inside.spare
          (c.take-entries.ensures.spare c.self.inside.spare c.self.invariant.room) c.self.invariant.order
          (inside g d));
      fits = omega (arith, c.self.invariant.fits);
    }

pub returns-clause-value : goal.returns-clause-value
returns-clause-value g c =
    c.remove-value.ensures.value
    ∙ ap (λ m. finite.get m c.args.at.now) c.take-entries.ensures.entries
    ∙ sym (got c.self.inside.roots c.self.invariant.order c.args.at.now)
    ∙ ap (λ m. finite.get m.entries c.args.at.now) c.self.view_is

pub returns-clause-removed : goal.returns-clause-removed
returns-clause-removed g c =
    made g (goal.at.returns-clause-removed g c).After-put
    ∙ ap (λ m. finite.remove m.entries c.args.at.now) c.self.view_is
