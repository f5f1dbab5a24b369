use Rattle.std.proofs.Common.{sym, subst, ◌∙◌}
use Rattle.std.specs.FinMap as finite
use Rattle.aff_core.specs.Address.{address_total, exact_addresses}
use Rattle.map_laws.specs.SumLaws.{taken_in_vain}
use Rattle.address_map.specs.KeptPlaces.{AreInverseMaps, address_among}
use Rattle.address_map.proofs.InverseLaws.{inverse_removed, one_to_one}
use Rattle.address_map.proofs.places.Places.remove.Goals as goal

pub invariant_of-self : goal.invariant_of-self
invariant_of-self c =
    let m = c.self.inside.ordered.indices in
    subst (λ n. AreInverseMaps (finite.get n) (address_among c.self.inside.by_index.entries))
    (sym (c.remove.ensures.removed ∙ taken_in_vain address_total exact_addresses m c.args.at.now
    (sym c.in_err-i.ensures.index)))
    c.self.invariant

pub returns-in_err-i-clause-one_to_one : goal.returns-in_err-i-clause-one_to_one
returns-in_err-i-clause-one_to_one c =
    one_to_one c.remove.new.self.indices (address_among c.self.inside.by_index.entries)
    (invariant_of-self c)

pub invariant_of-self-2 : goal.invariant_of-self-2
invariant_of-self-2 c =
    let m = c.self.inside.ordered.indices in
    let after = address_among c.swap_remove.new.self.entries in
    subst (λ n. AreInverseMaps (finite.get n) after) (sym c.remove.ensures.removed)
    (inverse_removed m (address_among c.self.inside.by_index.entries) c.self.invariant
    c.args.at.now c.in_ok-i.i
    after (sym c.in_ok-i.ensures.index) c.swap_remove.ensures.updates.0)

pub returns-clause-one_to_one : goal.returns-clause-one_to_one
returns-clause-one_to_one c =
    one_to_one c.remove.new.self.indices (address_among c.swap_remove.new.self.entries)
    (invariant_of-self-2 c)
