use Rattle.std.specs.Prelude.{◌≡◌}
use Rattle.std.proofs.Common.{sym, ap, subst, ◌∙◌}
use Rattle.std.specs.FinMap as finite
use Rattle.address_map.specs.KeptPlaces.{AreInverseMaps, address_among}
use Rattle.address_map.specs.Places.{AreIndicesOneToOne, IsIndexFree}
use Rattle.address_map.proofs.InverseLaws.{inverse_put, one_to_one}
use Rattle.address_map.proofs.places.Places.put.Goals as goal

pub returns-in_err-reserve-clause-one_to_one : goal.returns-in_err-reserve-clause-one_to_one
returns-in_err-reserve-clause-one_to_one c =
    subst AreIndicesOneToOne (sym c.reserve.ensures.same)
    (one_to_one c.self.inside.ordered.indices (address_among c.self.inside.by_index.entries)
    c.self.invariant)

pub returns-in_err-insert-clause-one_to_one : goal.returns-in_err-insert-clause-one_to_one
returns-in_err-insert-clause-one_to_one c =
    subst AreIndicesOneToOne (sym c.reserve.ensures.same)
    (one_to_one c.self.inside.ordered.indices (address_among c.self.inside.by_index.entries)
    c.self.invariant)

pub invariant_of-self-2 : goal.invariant_of-self-2
invariant_of-self-2 c =
    let back = address_among c.self.inside.by_index.entries in
    let after = address_among c.insert.new.self.entries in
    let m = c.reserve.new.self.indices in
    let now : m ≡ c.args.self.now.indices =
    c.reserve.ensures.same ∙ ap (λ p. p.indices) c.self.view_is in
    subst (λ n. AreInverseMaps (finite.get n) after) (sym c.insert-2.ensures.put)
    (inverse_put m back (subst (λ n. AreInverseMaps (finite.get n) back) (sym c.reserve.ensures.same)
    c.self.invariant)
    c.args.at c.args.i after (ap (λ n. finite.get n c.args.at) now ∙ c.requires.address_free)
    (subst (λ n. IsIndexFree n c.args.i) (sym now) c.requires.index_free)
    c.in_ok-insert.ensures.updates.0)

pub returns-clause-one_to_one : goal.returns-clause-one_to_one
returns-clause-one_to_one c =
    one_to_one c.insert-2.new.self.indices (address_among c.insert.new.self.entries)
    (invariant_of-self-2 c)
