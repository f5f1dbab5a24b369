use Rattle.std.proofs.Common.{ap, subst}
use Rattle.address_map.specs.KeptPlaces.{address_among}
use Rattle.address_map.specs.Places.{AreIndicesOneToOne}
use Rattle.address_map.proofs.InverseLaws.{one_to_one}
use Rattle.address_map.proofs.places.Places.index.Goals as goal

pub returns-clause-one_to_one : goal.returns-clause-one_to_one
returns-clause-one_to_one c =
    subst AreIndicesOneToOne (ap (λ p. p.indices) c.self.view_is)
    (one_to_one c.self.inside.ordered.indices (address_among c.self.inside.by_index.entries)
    c.self.invariant)
