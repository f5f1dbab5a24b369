use Rattle.std.proofs.Common.{ap}
use Rattle.address_map.proofs.InverseLaws.{inverse_empty}
use Rattle.address_map.specs.KeptPlaces.{address_among}
use Rattle.address_map.proofs.places.Places.clear.Goals as goal

pub invariant_of-self : goal.invariant_of-self
invariant_of-self c =
    inverse_empty _ _ c.clear.ensures.emptied (λ i. ap (λ es. address_among es i)
    c.clear-2.ensures.empty)
