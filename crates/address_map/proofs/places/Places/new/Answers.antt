use Rattle.std.proofs.Common.{ap}
use Rattle.address_map.proofs.InverseLaws.{inverse_empty}
use Rattle.address_map.specs.KeptPlaces.{address_among}
use Rattle.address_map.proofs.places.Places.new.Goals as goal

pub invariant_of-result : goal.invariant_of-result
invariant_of-result c =
    inverse_empty _ _ c.new.ensures (λ i. ap (λ es. address_among es i) c.new-2.ensures.empty)
