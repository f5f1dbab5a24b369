-- A solver's model with the map of addresses that it is read through.
use Rattle.std.specs.Prelude.{refl}
use Rattle.std.specs.Coded.{Coded, code_by, coded×}
use Rattle.address_map.specs.AddressMap.{AddressMap, address_map_code}
use Rattle.solver_store.specs.SolverModel.{Leaves, leaves_code}

pub record ListedLeaves : Type 0 where
  pub map : AddressMap
  pub leaves : Leaves

abbrev pub listed_code : Coded ListedLeaves
listed_code =
    code_by (AddressMap × Leaves) (coded× address_map_code leaves_code) (λ l. (l.map, l.leaves))
    (λ p. record { map = p.0; leaves = p.1 }) (λ _. refl)

abbrev pub listed : AddressMap → Leaves → ListedLeaves
listed map leaves = record { map = map; leaves = leaves }
