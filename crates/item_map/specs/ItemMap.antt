-- What contracts see of a map from addresses: its entries, and how many more need no memory but
-- their own room.
use Rattle.std.specs.Prelude.{ℕ, refl}
use Rattle.std.specs.Coded.{Coded, code_by, coded×, coded_ℕ}
use Rattle.std.specs.FinMap as finite
use Rattle.std.specs.FinMap.{FinMap}
use Rattle.aff_core.specs.Address.{address_cmp, address_code}

pub record ItemMap (V : Type 0) : Type 0 where
  pub entries : FinMap address_cmp V
  pub spare : ℕ

abbrev pub item_map_code : {V : Type 0} → Coded V → Coded (ItemMap V)
item_map_code {V} code =
    code_by (FinMap address_cmp V × ℕ) (coded× (finite.code address_code code) coded_ℕ)
    (λ m. (m.entries, m.spare)) (λ p. record { entries = p.0; spare = p.1 }) (λ _. refl)
