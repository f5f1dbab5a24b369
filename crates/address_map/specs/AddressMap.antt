-- What contracts see of the map between leaf addresses and solver indices.
use Rattle.std.specs.Prelude.{refl}
use Rattle.std.specs.Coded.{Coded, code_by, coded×}
use Rattle.std.specs.FinMap as finite
use Rattle.std.specs.FinMap.{FinMap}
use Rattle.aff_core.specs.Address.{address_cmp, address_code}
use Rattle.aff_core.specs.Function.{Function, function_code}
use Rattle.address_map.specs.Noted.{AddressSet, Noted, noted_code, set_code}
use Rattle.address_map.specs.Places.{Places, places_code}

-- each variable's expression over leaf variables
abbrev pub ExpressionsByAddress : Type 0
ExpressionsByAddress = FinMap address_cmp Function

pub record AddressMap : Type 0 where
  pub vars : Places
  pub rows : Places
  pub exprs : ExpressionsByAddress
  -- the items that mention a variable, and the variables that are kept
  pub noted : Noted
  pub kept : AddressSet

abbrev pub address_map_code : Coded AddressMap
address_map_code =
    code_by (Places × (Places × (ExpressionsByAddress × (Noted × AddressSet))))
    (coded× places_code (coded× places_code (coded× (finite.code address_code function_code)
    (coded× noted_code set_code))))
    (λ m. (m.vars, (m.rows, (m.exprs, (m.noted, m.kept)))))
    (λ p. record {
      vars = p.0;
      rows = p.1.0;
      exprs = p.1.1.0;
      noted = p.1.1.1.0;
      kept = p.1.1.1.1;
    })
    (λ _. refl)
