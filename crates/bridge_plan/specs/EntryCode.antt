-- How entries are stored.
use Rattle.std.specs.Prelude.{refl}
use Rattle.std.specs.Coded.{Coded, code_by, coded×}
use Rattle.aff_core.specs.Address.{Address, address_code}
use Rattle.item_core.specs.declared.image.Expression.{Expression}
use Rattle.item_core.specs.contracts.image.Expression as contracts
use Rattle.fresh_bridging.specs.Entries.{Entry}

abbrev pub entry_code : Coded Entry
entry_code =
    code_by (Address × Expression) (coded× address_code (contracts.the_row).coded)
    (λ e. (e.component, e.expression)) (λ p. record { component = p.0; expression = p.1 })
    (λ _. refl)
