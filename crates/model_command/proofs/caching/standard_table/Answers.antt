use Rattle.std.proofs.Common.{refl, subst, sym}
use Rattle.std.specs.Prelude.{IsTrue}
use Rattle.item_core.specs.Table.{target_table}
use Rattle.item_core.specs.declared.table.Table.{Table}
use Rattle.item_core.specs.declared.table.Target.TheVariants.{Standard}
use Rattle.lazy_bridge.specs.Native.{supports_native}
use Rattle.item_core.specs.Kind.{is_native}
use Rattle.model_command.proofs.caching.standard_table.Goals as goal

standard_native : IsTrue (supports_native (target_table Standard))
unfolding target_table is_native
standard_native = refl

pub returns-clause-native : goal.returns-clause-native
returns-clause-native c =
    subst (λ (t : Table). IsTrue (supports_native t)) (sym c.target.ensures.value) standard_native
