use Rattle.std.proofs.Common.{subst, sym}
use Rattle.std.specs.Prelude.{IsTrue}
use Rattle.item_core.specs.declared.table.Table.{Table}
use Rattle.lazy_bridge.specs.Native.{supports_native}
use Rattle.edit_engine.proofs.TableSteps.{target_native}
use Rattle.edit_engine.proofs.tables.target_table.Goals as goal

pub returns-clause-native : goal.returns-clause-native
returns-clause-native c =
    subst (λ (t : Table). IsTrue (supports_native t)) (sym c.target.ensures.value)
    (target_native c.args.target)
