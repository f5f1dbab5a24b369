use Rattle.std.proofs.Common.{◌≡◌, Bool, List, length, length-set, subst, sym, ◌∙◌}
use Rattle.std.specs.Prelude.{IsTrue}
use Rattle.item_core.specs.Kind.{kind_count, kind_number}
use Rattle.lazy_bridge.specs.Native.{supports_native}
use Rattle.edit_engine.proofs.TableSteps.{still_native}
use Rattle.edit_engine.proofs.tables.supporting.Goals as goal

pub returns-clause-native : goal.returns-clause-native
returns-clause-native c =
    let table = c.args.table.now in
    let kind = c.kind-kind.result in
    let len : length table.supported ≡ kind_count =
    sym (length-set table.supported (kind_number kind) c.args.value)
    ∙ c.free_with-changed.ensures.kinds in
    subst (λ (s : List Bool). IsTrue (supports_native (record table { supported = s })))
    (sym c.free_with-changed.ensures.value)
    (still_native kind c.args.value table len c.kind-kind.ensures.native c.requires.native)
