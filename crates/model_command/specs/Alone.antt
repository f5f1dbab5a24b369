-- The state in which a model is, before a solver is attached.
use Rattle.std.specs.Prelude.{false, List}
use Rattle.bridge_face.specs.BridgeState.{BridgeState}
use Rattle.bridge_set.specs.Bridges.{setting_by}
use Rattle.cache_layer.specs.CacheState.{CacheState}
use Rattle.fresh_bridging.specs.TheRules.{Setting}
use Rattle.item_core.specs.Table.{target_table}
use Rattle.item_core.specs.declared.table.Target.TheVariants.{Standard}
use Rattle.user_model.specs.Model.{ModelValue}

-- the target `standard`, and the families of the bridges
abbrev pub standard_by : List BridgeState → Setting
standard_by bridges = setting_by (target_table Standard) bridges

-- the model by itself
abbrev pub alone : Setting → ModelValue → CacheState
alone setting model = record { model = model; setting = setting; attached = false }
