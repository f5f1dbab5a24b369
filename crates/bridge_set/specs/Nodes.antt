-- The nodes of a fresh bridging, as bridges keep them.
use Rattle.std.specs.Prelude.{◌≡◌, List, All, map}
use Rattle.bridge_set.specs.Bridges.{kept_among}
use Rattle.bridge_face.specs.BridgeState.{BridgeState, KeptByAddress}
use Rattle.bridge_plan.specs.AddsHeld.{kept_of}
use Rattle.expansion.specs.Read.{model_nodes}
use Rattle.fresh_bridging.specs.FreshBridging.{FreshBridging}
use Rattle.fresh_bridging.specs.TheRules.{Setting}
use Rattle.item_core.specs.declared.family.Family.{Family}
use Rattle.user_model.specs.Model.{ModelValue}

-- those of a family, as its bridge keeps them
abbrev pub nodes_by : {setting : Setting} {model : ModelValue} → FreshBridging setting model
    → Family → KeptByAddress
nodes_by bridging family = kept_among (map kept_of (model_nodes bridging.made)) family

-- each bridge keeps those by the edges of its family
abbrev pub HoldNodes : {setting : Setting} {model : ModelValue} → FreshBridging setting model
    → List BridgeState → Type 0
HoldNodes bridging states = All (λ (s : BridgeState). s.kept ≡ nodes_by bridging s.family) states
