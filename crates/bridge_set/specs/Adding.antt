-- Bridges keep items beside those that they keep.
use Rattle.std.specs.Prelude.{◌≡◌, cond, List, [], ◌∷◌, All, None}
use Rattle.std.specs.FinMap as finite
use Rattle.bridge_face.specs.BridgeState.{KeptByAddress}
use Rattle.bridge_face.specs.declared.kept_item.KeptItem.{KeptItem}
use Rattle.item_core.specs.Edge.{family_eq, family_of}
use Rattle.item_core.specs.declared.family.Family.{Family}

-- the bridge of the item's family keeps it as well
abbrev pub with_one : KeptItem → Family × KeptByAddress → Family × KeptByAddress
with_one n k =
    (k.0, cond (family_eq (family_of n.edge) k.0) (finite.insert k.1 n.item.at n) k.1)

abbrev pub with_each : List KeptItem → Family × KeptByAddress → Family × KeptByAddress
with_each [] k = k
with_each (n ∷ nodes) k = with_each nodes (with_one n k)

-- nothing is kept where one of the items is to be
abbrev pub AreFree : List KeptItem → List (Family × KeptByAddress) → Type 0
AreFree nodes ks =
    All (λ (n : KeptItem). All (λ (k : Family × KeptByAddress). finite.get k.1 n.item.at ≡ None) ks) nodes
