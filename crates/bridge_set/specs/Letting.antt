-- What bridges release: all that is kept at and below some items of the model.
--     is_of_any          whether an address is at or below that of one of the items
--     without_items      what is kept elsewhere; without_found, by a bridge's family
--     kept_count         how many items bridges keep
--     IsReleased, AreReleased      of a bridge and of several: the items are gone, a turn for each
use Rattle.std.specs.Prelude.{◌≡◌, ◌≤◌, ◌+◌, ℕ, Bool, List, map, not, sum_by}
use Rattle.std.specs.FinMap as finite
use Rattle.std.specs.List.{list_any}
use Rattle.aff_core.specs.Address.{Address}
use Rattle.bridge_face.specs.ItemAddresses.{is_of}
use Rattle.bridge_face.specs.BridgeState.{BridgeState, KeptByAddress}
use Rattle.bridge_set.specs.Bridges.{kept_by}
use Rattle.bridge_set.specs.Turns.{turns_of}
use Rattle.item_core.specs.declared.family.Family.{Family}

abbrev pub is_of_any : List Address → Address → Bool
is_of_any items at = list_any (λ item. is_of item at) items

abbrev pub without_items : List Address → KeptByAddress → KeptByAddress
without_items items kept = finite.retain_keys kept (λ at. not (is_of_any items at))

abbrev pub without_found : List Address → Family × KeptByAddress → Family × KeptByAddress
without_found items k = (k.0, without_items items k.1)

abbrev pub kept_count : List (Family × KeptByAddress) → ℕ
kept_count ks = sum_by (λ k. finite.len k.1) ks

pub record IsReleased (items : List Address) (old new : BridgeState) : Type 0 where
  pub family : new.family ≡ old.family
  pub kept : new.kept ≡ without_items items old.kept
  pub turns : new.turns + finite.len new.kept ≤ old.turns + finite.len old.kept

pub record AreReleased (items : List Address) (old new : List BridgeState) : Type 0 where
  pub kept : kept_by new ≡ map (without_found items) (kept_by old)
  pub turns : turns_of new + kept_count (kept_by new) ≤ turns_of old + kept_count (kept_by old)
