-- What contracts see of bridges: the table, the choices, and the state of each bridge.
use Rattle.std.specs.Prelude.{◌≡◌, ℕ, Bool, true, ◌&&◌, not, cond, List, [], ◌∷◌, Option, Some, None, All, filter, map, slice_get, slice_set, slice_index_or, refl}
use Rattle.std.specs.Coded.{Coded, code_by, coded×, coded_list, coded_ℕ}
use Rattle.std.specs.FinMap as finite
use Rattle.std.specs.List.{list_any}
use Rattle.std.specs.Option.{option_or}
use Rattle.aff_core.specs.Address.{Address, address_cmp}
use Rattle.aff_core.specs.Rising.{HasDistinctKeys}
use Rattle.bridge_graph.specs.declared.Choice.{Choice}
use Rattle.bridge_graph.specs.declared.Choice.TheVariants.{Missing}
use Rattle.bridge_graph.specs.contracts.Choice as choice
use Rattle.item_core.specs.declared.family.Family.{Family}
use Rattle.item_core.specs.declared.table.Table.{Table}
use Rattle.item_core.specs.contracts.family.Family as family
use Rattle.item_core.specs.contracts.table.Table as table
use Rattle.item_core.specs.Edge.{family_eq, family_of}
use Rattle.bridge_face.specs.Law.{IsItemFor}
use Rattle.bridge_face.specs.BridgeState.{BridgeState, KeptByAddress, found, kept_code}
use Rattle.bridge_face.specs.declared.kept_item.KeptItem.{KeptItem}
use Rattle.fresh_bridging.specs.TheRules.{Setting}
use Rattle.bridge_plan.specs.Means.{Means}

pub record Bridges : Type 0 where
  pub table : Table
  pub choices : List Choice
  pub states : List BridgeState

abbrev pub bridges_of : Table → List Choice → List BridgeState → Bridges
bridges_of table choices states = record { table = table; choices = choices; states = states }

abbrev pub state_code : Coded BridgeState
state_code =
    code_by (Family × (KeptByAddress × ℕ)) (coded× (family.the_row).coded (coded× kept_code coded_ℕ))
    (λ s. (s.family, (s.kept, s.turns)))
    (λ p. record { family = p.0; kept = p.1.0; turns = p.1.1 }) (λ _. refl)

abbrev pub bridges_code : Coded Bridges
bridges_code =
    code_by (Table × (List Choice × List BridgeState))
    (coded× (table.the_row).coded
    (coded× (coded_list (choice.the_row).coded) (coded_list state_code)))
    (λ b. (b.table, (b.choices, b.states)))
    (λ p. record { table = p.0; choices = p.1.0; states = p.1.1 }) (λ _. refl)

-- ---- families

abbrev pub families_of : List BridgeState → List Family
families_of states = map (λ (s : BridgeState). s.family) states

-- no family occurs twice
abbrev pub occur_once : List Family → Bool
occur_once [] = true
occur_once (family ∷ families) = not (list_any (family_eq family) families) && occur_once families

abbrev pub setting_by : Table → List BridgeState → Setting
setting_by table states = record { table = table; families = families_of states }

abbrev pub setting_of : Bridges → Setting
setting_of bridges = setting_by bridges.table bridges.states

-- ---- what rewrites items

abbrev pub choice_in : List Choice → ℕ → Choice
choice_in choices kind = slice_index_or choices kind Missing

abbrev pub kept_by : List BridgeState → List (Family × KeptByAddress)
kept_by states = map (λ (s : BridgeState). (s.family, s.kept)) states

abbrev pub means_of : Bridges → Means
means_of bridges = record {
  setting = setting_of bridges;
  choice = choice_in bridges.choices;
  kept = kept_by bridges.states;
}

-- what the first bridge keeps that keeps something at the address
abbrev pub kept_first : List BridgeState → Address → Option KeptItem
kept_first [] at = None
kept_first (s ∷ ss) at = option_or (found s at) (kept_first ss at)

-- ---- what calls leave

-- nothing is kept at the address
abbrev pub IsAddressFree : Address → List BridgeState → Type 0
IsAddressFree at states = All (λ s. found s at ≡ None) states

-- the bridge of the family is changed, and no other
abbrev pub at_family : Family → (BridgeState → BridgeState) → BridgeState → BridgeState
at_family family change s = cond (family_eq family s.family) (change s) s

-- ---- many items

-- what the bridge of a family keeps of items, of which each is at an address of its own
unfoldable pub kept_among : List KeptItem → Family → KeptByAddress
kept_among nodes family =
    finite.from_entries (map (λ n. (n.item.at, n))
    (filter (λ n. family_eq (family_of n.edge) family) nodes))

-- each bridge keeps those by its edges
abbrev pub keeping : List KeptItem → BridgeState → Family × KeptByAddress
keeping nodes s = (s.family, kept_among nodes s.family)

-- items for edges that have a bridge, each at an address of its own
pub record AreKeepable (families : List Family) (nodes : List KeptItem) : Type 0 where
  pub own : All (λ n. list_any (family_eq (family_of n.edge)) families ≡ true) nodes
  pub suits : All (λ n. IsItemFor n.edge n.item) nodes
  pub apart : HasDistinctKeys address_cmp (map (λ n. (n.item.at, n)) nodes)

-- the state of a bridge of the family was changed
pub record IsChangedFor (family : Family) (change : BridgeState → BridgeState)
    (old new : List BridgeState) : Type 0 where
  pub place : ℕ
  pub was : BridgeState
  pub at : slice_get old place ≡ Some was
  pub of_family : was.family ≡ family
  pub new_is : new ≡ slice_set old place (change was)
