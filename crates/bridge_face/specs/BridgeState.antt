-- What is seen of a bridge: its family, what it keeps, and how often it was called to work.
use Rattle.std.specs.Prelude.{◌≡◌, ℕ, ◌+◌, ◌-◌, ◌^◌, min, false, List, Option, Result, length, map}
use Rattle.std.specs.Coded.{Coded}
use Rattle.std.specs.FinMap as finite
use Rattle.std.specs.FinMap.{FinMap}
use Rattle.aff_core.specs.Address.{Address, address_cmp, address_code}
use Rattle.item_core.specs.declared.family.Family.{Family}
use Rattle.item_core.specs.declared.item.Item.{Item}
use Rattle.bridge_face.specs.declared.kept_item.KeptItem.{KeptItem}
use Rattle.bridge_face.specs.contracts.kept_item.KeptItem as contracts
use Rattle.ratio_core.specs.Rational.{Rational}
use Rattle.ratio_core.specs.declared.fault.NumberFault.{NumberFault}
use Rattle.ratio_core.specs.Answers.{ExactWhere}
use Rattle.item_core.specs.declared.edge.Edge.{Edge}
use Rattle.item_core.specs.Item.{functions_of, is_group}
use Rattle.bridge_face.specs.declared.child_rows.ChildRows.{ChildRows}
use Rattle.bridge_face.specs.BackOf.{BackFits, back_of}
use Rattle.bridge_face.specs.ImageOf.{image_of}
use Rattle.bridge_face.specs.Law.{is_objective}

-- items with their edges, by address
abbrev pub KeptByAddress : Type 0
KeptByAddress = FinMap address_cmp KeptItem

abbrev pub kept_code : Coded KeptByAddress
kept_code = finite.code address_code (contracts.the_row).coded

pub record BridgeState : Type 0 where
  pub family : Family
  pub kept : KeptByAddress
  pub turns : ℕ

-- one turn more, or the last number of turns
abbrev pub one_more : ℕ → ℕ
one_more n = min (n + 1) (2 ^ 64 - 1)

abbrev pub kept_item : Item → KeptItem → KeptItem
kept_item item kept = record kept { item = item }

-- ---- what a bridge's calls leave and answer

-- after a call that works, with this kept
abbrev pub after : BridgeState → KeptByAddress → BridgeState
after s kept = record s { kept = kept; turns = one_more s.turns }

-- after one that changes nothing, keeps an item at its address, lets one go, or all
abbrev pub tried : BridgeState → BridgeState
tried s = after s s.kept

abbrev pub given : BridgeState → KeptItem → BridgeState
given s kept = after s (finite.insert s.kept kept.item.at kept)

abbrev pub gone : BridgeState → Address → BridgeState
gone s at = after s (finite.remove s.kept at)

abbrev pub all_gone : BridgeState → BridgeState
all_gone s = after s finite.empty

-- what is kept at an address
abbrev pub found : BridgeState → Address → Option KeptItem
found s at = finite.get s.kept at

-- where an item's child rows stand among its children
abbrev pub child_rows_of : Edge → Item → ChildRows
child_rows_of edge item =
    record { first = length (image_of edge item).groups; count = length (image_of edge item).rows }

-- a row, with a dual for each number of each of its child rows
pub record TakesDuals (kept : KeptItem) (ys : List (List Rational)) : Type 0 where
  pub no_group : is_group kept.item.body ≡ false
  pub no_objective : is_objective kept.item.body ≡ false
  pub sizes :
      map length ys
      ≡ map (λ row. length (functions_of row.body)) (image_of kept.edge kept.item).rows

-- the answer is what is carried back of the duals, exactly where it fits
abbrev pub IsCarriedBack : Result (List Rational) NumberFault → List (List Rational) → KeptItem
    → Type 0
IsCarriedBack answer ys kept =
    ExactWhere answer (BackFits kept.edge kept.item ys)
    (λ dual. dual ≡ back_of kept.edge kept.item ys)
