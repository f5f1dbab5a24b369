-- The dual of a row by what bridges keep: that of a leaf row is given, and that of a kept one is what
-- its edge makes of its child rows' duals, down to a number of levels.
use Rattle.std.specs.Prelude.{◌+◌, ◌<◌, ◌≤◌, ◌^◌, ℕ, zero, suc, List, [], ◌∷◌, All, Option, Some, None, length, map}
use Rattle.std.specs.List.{range_with_len}
use Rattle.std.specs.Option.{option_or}
use Rattle.ratio_core.specs.Rational.{Rational}
use Rattle.aff_core.specs.Address.{Address, child_of, root_address}
use Rattle.aff_core.specs.declared.root.Root.TheVariants as root
use Rattle.item_core.specs.Kind.{kind_count}
use Rattle.bridge_face.specs.BackOf.{BackFits, back_of}
use Rattle.bridge_face.specs.BridgeState.{BridgeState, TakesDuals, child_rows_of, found}
use Rattle.bridge_face.specs.declared.child_rows.ChildRows.{ChildRows}
use Rattle.bridge_face.specs.declared.kept_item.KeptItem.{KeptItem}
use Rattle.cert_core.specs.Checked.{HasRowDuals}
use Rattle.user_model.specs.declared.row.Row.{Row}
use Rattle.adjoint_core.specs.Told.{FirstNot}

-- what the first of the bridges keeps that keeps something at the address
unfoldable pub kept_at : List BridgeState → Address → Option KeptItem
kept_at [] at = None
kept_at (s ∷ ss) at = option_or (found s at) (kept_at ss at)

-- where the child rows stand
abbrev pub places_of : Address → ChildRows → List Address
places_of at rows = map (child_of at) (range_with_len rows.first rows.count)

abbrev pub row_places : Address → KeptItem → List Address
row_places at kept = places_of at (child_rows_of kept.edge kept.item)

-- a kept row that takes these duals of its child rows
pub record TakesChildDuals (below : Address → List Rational) (at : Address) (kept : KeptItem) : Type 0 where
  pub duals : TakesDuals kept (map below (row_places at kept))
  pub depth : length at.positions < 40
  pub places : (child_rows_of kept.edge kept.item).first
      + (child_rows_of kept.edge kept.item).count ≤ 2 ^ 16

-- an item stands at most one level a kind deep; one more for the walk to end
abbrev pub levels : ℕ
levels = suc kind_count

abbrev pub row_place : Row → Address
row_place r = root_address root.Row r.id

module _ (states : List BridgeState) (leaf : Address → List Rational) where
  -- ---- by what is said of the rows below

  unfoldable pub dual_by : (Address → List Rational) → Address → Option KeptItem → List Rational
  dual_by below at None = leaf at
  dual_by below at (Some kept) = back_of kept.edge kept.item (map below (row_places at kept))

  unfoldable pub FitsBelow : (Address → List Rational) → (Address → Type 0) → Address
      → Option KeptItem → Type 0
  FitsBelow below Fits at None = Unit {0}
  FitsBelow below Fits at (Some kept) =
      All Fits (row_places at kept) × BackFits kept.edge kept.item (map below (row_places at kept))

  unfoldable pub TakesBy : (Address → List Rational) → (Address → Type 0) → Address
      → Option KeptItem → Type 0
  TakesBy below Within at None = Unit {0}
  TakesBy below Within at (Some kept) = TakesChildDuals below at kept × All Within (row_places at kept)

  -- ---- down to a number of levels

  unfoldable pub dual_at : ℕ → Address → List Rational
  dual_at zero at = []
  dual_at (suc n) at = dual_by (dual_at n) at (kept_at states at)

  -- what is added up
  unfoldable pub DualBelowFits : ℕ → Address → Type 0
  DualBelowFits zero at = Unit {0}
  DualBelowFits (suc n) at = FitsBelow (dual_at n) (DualBelowFits n) at (kept_at states at)

  -- the row and each below it that is kept takes its child rows' duals, and the levels are enough
  unfoldable pub IsRowWithin : ℕ → Address → Type 0
  IsRowWithin zero at = ⊥
  IsRowWithin (suc n) at = TakesBy (dual_at n) (IsRowWithin n) at (kept_at states at)

  -- ---- the user's rows

  abbrev pub row_dual : Row → List Rational
  row_dual r = dual_at levels (row_place r)

  abbrev pub RowDualFits : Row → Type 0
  RowDualFits r = DualBelowFits levels (row_place r)

  -- the first whose dual doesn't fit
  abbrev pub IsUnfitAmong : List Row → Address → Type 0
  IsUnfitAmong rows at = FirstNot RowDualFits row_place rows at

  pub record AreRowsWithin (rows : List Row) : Type 0 where
    pub each : All (λ r. IsRowWithin levels (row_place r)) rows
    pub sizes : HasRowDuals rows (map row_dual rows)
