-- What a cache is to its user: the user's model; the table, with the families that have a bridge;
-- and whether a solver is attached. What an attached solver holds is a function of these: the
-- fresh bridging of the model by the table.
use Rattle.std.specs.Prelude.{◌≡◌, ℕ, Bool, true, false, Some}
use Rattle.aff_core.specs.Address.{Address}
use Rattle.fresh_bridging.specs.FreshBridging.{FreshBridging, is_made, leaves_of, unfit_at}
use Rattle.fresh_bridging.specs.TheRules.{Setting}
use Rattle.item_core.specs.declared.table.Table.{Table}
use Rattle.lazy_bridge.specs.Pushed.{Counts}
use Rattle.leaf_model.specs.LeafModel.{LeafModel, no_leaves}
use Rattle.report_core.specs.declared.refused.Place.{Place}
use Rattle.user_model.specs.Model.{ModelValue, empty_model}
use Rattle.bridged_report.specs.Places.{place_at}

pub record CacheState : Type 0 where
  pub model : ModelValue
  pub setting : Setting
  pub attached : Bool

-- an empty model, and no solver attached
abbrev pub start : Setting → CacheState
start setting = record { model = empty_model; setting = setting; attached = false }

abbrev pub with_model : CacheState → ModelValue → CacheState
with_model s model = record s { model = model }

abbrev pub with_table : CacheState → Table → CacheState
with_table s table = record s { setting = record s.setting { table = table } }

abbrev pub attached : CacheState → CacheState
attached s = record s { attached = true }

abbrev pub detached : CacheState → CacheState
detached s = record s { attached = false }

-- ---- what a solver holds that is attached in a state

-- the fresh bridging of the model by the table, in which every number fits
pub record Bridging (s : CacheState) : Type 0 where
  pub bridging : FreshBridging s.setting s.model
  pub made : is_made bridging ≡ true

abbrev pub leaves : {s : CacheState} → Bridging s → LeafModel
leaves b = leaves_of b.bridging

-- at this number of addresses the solver's model changes from one state to another
pub record ChangesLeaves (old new : CacheState) (n : ℕ) : Type 0 where
  pub before : Bridging old
  pub after : Bridging new
  pub counts : Counts (leaves before) (leaves after) n

-- the solver's model has this number of leaves
pub record HasLeaves (s : CacheState) (n : ℕ) : Type 0 where
  pub bridging : Bridging s
  pub counts : Counts no_leaves (leaves bridging) n

-- in the fresh bridging a number doesn't fit, first at the place
pub record OverflowsAt (s : CacheState) (place : Place) : Type 0 where
  pub at : Address
  pub bridging : FreshBridging s.setting s.model
  pub unfit : unfit_at bridging ≡ Some at
  pub told : place_at s.model at ≡ Some place
