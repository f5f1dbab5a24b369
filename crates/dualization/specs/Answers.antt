-- What `dual` and `carry` answer.
use Rattle.std.specs.Prelude.{◌≡◌, List, All, Result, Ok, Err}
use Rattle.ratio_core.specs.Rational.{Rational}
use Rattle.report_core.specs.declared.refused.Place.{Place}
use Rattle.report_core.specs.declared.refused.Place.TheVariants as place
use Rattle.user_model.specs.declared.edit.Edit.{Edit}
use Rattle.user_model.specs.declared.row.Row.{Row}
use Rattle.user_model.specs.Model.{ModelValue, variables}
use Rattle.certificates.specs.Points.{addresses_of}
use Rattle.dual_model.specs.Carried.{carried_rows, carried_variables}
use Rattle.dualization.specs.declared.carrying.Carried.{Carried}
use Rattle.dualization.specs.declared.fault.DualFault.{DualFault}
use Rattle.dualization.specs.declared.fault.DualFault.TheVariants as fault
use Rattle.dualization.specs.DualEdits.{dual_edits}
use Rattle.dualization.specs.Fitting.{AllBoundsFit, FirstBounds, FirstJoin, FirstLeft, FirstMove, JoinsFit, LeftFits, MovesFit, moves, start_sums}

-- ---- the dual

module _ (model : ModelValue) where
  -- the rows' bounds less their constants fit, and so does each move
  pub record CostsFit : Type 0 where
    pub rows : AllBoundsFit model.rows
    pub moves : MovesFit model.rows model.objective (moves model.groups)
        (start_sums model.rows model.objective)

  -- at the first row that exceeds 128 bits, or else at the first variable that can't be moved
  abbrev pub IsUnfit : Place → Type 0
  IsUnfit (place.Row name) = FirstBounds model.rows name
  IsUnfit (place.Var name) =
      AllBoundsFit model.rows
      × FirstMove model.rows model.objective (moves model.groups)
      (start_sums model.rows model.objective) name
  IsUnfit _ = ⊥

  abbrev pub IsDual : Result (List Edit) DualFault → Type 0
  IsDual (Ok edits) = CostsFit × (edits ≡ dual_edits model)
  IsDual (Err (fault.Overflow at)) = IsUnfit at
  IsDual (Err fault.Memory) = Unit {0}

-- ---- what a point is carried to

-- why the duals of rows can't be joined
abbrev pub IsJoinFault : List Row → List Rational → DualFault → Type 0
IsJoinFault rows x (fault.Overflow (place.Row name)) = FirstJoin rows x name
IsJoinFault rows x (fault.Overflow _) = ⊥
IsJoinFault rows x fault.Memory = Unit {0}

module _ (model : ModelValue) (x : List Rational) where
  -- the duals that the point is carried to, each sum of which fits
  pub record IsCarried (carried : Carried) : Type 0 where
    pub joins : JoinsFit model.rows x
    pub left : All (LeftFits model (carried_rows model.rows x)) (addresses_of (variables model))
    pub rows : carried.rows ≡ carried_rows model.rows x
    pub vars : carried.vars ≡ carried_variables model (carried_rows model.rows x)

  -- at the first row that can't be joined, or else at the first variable for which what is left
  -- doesn't fit
  abbrev pub IsUncarried : Place → Type 0
  IsUncarried (place.Row name) = FirstJoin model.rows x name
  IsUncarried (place.Var name) =
      JoinsFit model.rows x × FirstLeft model (carried_rows model.rows x) (variables model) name
  IsUncarried _ = ⊥

  abbrev pub CarriesPoint : Result Carried DualFault → Type 0
  CarriesPoint (Ok carried) = IsCarried carried
  CarriesPoint (Err (fault.Overflow at)) = IsUncarried at
  CarriesPoint (Err fault.Memory) = Unit {0}
