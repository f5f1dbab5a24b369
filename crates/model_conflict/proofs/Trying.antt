-- The edits by which a row is tried are accepted, their models are bridged, and they lead to the
-- states of the walk.
use Rattle.std.proofs.Common.{◌≡◌, ◌≤◌, ◌<◌, List, ◌∷◌, None, ap, arith, refl, subst, sym, ◌∙◌}
use Rattle.std.specs.Prelude.{All}
use Rattle.std.proofs.lemmas.List.Elements.{All-head, All-weaker}
use Rattle.aff_core.specs.Address.{Address}
use Rattle.aff_core.specs.Function.{Function, terms_of}
use Rattle.bridged_rows_laws.specs.BridgedRows.{HasFittingBridging, bridged_again, bridged_without}
use Rattle.bridged_rows_laws.specs.LaterNumbers.{HasVariableTerms, IsOfVariables, IsTerm, IsVariableAddress}
use Rattle.cache_layer.specs.CacheState.{Bridging, CacheState, with_model}
use Rattle.model_conflict.specs.Steps.{CanWalk, IsTrialOf, IsFirstRow}
use Rattle.model_conflict.specs.Walk.{with_last, with_rows}
use Rattle.model_conflict.specs.declared.trials.Trial.{Trial}
use Rattle.mof_laws.specs.VariableLaws.{HasVariableAt}
use Rattle.mof_round_trip_laws.specs.Functions.{HasTerms, HasVariable, IsPlaced}
use Rattle.row_again.specs.AddedAgain.{added, addition_accepted, this_placed}
use Rattle.row_again.specs.Deleted.{deleted, deletion_accepted}
use Rattle.user_model.specs.Edited.{edited}
use Rattle.user_model.specs.Limits.{LAST_NUMBER}
use Rattle.user_model.specs.Model.{ModelValue}
use Rattle.user_model.specs.Refusals.{first_refusal}
use Rattle.user_model.specs.Valid.{IsValid}
use Rattle.user_model.specs.declared.function.UserFunc.{UserFunc}
use Rattle.user_model.specs.declared.function.UserFunc.TheVariants.{Affine, AffineVec, Plain, PlainVec}
use Rattle.user_model.specs.declared.row.Row.{Row}

-- ---- a function whose variables stand is of variables

module _ (model : ModelValue) where
  is_variable : (at : Address) → HasVariableAt model at → IsVariableAddress at
  is_variable at h = (h.var.number, h.address)

  has_variables : (f : Function) → HasTerms model f → HasVariableTerms f
  has_variables f = All-weaker (HasVariable model) IsTerm (λ t h. is_variable t.0 h) (terms_of f)

  of_variables : (func : UserFunc) → IsPlaced model func → IsOfVariables func
  of_variables (Plain var) h = is_variable var h
  of_variables (Affine f) h = has_variables f h
  of_variables (PlainVec vars) h = All-weaker (HasVariableAt model) IsVariableAddress is_variable vars h
  of_variables (AffineVec fs) h = All-weaker (HasTerms model) HasVariableTerms has_variables fs h

-- ---- one trial

-- the first row is to be tried, by these edits
pub record IsReady (s : CacheState) (row : Row) (rest : List Row) (trial : Trial) : Type 0 where
  pub valid : IsValid s.model
  pub can : CanWalk s 1
  pub stands : Bridging s
  pub first : IsFirstRow s.model row rest
  pub is : IsTrialOf s.model row trial

module _ (s : CacheState) (row : Row) (rest : List Row) (trial : Trial)
    (ready : IsReady s row rest trial) where
  whole : s.model.rows ≡ row ∷ rest
  whole = ready.first.whole

  bridged : HasFittingBridging s.setting s.model
  bridged = record { bridging = ready.stands.bridging; made = ready.stands.made }

  pub deletes : first_refusal s.model trial.delete ≡ None
  deletes =
      ap (first_refusal s.model) ready.is.delete
      ∙ deletion_accepted s.model ready.valid row rest whole

  without : edited s.model trial.delete ≡ (with_rows s rest).model
  without = ap (edited s.model) ready.is.delete ∙ deleted s.model ready.valid row rest whole

  pub stands_without : Bridging (with_model s (edited s.model trial.delete))
  stands_without =
      let left : HasFittingBridging s.setting (with_rows s rest).model =
      bridged_without s.setting s.model ready.can.bare bridged row rest whole
      (with_rows s rest).model refl ready.can.bare refl in
      subst (λ m. Bridging (with_model s m)) (sym without)
      (record { bridging = left.bridging; made = left.made })

  pub state_without : (now : CacheState) → now ≡ with_model s (edited s.model trial.delete)
      → now ≡ with_rows s rest
  state_without now is_now = is_now ∙ ap (with_model s) without

  -- ---- and again

  room : s.model.next.row ≤ LAST_NUMBER
  room = let room = ready.can.room in omega (arith, room)

  again : edited (with_rows s rest).model trial.add ≡ (with_last (with_rows s rest) row).model
  again =
      ap (edited (with_rows s rest).model) ready.is.add
      ∙ added s.model ready.valid row rest whole

  low : row.id ≤ s.model.next.row
  low =
      let below : row.id < s.model.next.row =
      All-head (λ r. r.id < s.model.next.row) row rest
      (subst (All (λ r. r.id < s.model.next.row)) whole ready.valid.consistent.given_rows) in
      omega (arith, below)

  last_again : HasFittingBridging s.setting (with_last (with_rows s rest) row).model
  last_again =
      bridged_again s.setting s.model ready.can.bare bridged row rest whole
      (with_last (with_rows s rest) row).model refl ready.can.bare s.model.next.row low
      (of_variables s.model row.func (this_placed s.model ready.valid row rest whole)) refl

  module _ (now : CacheState) (is_now : now ≡ with_rows s rest) where
    pub adds : first_refusal now.model trial.add ≡ None
    adds =
        subst (λ (t : CacheState). first_refusal t.model trial.add ≡ None) (sym is_now)
        (ap (first_refusal (with_rows s rest).model) ready.is.add
        ∙ addition_accepted s.model ready.valid row rest whole room)

    pub stands_again : Bridging (with_model now (edited now.model trial.add))
    stands_again =
        subst (λ (t : CacheState). Bridging (with_model t (edited t.model trial.add))) (sym is_now)
        (subst (λ m. Bridging (with_model (with_rows s rest) m)) (sym again)
        (record { bridging = last_again.bridging; made = last_again.made }))

    pub state_again : (new : CacheState) → new ≡ with_model now (edited now.model trial.add)
        → new ≡ with_last (with_rows s rest) row
    state_again new is_new =
        is_new
        ∙ ap (λ (t : CacheState). with_model t (edited t.model trial.add)) is_now
        ∙ ap (with_model (with_rows s rest)) again
