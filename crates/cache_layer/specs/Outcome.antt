-- What an optimise of a state answers, with an allowance of pivots: the first of these, in this
-- order. It depends on the model, the table with its families and the allowance alone.
--
-- The leaves of the fresh bridging make an equality form, which has too many cells, or of which a
-- right side doesn't fit; its trail by Bland's rule comes to a step that doesn't fit, or takes more
-- pivots than are allowed, or ends; what is read off its end, read back and carried back, fits or
-- not; and where all fits it is the certificate.
use Rattle.std.specs.Prelude.{◌≡◌, ◌-◌, ◌<◌, ◌≤◌, ◌^◌, ℕ, true, false, All, Some, Result, Ok, Err, min}
use Rattle.adjoint_core.specs.CarriedBack.{AllFits, IsFirstUnfitAddress}
use Rattle.aff_core.specs.Address.{Address}
use Rattle.bridged_report.specs.Places.{place_at}
use Rattle.certificates.specs.declared.certificate.Certificate.{Certificate}
use Rattle.equality_form.specs.EqualityForm.{cell_count, form_of_leaves}
use Rattle.equality_form.specs.Equations.{RightFits, equations}
use Rattle.equality_form.specs.ReadBack.{AnswerByAddress, AnswerFits, read_back}
use Rattle.leaf_model.specs.LeafModel.{LeafModel}
use Rattle.report_core.specs.Refused.{most_cells}
use Rattle.report_core.specs.declared.refused.Place.{Place}
use Rattle.report_core.specs.declared.refused.Place.TheVariants.{Solver}
use Rattle.simplex_core.specs.Answer.{IsReadOff}
use Rattle.simplex_core.specs.StdForm.{equality_form}
use Rattle.simplex_core.specs.declared.answer.SolverAnswer.{SolverAnswer}
use Rattle.simplex_form.specs.Basis as basis
use Rattle.simplex_form.specs.Form.{Form}
use Rattle.simplex_form.specs.TrailOutcome.{ended, limited, outcome, overflowing}
use Rattle.simplex_form.specs.declared.turn.Turn.{Turn}
use Rattle.tree_laws.specs.Certificate.{certificate_of}
use Rattle.cache_layer.specs.CacheState.{Bridging, CacheState, leaves}
use Rattle.cache_layer.specs.declared.fault.OptFault.{OptFault}
use Rattle.cache_layer.specs.declared.fault.OptFault.TheVariants.{Limit, Memory, NotAttached, Overflow, TooLarge}

-- ---- of a leaf model

abbrev pub form_in : LeafModel → Form
form_in model = equality_form (form_of_leaves model)

-- the form can be made
pub record IsFormMade (model : LeafModel) : Type 0 where
  pub cells : cell_count model ≤ most_cells
  pub rights : All RightFits (equations model)

-- the trail ends, and the answer is read off its end
pub record IsFormSolved (model : LeafModel) (pivots : ℕ) (answer : SolverAnswer) : Type 0 where
  pub made : IsFormMade model
  pub state : basis.BasisState
  pub turn : Turn
  pub ends : outcome (form_in model) pivots ≡ ended state turn
  pub read : IsReadOff (form_in model) state turn answer

-- it is read back as this answer
pub record IsReadBackAs (model : LeafModel) (pivots : ℕ) (answer : AnswerByAddress) : Type 0 where
  pub form_answer : SolverAnswer
  pub solved : IsFormSolved model pivots form_answer
  pub fits : AnswerFits model form_answer
  pub read : answer ≡ read_back model form_answer

-- or there is none
pub data Stops (model : LeafModel) (pivots : ℕ) : OptFault → Type 0 where
  too_large : most_cells < cell_count model
      → Stops model pivots (TooLarge (min (cell_count model) (2 ^ 64 - 1)))
  at_a_right_side : cell_count model ≤ most_cells → ¬ All RightFits (equations model)
      → Stops model pivots (Overflow Solver)
  at_a_pivot : IsFormMade model → (state : basis.BasisState)
      → outcome (form_in model) pivots ≡ overflowing state → Stops model pivots (Overflow Solver)
  out_of_pivots : IsFormMade model → (state : basis.BasisState)
      → outcome (form_in model) pivots ≡ limited state → Stops model pivots (Limit pivots)
  at_reading_back : (answer : SolverAnswer) → IsFormSolved model pivots answer
      → ¬ AnswerFits model answer → Stops model pivots (Overflow Solver)

-- ---- of a state to which a solver is attached

pub data Outcome {s : CacheState} (b : Bridging s)
    (pivots : ℕ) : Result Certificate OptFault → Type 0 where
  stopped : {fault : OptFault} → Stops (leaves b) pivots fault → Outcome b pivots (Err fault)
  at_carrying_back : (answer : AnswerByAddress) (at : Address) {place : Place}
      → IsReadBackAs (leaves b) pivots answer → IsFirstUnfitAddress b.bridging answer at
      → place_at s.model at ≡ Some place → Outcome b pivots (Err (Overflow place))
  answered : (answer : AnswerByAddress) → IsReadBackAs (leaves b) pivots answer
      → AllFits b.bridging answer
      → Outcome b pivots (Ok (certificate_of b.bridging answer))

-- ---- of any state

abbrev pub IsOptimized : CacheState → ℕ → Result Certificate OptFault → Type 0
IsOptimized s pivots (Err NotAttached) = s.attached ≡ false
IsOptimized s pivots (Err Memory) = s.attached ≡ true
IsOptimized s pivots result = (s.attached ≡ true) × ((b : Bridging s) × Outcome b pivots result)
