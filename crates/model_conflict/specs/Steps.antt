-- The steps of a walk, as the code makes them.
use Rattle.std.specs.Prelude.{◌≡◌, ◌≤◌, ◌+◌, ℕ, true, List, [], ◌∷◌, ◌++◌, Result, Ok, Err}
use Rattle.cache_layer.specs.Outcome.{IsOptimized}
use Rattle.cache_layer.specs.CacheState.{CacheState}
use Rattle.cache_layer.specs.declared.fault.OptFault.{OptFault}
use Rattle.cache_layer.specs.declared.fault.OptFault.TheVariants.{Memory, NotAttached}
use Rattle.certificates.specs.declared.certificate.Certificate.TheVariants.{Optimal}
use Rattle.model_conflict.specs.Walk.{GivesGood, infeasible_by, rotated, with_last, with_rows}
use Rattle.model_conflict.specs.declared.optimizing.Duals.{Duals}
use Rattle.model_conflict.specs.declared.trials.Trial.{Trial}
use Rattle.model_conflict.specs.declared.trials.Walked.{Walked}
use Rattle.mof_laws.specs.EditLaws.{row_edit}
use Rattle.mof_write.specs.Written.{naming}
use Rattle.ratio_core.specs.Rational.{Rational}
use Rattle.user_model.specs.Limits.{LAST_NUMBER}
use Rattle.user_model.specs.Model.{ModelValue}
use Rattle.user_model.specs.declared.edit.Edit.TheVariants as edit
use Rattle.user_model.specs.declared.objective.Objective.TheVariants.{Feasibility}
use Rattle.user_model.specs.declared.row.Row.{Row}

-- this row is the first of the model, and these are the others
pub record IsFirstRow (model : ModelValue) (row : Row) (rest : List Row) : Type 0 where
  pub whole : model.rows ≡ row ∷ rest

-- the name of the first row, and the edits that delete it and add it again
pub record IsTrialOf (model : ModelValue) (row : Row) (trial : Trial) : Type 0 where
  pub name : trial.name ≡ row.name
  pub delete : trial.delete ≡ edit.DeleteRow row.name
  pub add : trial.add ≡ row_edit (naming model) row

-- a state of the walk: a solver is attached, there is no objective, and there is room for n further
-- row numbers
pub record CanWalk (s : CacheState) (n : ℕ) : Type 0 where
  pub attached : s.attached ≡ true
  pub bare : s.model.objective ≡ Feasibility
  pub room : s.model.next.row + n ≤ LAST_NUMBER + 1

-- a row more that is needed, by its name, with its point; it is the last one now, and so are its
-- duals
abbrev pub with_needed : Walked → List ℕ → List Rational → Walked
with_needed was name x = record {
  rows = was.rows ++ name ∷ [];
  points = was.points ++ x ∷ [];
  duals = rotated was.duals;
}

-- a row was tried: it is left out, or it is needed and is added again
pub data TriesFirst (old : CacheState) (pivots : ℕ) (row : Row) (rest : List Row) (was : Walked)
    : CacheState → Walked → Type 0 where
  left_out : (duals : Duals) → GivesGood (with_rows old rest) pivots (infeasible_by duals)
      → {new : CacheState} → new ≡ with_rows old rest
      → {now : Walked} → now ≡ record was { duals = duals }
      → TriesFirst old pivots row rest was new now
  needed : (value : Rational) (x : List Rational) (rows : List (List Rational))
      (vars : List Rational) → GivesGood (with_rows old rest) pivots (Optimal value x rows vars)
      → {new : CacheState} → new ≡ with_last (with_rows old rest) row
      → {now : Walked} → now ≡ with_needed was row.name x
      → TriesFirst old pivots row rest was new now

abbrev pub Tries : CacheState → ℕ → Row → List Row → Walked → Result Unit OptFault → CacheState
    → Walked
    → Type 0
Tries old pivots row rest was (Ok done) new now = TriesFirst old pivots row rest was new now
Tries old pivots row rest was (Err Memory) new now = Unit {0}
Tries old pivots row rest was (Err NotAttached) new now = ⊥
Tries old pivots row rest was (Err fault) new now =
    IsOptimized (with_rows old rest) pivots (Err fault)
