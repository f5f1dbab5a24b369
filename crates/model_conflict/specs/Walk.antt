-- How a conflict is found (the deletion filter): the rows are tried one after another, each by the
-- model without it. Where that has no feasible point, the row is left out for good. Where it has one,
-- the row is needed, and is added again, last. So the next row to be tried is always the first, and
-- once each was tried, the rows that are needed are in their old order.
--
--     Walks pivots n s duals end     n rows are still to be tried of a state whose model has these
--                                    duals of an infeasibility certificate
--     Finds s pivots result          what is found of the whole model, by a walk over all its rows
--                                    where it has no feasible point
use Rattle.std.specs.Prelude.{◌≡◌, ◌⊎◌, ℕ, suc, List, [], ◌∷◌, Result, Ok, Err, length, map}
use Rattle.cache_layer.specs.Outcome.{IsOptimized}
use Rattle.cache_layer.specs.CacheState.{CacheState, with_model}
use Rattle.cache_layer.specs.declared.fault.OptFault.{OptFault}
use Rattle.cache_layer.specs.declared.fault.OptFault.TheVariants.{Memory, NotAttached}
use Rattle.certificates.specs.Good.{Good}
use Rattle.certificates.specs.declared.certificate.Certificate.{Certificate}
use Rattle.certificates.specs.declared.certificate.Certificate.TheVariants.{Infeasible, Optimal}
use Rattle.conflict_laws.specs.Rotated.{rotated_list}
use Rattle.model_conflict.specs.Conflict.{NeededRow, conflict_of}
use Rattle.model_conflict.specs.declared.optimizing.Duals.{Duals}
use Rattle.model_conflict.specs.declared.found.Found.{Found}
use Rattle.model_conflict.specs.declared.found.Found.TheVariants.{Conflict, Feasible}
use Rattle.ratio_core.specs.Rational.{Rational}
use Rattle.user_model.specs.Edited.{add_row}
use Rattle.user_model.specs.Model.{ModelValue}
use Rattle.user_model.specs.declared.row.Row.{Row}

-- ---- answers

-- an optimise of the state gives this certificate, and it is good
pub record GivesGood (s : CacheState) (pivots : ℕ) (certificate : Certificate) : Type 0 where
  pub outcome : IsOptimized s pivots (Ok certificate)
  pub good : Good s.model certificate

-- the certificate of duals, the rows' in the order of the rows
abbrev pub infeasible_by : Duals → Certificate
infeasible_by duals = Infeasible duals.gap duals.rows duals.vars

-- the first row's duals last
abbrev pub rotated : Duals → Duals
rotated duals = record duals { rows = rotated_list duals.rows }

-- ---- models

abbrev pub with_rows : CacheState → List Row → CacheState
with_rows s rows = with_model s (record s.model { rows = rows })

-- the row once more, last and under the next number
abbrev pub with_last : CacheState → Row → CacheState
with_last s row = with_model s (add_row s.model row.name row.func row.set)

-- ---- the walk

-- the rows that are needed, each with its point, and the duals of them all; or why an optimise
-- gives no certificate
abbrev pub WalkEnd : Type 0
WalkEnd = Result (List NeededRow × Duals) OptFault

abbrev pub with_kept : NeededRow → WalkEnd → WalkEnd
with_kept k (Ok (kept, duals)) = Ok (k ∷ kept, duals)
with_kept k (Err fault) = Err fault

pub data Walks (pivots : ℕ) : ℕ → CacheState → Duals → WalkEnd → Type 0 where
  ended : {s : CacheState} {duals : Duals} → Walks pivots 0 s duals (Ok ([], duals))
  left_out : {n : ℕ} {s : CacheState} {duals : Duals} {end : WalkEnd} {row : Row} {rest : List Row}
      → s.model.rows ≡ row ∷ rest → (others : Duals)
      → GivesGood (with_rows s rest) pivots (infeasible_by others)
      → Walks pivots n (with_rows s rest) others end → Walks pivots (suc n) s duals end
  needed : {n : ℕ} {s : CacheState} {duals : Duals} {end : WalkEnd} {row : Row} {rest : List Row}
      → s.model.rows ≡ row ∷ rest
      → (value : Rational) (x : List Rational) (rows : List (List Rational))
      → (vars : List Rational)
      → GivesGood (with_rows s rest) pivots (Optimal value x rows vars)
      → Walks pivots n (with_last (with_rows s rest) row) (rotated duals) end
      → Walks pivots (suc n) s duals (with_kept (record { row = row; point = x }) end)
  stopped : {n : ℕ} {s : CacheState} {duals : Duals} {row : Row} {rest : List Row}
      → s.model.rows ≡ row ∷ rest → {fault : OptFault}
      → IsOptimized (with_rows s rest) pivots (Err fault)
      → Walks pivots (suc n) s duals (Err fault)

-- ---- from the whole model on

-- the model has no feasible point, and the walk over all its rows ends so
pub record WalksAll (s : CacheState) (pivots : ℕ) (end : WalkEnd) : Type 0 where
  pub duals : Duals
  pub first : GivesGood s pivots (infeasible_by duals)
  pub walks : Walks pivots (length s.model.rows) s duals end

-- the conflict that a walk ends with
abbrev pub found_as : List NeededRow × Duals → Found
found_as all = conflict_of all.0 (infeasible_by all.1)

-- a fault is that of the first optimise that gives no certificate, and a solver is attached
abbrev pub Finds : CacheState → ℕ → Result Found OptFault → Type 0
Finds s pivots (Ok (Feasible x)) =
    (value : Rational) × (rows : List (List Rational)) × (vars : List Rational)
    × GivesGood s pivots (Optimal value x rows vars)
Finds s pivots (Ok (Conflict names certificate points)) =
    (all : List NeededRow × Duals) × WalksAll s pivots (Ok all)
    × (Conflict names certificate points ≡ found_as all)
Finds s pivots (Err Memory) = Unit {0}
Finds s pivots (Err NotAttached) = ⊥
Finds s pivots (Err fault) = IsOptimized s pivots (Err fault) ⊎ WalksAll s pivots (Err fault)

-- ---- what the code that walks says

-- the walk ends so from these duals on
abbrev pub FindsFrom : CacheState → ℕ → Duals → Result Found OptFault → Type 0
FindsFrom s pivots duals (Ok found) =
    (all : List NeededRow × Duals) × Walks pivots (length s.model.rows) s duals (Ok all)
    × (found ≡ found_as all)
FindsFrom s pivots duals (Err Memory) = Unit {0}
FindsFrom s pivots duals (Err NotAttached) = ⊥
FindsFrom s pivots duals (Err fault) = Walks pivots (length s.model.rows) s duals (Err fault)

-- the rows of a conflict are those of the model, by their names
abbrev pub NamesRows : ModelValue → Found → Type 0
NamesRows model (Feasible x) = Unit {0}
NamesRows model (Conflict names certificate points) = names ≡ map (λ r. r.name) model.rows
