-- What shows why a model has no feasible point: a conflict is a list of its rows that can't hold
-- together, none of which can be left out. So it is irreducible: for each of its rows there is a
-- point that meets all others.
use Rattle.std.specs.Prelude.{◌≡◌, List, [], ◌∷◌, ◌++◌, map}
use Rattle.certificates.specs.Feasible.{IsFeasible}
use Rattle.certificates.specs.Good.{Good}
use Rattle.certificates.specs.declared.certificate.Certificate.{Certificate}
use Rattle.certificates.specs.declared.certificate.Certificate.TheVariants.{Infeasible, Optimal, Unbounded}
use Rattle.model_conflict.specs.declared.found.Found.{Found}
use Rattle.model_conflict.specs.declared.found.Found.TheVariants.{Conflict, Feasible}
use Rattle.ratio_core.specs.Rational.{Rational}
use Rattle.user_model.specs.Model.{ModelValue}
use Rattle.user_model.specs.declared.objective.Objective.TheVariants.{Feasibility}
use Rattle.user_model.specs.declared.row.Row.{Row}

-- the model with these rows alone, and without an objective
abbrev pub with_rows_alone : ModelValue → List Row → ModelValue
with_rows_alone model rows = record model { rows = rows; objective = Feasibility }

-- some items of a list, in its order
pub data IsSublist {X : Type 0} : List X → List X → Type 0 where
  none : IsSublist [] []
  taken : {x : X} {some all : List X} → IsSublist some all → IsSublist (x ∷ some) (x ∷ all)
  left : {x : X} {some all : List X} → IsSublist some all → IsSublist some (x ∷ all)

-- a row of a conflict, with a point that is to meet all others of it
pub record NeededRow : Type 0 where
  pub row : Row
  pub point : List Rational

abbrev pub rows_of : List NeededRow → List Row
rows_of kept = map (λ k. k.row) kept

-- each row's point meets the rows before it and those after it
abbrev pub EachIsNeeded : ModelValue → List Row → List NeededRow → Type 0
EachIsNeeded model before [] = Unit {0}
EachIsNeeded model before (k ∷ kept) =
    IsFeasible (with_rows_alone model (before ++ rows_of kept)) k.point
    × EachIsNeeded model (before ++ k.row ∷ []) kept

abbrev pub IsInfeasibility : Certificate → Type 0
IsInfeasibility (Optimal value x rows vars) = ⊥
IsInfeasibility (Infeasible gap rows vars) = Unit {0}
IsInfeasibility (Unbounded x d) = ⊥

-- rows of the model, in its order, that have a good certificate of infeasibility; and whichever of
-- them is left out, the others have a feasible point
pub record IsConflict (model : ModelValue) (kept : List NeededRow)
    (certificate : Certificate) : Type 0 where
  pub some : IsSublist (rows_of kept) model.rows
  pub infeasible : IsInfeasibility certificate
  pub good : Good (with_rows_alone model (rows_of kept)) certificate
  pub without : EachIsNeeded model [] kept

-- a conflict as it is reported: its rows by their names
abbrev pub conflict_of : List NeededRow → Certificate → Found
conflict_of kept certificate =
    Conflict (map (λ r. r.name) (rows_of kept)) certificate (map (λ k. k.point) kept)

-- what is found is a feasible point, or a conflict
abbrev pub ShowsFound : ModelValue → Found → Type 0
ShowsFound model (Feasible x) = IsFeasible model x
ShowsFound model (Conflict names certificate points) =
    (kept : List NeededRow) × IsConflict model kept certificate
    × (Conflict names certificate points ≡ conflict_of kept certificate)
