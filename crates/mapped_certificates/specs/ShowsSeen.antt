-- What a certificate shows of a model with rows in sets that are seen through maps: of its feasible
-- points alone.
--     ShowsSeen groups rows objective c      by the rows as they are seen
--     ShowsMapped model uses c               of a model some of whose rows are mapped
use Rattle.std.specs.Prelude.{◌≡◌, List}
use Rattle.ratio_core.specs.Rational.{Rational}
use Rattle.aff_core.specs.Function.{value_of}
use Rattle.user_model.specs.declared.group.Group.{Group}
use Rattle.user_model.specs.declared.objective.Objective.{Objective}
use Rattle.user_model.specs.Model.{ModelValue}
use Rattle.certificates.specs.declared.certificate.Certificate.{Certificate}
use Rattle.certificates.specs.declared.certificate.Certificate.TheVariants.{Optimal, Infeasible, Unbounded}
use Rattle.certificates.specs.Feasible.{IsBetter}
use Rattle.certificates.specs.Points.{objective_function, sense_of}
use Rattle.mapped_certificates.specs.GoodSeen.{Use, rows_seen}
use Rattle.mapped_certificates.specs.Seen.{IsFeasibleSeen, point_at}
use Rattle.mapped_certificates.specs.SeenRow.{SeenRow}

-- the objective at a point
abbrev pub value_seen : List Group → Objective → List Rational → Rational
value_seen groups objective x = value_of (objective_function objective) (point_at groups x)

module _ (groups : List Group) (rows : List SeenRow) (objective : Objective) where
  -- the point is feasible and has this value, and no feasible point has a better one
  pub record IsBestSeen (value : Rational) (x : List Rational) : Type 0 where
    pub feasible : IsFeasibleSeen groups rows x
    pub reached : value ≡ value_seen groups objective x
    pub best : (y : List Rational) → IsFeasibleSeen groups rows y
        → ¬ (IsBetter (sense_of objective) (value_seen groups objective y) value)

  -- a feasible point whose value is better than b
  pub record HasBetterSeen (b : Rational) : Type 0 where
    pub point : List Rational
    pub feasible : IsFeasibleSeen groups rows point
    pub better : IsBetter (sense_of objective) (value_seen groups objective point) b

  abbrev pub ShowsSeen : Certificate → Type 0
  ShowsSeen (Optimal value x duals vars) = IsBestSeen value x
  ShowsSeen (Infeasible gap duals vars) = (y : List Rational) → ¬ (IsFeasibleSeen groups rows y)
  ShowsSeen (Unbounded x d) = (b : Rational) → HasBetterSeen b

abbrev pub ShowsMapped : ModelValue → List Use → Certificate → Type 0
ShowsMapped model uses c =
    ShowsSeen model.groups (rows_seen model.rows uses) model.objective c
