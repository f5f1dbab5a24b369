-- Certificates that show what they say, of a model with rows in sets that are seen through maps: as of
-- any model, with these sets in place of the rows' own.
use Rattle.std.specs.Prelude.{◌≡◌, ◌++◌, Bool, List, All, Some, None, bytes_eq, filter, map, not}
use Rattle.std.specs.List.{list_any}
use Rattle.ratio_core.specs.Rational.{Rational, zero_ℚ, ◌+ℚ◌, ◌‹ℚ◌}
use Rattle.aff_core.specs.Address.{Address}
use Rattle.aff_core.specs.Function.{coefficient, slope, value_of}
use Rattle.set_map.specs.MappedSet.{MappedSet}
use Rattle.user_model.specs.declared.group.Group.{Group}
use Rattle.user_model.specs.declared.objective.Objective.{Objective}
use Rattle.user_model.specs.declared.row.Row.{Row}
use Rattle.user_model.specs.Model.{ModelValue}
use Rattle.certificates.specs.declared.certificate.Certificate.{Certificate}
use Rattle.certificates.specs.declared.certificate.Certificate.TheVariants.{Optimal, Infeasible, Unbounded}
use Rattle.certificates.specs.Duals.{dual_value, reduced_cost}
use Rattle.certificates.specs.Feasible.{IsBetter}
use Rattle.certificates.specs.Points.{all_addresses, objective_function, sense_of}
use Rattle.mapped_certificates.specs.Seen.{AreDualsSeen, IsFeasibleSeen, IsRaySeen, adjoint_seen, gap_seen, point_at}
use Rattle.mapped_certificates.specs.SeenRow.{SeenRow}

module _ (groups : List Group) (rows : List SeenRow) (objective : Objective) where
  -- the dual of a variable is what the objective and the rows leave for it
  abbrev pub HasSeenCost : List (List Rational) → List Rational → Address → Type 0
  HasSeenCost duals vars v =
      point_at groups vars v
      ≡ reduced_cost (sense_of objective)
      (coefficient (objective_function objective) v) (adjoint_seen groups rows duals v)

  -- a feasible point and duals that have the same value
  pub record IsOptimalSeen (value : Rational) (x : List Rational)
      (duals : List (List Rational)) (vars : List Rational) : Type 0 where
    pub feasible : IsFeasibleSeen groups rows x
    pub are_duals : AreDualsSeen groups rows duals vars
    pub equations : All (HasSeenCost duals vars) (all_addresses groups)
    pub primal : value ≡ value_of (objective_function objective) (point_at groups x)
    pub dual : value
        ≡ dual_value (sense_of objective) (objective_function objective).constant
        (gap_seen groups rows duals vars)

  -- with the dual of the variable, the rows' duals come to nothing
  abbrev pub CancelsSeen : List (List Rational) → List Rational → Address → Type 0
  CancelsSeen duals vars v = adjoint_seen groups rows duals v +ℚ point_at groups vars v ≡ zero_ℚ

  -- duals that cancel at every variable, and yet have a gap
  pub record IsInfeasibleSeen (gap : Rational)
      (duals : List (List Rational)) (vars : List Rational) : Type 0 where
    pub are_duals : AreDualsSeen groups rows duals vars
    pub equations : All (CancelsSeen duals vars) (all_addresses groups)
    pub is_gap : gap ≡ gap_seen groups rows duals vars
    pub positive : zero_ℚ ‹ℚ gap

  -- a feasible point, and a ray along which the objective improves
  pub record IsUnboundedSeen (x d : List Rational) : Type 0 where
    pub feasible : IsFeasibleSeen groups rows x
    pub ray : IsRaySeen groups rows d
    pub improves : IsBetter (sense_of objective)
        (slope (objective_function objective) (point_at groups d)) zero_ℚ

  abbrev pub GoodSeen : Certificate → Type 0
  GoodSeen (Optimal value x duals vars) = IsOptimalSeen value x duals vars
  GoodSeen (Infeasible gap duals vars) = IsInfeasibleSeen gap duals vars
  GoodSeen (Unbounded x d) = IsUnboundedSeen x d

-- ---- a model some of whose rows are mapped

-- a row of the model, and the set that it is to be in
pub record Use : Type 0 where
  pub row : Row
  pub set : MappedSet

abbrev pub is_used : List Use → Row → Bool
is_used uses r = list_any (λ u. bytes_eq r.name u.row.name) uses

-- the rows that aren't used, and then the used ones in the order of the uses
abbrev pub rows_seen : List Row → List Use → List SeenRow
rows_seen rows uses =
    map (λ r. record { row = r; seen = None }) (filter (λ r. not (is_used uses r)) rows)
    ++ map (λ u. record { row = u.row; seen = Some u.set }) uses

abbrev pub GoodMapped : ModelValue → List Use → Certificate → Type 0
GoodMapped model uses c =
    GoodSeen model.groups (rows_seen model.rows uses) model.objective c
