-- Points, rays and duals of a model by its groups and its rows, of which some are in sets that are seen
-- through maps.
use Rattle.std.specs.Prelude.{◌≡◌, List, [], ◌∷◌, All, length}
use Rattle.ratio_core.specs.Rational.{Rational, ◌+ℚ◌, ◌-ℚ◌}
use Rattle.rational_laws.specs.Dot.{dot}
use Rattle.rational_laws.specs.Sums.{sum_by_ℚ}
use Rattle.aff_core.specs.Address.{Address}
use Rattle.aff_core.specs.FunctionLists.{coefficients, constants, slopes, values}
use Rattle.aff_core.specs.Points.{spread}
use Rattle.dual_laws.specs.Held.{HasDuals, gap}
use Rattle.set_core.specs.Membership.{In, recession}
use Rattle.user_model.specs.declared.group.Group.{Group}
use Rattle.certificates.specs.Duals.{groups_with}
use Rattle.certificates.specs.Points.{all_addresses, functions_of, functions_of_group, variables_of}
use Rattle.mapped_certificates.specs.SeenRow.{DualSeen, InSeen, RecSeen, SeenRow, low_seen}

-- the number that a point has at an address
abbrev pub point_at : List Group → List Rational → Address → Rational
point_at groups x = spread (all_addresses groups) x

module _ (groups : List Group) (rows : List SeenRow) where
  -- each row's and each group's values are in its set
  pub record IsFeasibleSeen (x : List Rational) : Type 0 where
    pub size : length x ≡ length (variables_of groups)
    pub of_groups :
        All (λ g. In g.set (values (functions_of_group g) (point_at groups x))) groups
    pub of_rows : All (λ r. InSeen r (values (functions_of r.row.func) (point_at groups x))) rows

  -- each row's and each group's slopes are in the recession set of its set
  pub record IsRaySeen (d : List Rational) : Type 0 where
    pub size : length d ≡ length (variables_of groups)
    pub of_groups :
        All (λ g. In (recession g.set) (slopes (functions_of_group g) (point_at groups d))) groups
    pub of_rows : All (λ r. RecSeen r (slopes (functions_of r.row.func) (point_at groups d))) rows

-- ---- duals

-- a row with its duals
pub record SeenDual : Type 0 where
  pub duals : List Rational
  pub row : SeenRow

abbrev pub with_seen : List (List Rational) → List SeenRow → List SeenDual
with_seen [] rows = []
with_seen (y ∷ ys) [] = []
with_seen (y ∷ ys) (r ∷ rows) = record { duals = y; row = r } ∷ with_seen ys rows

-- a dual for each component, together in the dual of the set
pub record HasSeenDuals (h : SeenDual) : Type 0 where
  pub size : length h.duals ≡ length (functions_of h.row.row.func)
  pub dual : DualSeen h.row h.duals

-- the duals times the coefficients of a variable
abbrev pub adjoint_of_seen : SeenDual → Address → Rational
adjoint_of_seen h v = dot h.duals (coefficients (functions_of h.row.row.func) v)

-- the least product, less the duals times the constants
abbrev pub gap_of_seen : SeenDual → Rational
gap_of_seen h =
    low_seen h.row h.duals -ℚ dot h.duals (constants (functions_of h.row.row.func))

module _ (groups : List Group) (rows : List SeenRow) (duals : List (List Rational)) where
  -- over rows and components, a variable's coefficient times the dual
  abbrev pub adjoint_seen : Address → Rational
  adjoint_seen v = sum_by_ℚ (λ h. adjoint_of_seen h v) (with_seen duals rows)

  module _ (vars : List Rational) where
    -- over rows and groups, what each adds to the gap
    abbrev pub gap_seen : Rational
    gap_seen =
        sum_by_ℚ gap_of_seen (with_seen duals rows)
        +ℚ gap (groups_with (point_at groups vars) groups)

    -- duals for each row and each variable, in the dual sets
    pub record AreDualsSeen : Type 0 where
      pub each_row : length duals ≡ length rows
      pub each_variable : length vars ≡ length (variables_of groups)
      pub of_rows : All HasSeenDuals (with_seen duals rows)
      pub of_groups : All HasDuals (groups_with (point_at groups vars) groups)
