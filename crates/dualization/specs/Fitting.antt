-- What of the dual of a model fits in the numbers that are kept. Its objective is summed from the
-- left: first each row's bounds less its constants, and then the model is moved, one variable after
-- another, to the one bound that each creation set has. What a point is carried to is summed as it
-- is checked.
use Rattle.std.specs.Prelude.{◌≡◌, ◌⊎◌, ℕ, List, [], ◌∷◌, drop, flat_map, map, take, Option, Some, None}
use Rattle.std.specs.Option.{option_map_or}
use Rattle.ratio_core.specs.Rational.{Rational, Fits, SumFits, neg_ℚ, zero_ℚ, ◌*ℚ◌, ◌+ℚ◌}
use Rattle.rational_laws.specs.Dot.{minus, times}
use Rattle.aff_core.specs.Address.{Address}
use Rattle.aff_core.specs.Function.{coefficient}
use Rattle.aff_core.specs.FunctionLists.{constants}
use Rattle.aff_core.specs.Terms.{StepFits}
use Rattle.set_core.specs.declared.set.Set.{Set}
use Rattle.set_core.specs.declared.set.Set.TheVariants.{EqualTo, GreaterThan, Interval, LessThan}
use Rattle.set_core.specs.Vectors.{first_of, others_of}
use Rattle.user_model.specs.declared.group.Group.{Group}
use Rattle.user_model.specs.declared.group.GroupVar.{GroupVar}
use Rattle.user_model.specs.declared.objective.Objective.{Objective}
use Rattle.user_model.specs.declared.row.Row.{Row}
use Rattle.user_model.specs.Model.{ModelValue}
use Rattle.certificates.specs.Points.{address_of, functions_of, objective_function}
use Rattle.certificates.specs.Duals.{rows_with}
use Rattle.cert_core.specs.Folds.{AddUp, ReducedCostFits, adjoint_parts}
use Rattle.dual_parts.specs.Parts.{bounds_on, on_parts}
use Rattle.dual_model.specs.Carried.{part_size}
use Rattle.dual_model.specs.DualOf.{column_in, row_size}
use Rattle.dualization.specs.declared.sums.Sums.{Sums}

-- ---- the objective of the dual: rows

-- what is at equal places can be subtracted
abbrev pub EachDifferenceFits : List Rational → List Rational → Type 0
EachDifferenceFits [] qs = Unit {0}
EachDifferenceFits (p ∷ ps) [] = Unit {0}
EachDifferenceFits (p ∷ ps) (q ∷ qs) = SumFits p (neg_ℚ q) × EachDifferenceFits ps qs

abbrev pub row_bounds : Row → List Rational
row_bounds r = bounds_on r.set (row_size r)

abbrev pub row_constants : Row → List Rational
row_constants r = on_parts r.set (constants (functions_of r.func))

-- a row's bounds less its constants
abbrev pub row_start : Row → List Rational
row_start r = minus (row_bounds r) (row_constants r)

abbrev pub RowBoundsFit : Row → Type 0
RowBoundsFit r = EachDifferenceFits (row_bounds r) (row_constants r)

abbrev pub AllBoundsFit : List Row → Type 0
AllBoundsFit [] = Unit {0}
AllBoundsFit (r ∷ rows) = RowBoundsFit r × AllBoundsFit rows

-- the first row whose bounds less its constants don't fit has the name
abbrev pub FirstBounds : List Row → List ℕ → Type 0
FirstBounds [] name = ⊥
FirstBounds (r ∷ rows) name =
    ((¬ (RowBoundsFit r)) × (name ≡ r.name)) ⊎ (RowBoundsFit r × FirstBounds rows name)

-- ---- variables that are moved

-- the bound of a set of numbers with one
abbrev pub lone_bound : Set → Option Rational
lone_bound (LessThan u) = Some u
lone_bound (GreaterThan l) = Some l
lone_bound (EqualTo a) = Some a
lone_bound set = None

abbrev pub moves_to : List GroupVar → Rational → List (GroupVar × Rational)
moves_to vars u = map (λ v. (v, u)) vars

-- each variable of the group, and the bound that it is moved to
abbrev pub own_moves : Group → List (GroupVar × Rational)
own_moves g = option_map_or (moves_to g.vars) (lone_bound g.set) []

abbrev pub moves : List Group → List (GroupVar × Rational)
moves groups = flat_map own_moves groups

-- a multiple of the coefficients can be subtracted
abbrev pub MultipleFits : Rational → List Rational → List Rational → Type 0
MultipleFits u [] cs = Unit {0}
MultipleFits u (p ∷ ps) [] = Unit {0}
MultipleFits u (p ∷ ps) (c ∷ cs) =
    (Fits (u *ℚ c) × SumFits p (neg_ℚ (u *ℚ c))) × MultipleFits u ps cs

module _ (rows : List Row) (objective : Objective) where
  abbrev pub cost_at : GroupVar → Rational
  cost_at v = coefficient (objective_function objective) (address_of v)

  abbrev pub column_at : GroupVar → List Rational
  column_at v = column_in rows (address_of v)

  -- the constant and what each variable of the rows' duals counts, as a variable is moved
  abbrev pub after_move : GroupVar × Rational → Sums → Sums
  after_move m s = record {
    constant = s.constant +ℚ cost_at m.0 *ℚ m.1;
    parts = minus s.parts (times m.1 (column_at m.0));
  }

  pub record MoveFits (m : GroupVar × Rational) (s : Sums) : Type 0 where
    pub constant : StepFits s.constant (cost_at m.0) m.1
    pub parts : MultipleFits m.1 s.parts (column_at m.0)

  abbrev pub after_moves : List (GroupVar × Rational) → Sums → Sums
  after_moves [] s = s
  after_moves (m ∷ ms) s = after_moves ms (after_move m s)

  abbrev pub MovesFit : List (GroupVar × Rational) → Sums → Type 0
  MovesFit [] s = Unit {0}
  MovesFit (m ∷ ms) s = MoveFits m s × MovesFit ms (after_move m s)

  -- the first move that exceeds 128 bits is of the variable with the name
  abbrev pub FirstMove : List (GroupVar × Rational) → Sums → List ℕ → Type 0
  FirstMove [] s name = ⊥
  FirstMove (m ∷ ms) s name =
      ((¬ (MoveFits m s)) × (name ≡ m.0.name))
      ⊎ (MoveFits m s × FirstMove ms (after_move m s) name)

  -- before any variable is moved
  abbrev pub start_sums : Sums
  start_sums = record {
    constant = (objective_function objective).constant;
    parts = flat_map row_start rows;
  }

-- ---- what a point is carried to

-- the sum of two parts
abbrev pub JoinFits : Set → List Rational → Type 0
JoinFits (Interval l u) ys = SumFits (first_of ys) (first_of (others_of ys))
JoinFits set ys = Unit {0}

abbrev pub JoinsFit : List Row → List Rational → Type 0
JoinsFit [] x = Unit {0}
JoinsFit (r ∷ rows) x = JoinFits r.set (take (part_size r) x) × JoinsFit rows (drop (part_size r) x)

-- the first row whose sum of two parts exceeds 128 bits has the name
abbrev pub FirstJoin : List Row → List Rational → List ℕ → Type 0
FirstJoin [] x name = ⊥
FirstJoin (r ∷ rows) x name =
    ((¬ (JoinFits r.set (take (part_size r) x))) × (name ≡ r.name))
    ⊎ (JoinFits r.set (take (part_size r) x) × FirstJoin rows (drop (part_size r) x) name)

module _ (model : ModelValue) (rows : List (List Rational)) where
  -- what the rows' duals leave for a variable
  abbrev pub LeftFits : Address → Type 0
  LeftFits v =
      AddUp zero_ℚ (adjoint_parts (rows_with rows model.rows) v) × ReducedCostFits model rows v

  -- the first of these variables for which it exceeds 128 bits has the name
  abbrev pub FirstLeft : List GroupVar → List ℕ → Type 0
  FirstLeft [] name = ⊥
  FirstLeft (v ∷ vars) name =
      ((¬ (LeftFits (address_of v))) × (name ≡ v.name))
      ⊎ (LeftFits (address_of v) × FirstLeft vars name)
