-- The dual of a model, as a model.
--
-- Its variables hold the duals of the rows, in the order of the rows. A row with place k, counted
-- from 1, has yk_1, yk_2 and so on, one for each component, together in the dual of its set; the dual
-- of an interval is the sum yk_1 + zk_1 of two, at least 0 and at most 0. Its rows hold what the
-- objective and these duals leave for the variables of each group, in the dual of its creation set:
-- the row gk of the group with place k. Of an interval, two more variables pk_1 and qk_1 take up what
-- is left.
--
-- With each variable of the model moved to the one bound that its creation set has, the objective's
-- constant is the model's own value there, and the coefficient of a row's variable is its bound less
-- the row's value there.
use Rattle.std.specs.Prelude.{ℕ, zero, suc, ◌+◌, List, [], ◌∷◌, ◌++◌, decimal, flat_map, if◌then◌else◌, length, map}
use Rattle.ratio_core.specs.Rational.{Rational, neg_ℚ, one_ℚ, zero_ℚ}
use Rattle.rational_laws.specs.Dot.{minus, negated}
use Rattle.set_core.specs.declared.set.Set.{Set}
use Rattle.set_core.specs.declared.set.Set.TheVariants.{LessThan, GreaterThan, EqualTo, Interval, Zeros}
use Rattle.set_core.specs.Membership.{dual_of}
use Rattle.set_core.specs.Shapes.{is_scalar}
use Rattle.aff_core.specs.Address.{Address}
use Rattle.aff_core.specs.declared.sense.Sense.{Sense}
use Rattle.aff_core.specs.declared.sense.Sense.TheVariants.{Min, Max}
use Rattle.aff_core.specs.Function.{Function, function_of}
use Rattle.aff_core.specs.FunctionLists.{coefficients, values}
use Rattle.group_numbering.specs.NewGroups.{NewGroup, numbered_groups, terms_from, variable_count}
use Rattle.user_model.specs.declared.function.UserFunc.{UserFunc}
use Rattle.user_model.specs.declared.function.UserFunc.TheVariants.{Affine, AffineVec}
use Rattle.user_model.specs.declared.group.Group.{Group}
use Rattle.user_model.specs.declared.objective.Objective.{Objective}
use Rattle.user_model.specs.declared.objective.Objective.TheVariants as objective
use Rattle.user_model.specs.declared.row.Row.{Row}
use Rattle.user_model.specs.Model.{ModelValue}
use Rattle.certificates.specs.Points.{addresses_of, at_point, functions_of, objective_coefficient, objective_value, sense_of}
use Rattle.dual_parts.specs.Parts.{bounds_on, on_parts, own_bounds, shifts_on}

-- ---- names

-- a letter, the place of a row or group, and that of a component, as in y2_1
abbrev pub part_name : ℕ → ℕ → ℕ → List ℕ
part_name letter item component = letter ∷ decimal item ++ 95 ∷ decimal component

-- those of n components from the i-th on
abbrev pub part_names : ℕ → ℕ → ℕ → ℕ → List (List ℕ)
part_names letter item i zero = []
part_names letter item i (suc n) = part_name letter item i ∷ part_names letter item (suc i) n

-- ---- variables

-- two, at least 0 and at most 0, named by one letter each
abbrev pub two_groups : ℕ → ℕ → ℕ → List NewGroup
two_groups above below k =
    record { names = part_name above k 1 ∷ []; set = GreaterThan zero_ℚ }
    ∷ record { names = part_name below k 1 ∷ []; set = LessThan zero_ℚ } ∷ []

-- the variables of a row's n duals: y, and z for an interval
abbrev pub groups_for : ℕ → ℕ → Set → List NewGroup
groups_for k n (Interval l u) = two_groups 121 122 k
groups_for k n set = record { names = part_names 121 k 1 n; set = dual_of set } ∷ []

abbrev pub row_size : Row → ℕ
row_size r = length (functions_of r.func)

abbrev pub row_groups : ℕ → Row → List NewGroup
row_groups k r = groups_for k (row_size r) r.set

-- a group has variables of its own, p and q, only where it is in an interval
abbrev pub own_groups : ℕ → Set → List NewGroup
own_groups k (Interval l u) = two_groups 112 113 k
own_groups k set = []

abbrev pub group_groups : ℕ → Group → List NewGroup
group_groups k g = own_groups k g.set

-- what each item gives with its place, from place k on
abbrev pub each_placed : {X Y : Type 0} → (ℕ → X → List Y) → ℕ → List X → List Y
each_placed f k [] = []
each_placed f k (x ∷ xs) = f k x ++ each_placed f (suc k) xs

abbrev pub new_groups : ModelValue → List NewGroup
new_groups model = each_placed row_groups 1 model.rows ++ each_placed group_groups 1 model.groups

-- ---- functions of the variables

-- a function for a set of numbers, and for one of vectors
abbrev pub scalar_function : List Function → UserFunc
scalar_function (f ∷ []) = Affine f
scalar_function fs = AffineVec fs

abbrev pub function_in : Set → List Function → UserFunc
function_in set fs = if is_scalar set then scalar_function fs else AffineVec fs

-- ---- by the sense of the model

abbrev pub opposite : Sense → Sense
opposite Min = Max
opposite Max = Min

abbrev pub signed : Sense → Rational → Rational
signed Min q = q
signed Max q = neg_ℚ q

-- ---- the model at its bounds

-- each variable at the one bound of its creation set, or at 0
abbrev pub bound_numbers : List Group → List Rational
bound_numbers groups = flat_map (λ g. shifts_on g.set (length g.vars)) groups

abbrev pub at_bounds : ModelValue → Address → Rational
at_bounds model = at_point model (bound_numbers model.groups)

-- what the variables of a row count: their bounds, less the row's values
abbrev pub row_costs : (Address → Rational) → Row → List Rational
row_costs x r =
    minus (bounds_on r.set (row_size r)) (on_parts r.set (values (functions_of r.func) x))

abbrev pub costs : ModelValue → List Rational
costs model =
    flat_map (row_costs (at_bounds model)) model.rows
    ++ flat_map (λ g. own_bounds g.set) model.groups

-- ---- rows

-- the coefficients of a variable in the rows, one for each variable of the rows' duals
abbrev pub column_in : List Row → Address → List Rational
column_in rows v = flat_map (λ r. on_parts r.set (coefficients (functions_of r.func) v)) rows

module _ (model : ModelValue) where
  abbrev pub cost_of : Address → Rational
  cost_of v = signed (sense_of model.objective) (objective_coefficient model v)

  -- what the objective and the rows' duals leave for a variable
  abbrev pub left_for : Address → Function
  left_for v = function_of (terms_from 0 (negated (column_in model.rows v))) (cost_of v)

  -- the same less two variables, from the n-th on
  abbrev pub left_less_two : ℕ → Address → Function
  left_less_two n v =
      function_of (terms_from 0 (negated (column_in model.rows v))
      ++ terms_from n (neg_ℚ one_ℚ ∷ neg_ℚ one_ℚ ∷ [])) (cost_of v)

  -- the row of the group with place k, whose own variables are those from the n-th on; any dual is
  -- in the dual set of a number and of zeros
  abbrev pub row_for : ℕ → ℕ → ℕ → List Address → Set → List Row
  row_for id k n vs (EqualTo a) = []
  row_for id k n vs (Zeros d) = []
  row_for id k n vs (Interval l u) = record {
    id = id;
    name = 103 ∷ decimal k;
    func = function_in (EqualTo zero_ℚ) (map (left_less_two n) vs);
    set = EqualTo zero_ℚ;
  } ∷ []
  row_for id k n vs set = record {
    id = id;
    name = 103 ∷ decimal k;
    func = function_in (dual_of set) (map left_for vs);
    set = dual_of set;
  } ∷ []

  abbrev pub group_rows : ℕ → ℕ → ℕ → List Group → List Row
  group_rows id k n [] = []
  group_rows id k n (g ∷ gs) =
      let rows = row_for id k n (addresses_of g.vars) g.set in
      rows ++ group_rows (id + length rows) (suc k) (n + length (own_bounds g.set)) gs

  -- how many variables the rows' duals have
  abbrev pub row_variables : ℕ
  row_variables = variable_count (each_placed row_groups 1 model.rows)

  abbrev pub dual_rows : List Row
  dual_rows = group_rows 0 1 row_variables model.groups

  -- ---- the dual

  abbrev pub dual_objective_of : Objective
  dual_objective_of =
      objective.Affine (opposite (sense_of model.objective))
      (function_of (terms_from 0 (map (signed (sense_of model.objective)) (costs model)))
      (objective_value model (bound_numbers model.groups)))

  abbrev pub dual_of_model : ModelValue
  dual_of_model = record {
    groups = numbered_groups 0 0 (new_groups model);
    rows = dual_rows;
    objective = dual_objective_of;
    next = record {
      group = length (new_groups model);
      variable = variable_count (new_groups model);
      row = length dual_rows;
    };
  }
