-- What a check multiplies and adds: each product must fit, and each step of each sum, which is
-- made from the left.
--     AddUp            numbers, added to another one after the other
--     adjoint_parts    what rows add to the adjoint of a variable: its coefficients times the duals
--     gap_parts        what rows and groups add to the gap: the least product, and less the duals
--                      times the constants
use Rattle.std.specs.Prelude.{List, [], ◌∷◌, flat_map, map, All}
use Rattle.ratio_core.specs.Rational.{Rational, Fits, SumFits, neg_ℚ, one_ℚ, zero_ℚ, ◌*ℚ◌, ◌+ℚ◌}
use Rattle.rational_laws.specs.Dot.{negated}
use Rattle.aff_core.specs.Address.{Address}
use Rattle.aff_core.specs.declared.sense.Sense.{Sense}
use Rattle.aff_core.specs.declared.sense.Sense.TheVariants.{Min, Max}
use Rattle.aff_core.specs.Function.{Function, terms_of}
use Rattle.aff_core.specs.FunctionLists.{coefficients, constants, evaluations}
use Rattle.dual_laws.specs.Held.{DualRow}
use Rattle.set_core.specs.declared.set.Set.{Set}
use Rattle.set_core.specs.Membership.{DualFits, MembershipFits, low_of}
use Rattle.user_model.specs.Model.{ModelValue, variables}
use Rattle.certificates.specs.declared.certificate.Certificate.{Certificate}
use Rattle.certificates.specs.declared.certificate.Certificate.TheVariants.{Optimal, Infeasible, Unbounded}
use Rattle.certificates.specs.Points.{addresses_of, at_point, functions_of, functions_of_group, objective_coefficient, objective_constant, objective_function, sense_of}
use Rattle.certificates.specs.Duals.{adjoint_of_rows, dual_gap, rows_with, with_duals}

-- ---- sums

-- the numbers fit, and so does each sum as they are added to another
unfoldable pub AddUp : Rational → List Rational → Type 0
AddUp sum [] = Unit {0}
AddUp sum (q ∷ qs) = Fits q × SumFits sum q × AddUp (sum +ℚ q) qs

-- the products of what stands at equal places
abbrev pub products : List Rational → List Rational → List Rational
products [] v = []
products (p ∷ w) [] = []
products (p ∷ w) (q ∷ v) = p *ℚ q ∷ products w v

abbrev pub adjoint_parts_of : DualRow → Address → List Rational
adjoint_parts_of h v = products h.duals (coefficients h.functions v)

abbrev pub adjoint_parts : List DualRow → Address → List Rational
adjoint_parts hs v = flat_map (λ h. adjoint_parts_of h v) hs

abbrev pub gap_parts_of : DualRow → List Rational
gap_parts_of h = low_of h.set h.duals ∷ negated (products h.duals (constants h.functions))

abbrev pub gap_parts : List DualRow → List Rational
gap_parts hs = flat_map gap_parts_of hs

-- ---- functions in sets, at a point where `one` is 1, and along a ray where it is 0

-- each coefficient times its variable's number
abbrev pub products_at : List (Address × Rational) → (Address → Rational) → List Rational
products_at ts x = map (λ t. t.1 *ℚ x t.0) ts

-- these, added to the constant
abbrev pub EvaluationFits : Rational → Function → (Address → Rational) → Type 0
EvaluationFits one f x = AddUp (one *ℚ f.constant) (products_at (terms_of f) x)

-- each of the functions, and the sum of a norm
pub record FitIn (one : Rational) (set : Set) (fs : List Function)
    (x : Address → Rational) : Type 0 where
  pub functions : All (λ f. EvaluationFits one f x) fs
  pub membership : MembershipFits set (evaluations one fs x)

-- ---- by the sense

abbrev pub CostFits : Sense → Rational → Rational → Type 0
CostFits Min cost adjoint = SumFits cost (neg_ℚ adjoint)
CostFits Max cost adjoint = SumFits cost adjoint

abbrev pub DualValueFits : Sense → Rational → Rational → Type 0
DualValueFits Min constant gap = SumFits constant gap
DualValueFits Max constant gap = SumFits constant (neg_ℚ gap)

-- ---- a model's

module _ (model : ModelValue) where
  -- the rows' functions in their sets, and the groups' variables
  pub record PointFits (one : Rational) (x : List Rational) : Type 0 where
    pub rows : All (λ r. FitIn one r.set (functions_of r.func) (at_point model x)) model.rows
    pub groups :
        All (λ g. MembershipFits g.set (evaluations one (functions_of_group g) (at_point model x)))
        model.groups

  -- the objective
  abbrev pub ObjectiveValueFits : Rational → List Rational → Type 0
  ObjectiveValueFits one x =
      EvaluationFits one (objective_function model.objective) (at_point model x)

  -- the duals in their sets, the rows' adjoint of each variable, and the gap
  pub record DualsFit (rows : List (List Rational)) (vars : List Rational) : Type 0 where
    pub sets : All (λ h. DualFits h.set h.duals) (with_duals model rows vars)
    pub adjoint :
        All (λ v. AddUp zero_ℚ (adjoint_parts (rows_with rows model.rows) v))
        (addresses_of (variables model))
    pub gap : AddUp zero_ℚ (gap_parts (with_duals model rows vars))

  -- what is left for a variable's dual
  abbrev pub ReducedCostFits : List (List Rational) → Address → Type 0
  ReducedCostFits rows v =
      CostFits (sense_of model.objective)
      (objective_coefficient model v) (adjoint_of_rows model rows v)

  -- ---- of each kind

  pub record OptimalFits (x : List Rational)
      (rows : List (List Rational)) (vars : List Rational) : Type 0 where
    pub point : PointFits one_ℚ x
    pub value : ObjectiveValueFits one_ℚ x
    pub duals : DualsFit rows vars
    pub equations : All (ReducedCostFits rows) (addresses_of (variables model))
    pub dual_value : DualValueFits (sense_of model.objective)
        (objective_constant model) (dual_gap model rows vars)

  pub record InfeasibleFits (rows : List (List Rational)) (vars : List Rational) : Type 0 where
    pub duals : DualsFit rows vars
    pub equations : All (λ v. SumFits (adjoint_of_rows model rows v) (at_point model vars v))
        (addresses_of (variables model))

  pub record UnboundedFits (x d : List Rational) : Type 0 where
    pub point : PointFits one_ℚ x
    pub ray : PointFits zero_ℚ d
    pub slope : ObjectiveValueFits zero_ℚ d

  -- everything that the check of a certificate multiplies and adds
  abbrev pub CertificateFits : Certificate → Type 0
  CertificateFits (Optimal value x rows vars) = OptimalFits x rows vars
  CertificateFits (Infeasible gap rows vars) = InfeasibleFits rows vars
  CertificateFits (Unbounded x d) = UnboundedFits x d
