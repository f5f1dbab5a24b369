-- Models whose numbers are small: each is whole and at most 2 ^ 40 in size. Each number
-- fits that the bridging of such a model is made with, whatever the table.
--
--     set_numbers function_numbers .. the numbers that a part of a model is written with
--     HasSmallNumbers model           each number of the model is small
--     SmallNumbersFit                 the law
use Rattle.std.specs.Prelude.{◌≡◌, ◌++◌, true, List, [], ◌∷◌, All, None, flat_map, map}
use Rattle.aff_core.specs.Function.{Function, terms_of}
use Rattle.bridge_graph.specs.Hypergraph.{IsCostly}
use Rattle.fresh_bridging.specs.CanLaws.{AreLawful}
use Rattle.fresh_bridging.specs.FreshBridging.{FreshBridging, is_made, unfit_at}
use Rattle.fresh_bridging.specs.TheRules.{Setting, graph_of}
use Rattle.ratio_core.specs.Rational.{Rational}
use Rattle.set_core.specs.declared.set.Set.{Set}
use Rattle.set_core.specs.declared.set.Set.TheVariants.{LessThan, GreaterThan, EqualTo, Interval}
use Rattle.small_number_laws.specs.Whole.{AreSmall}
use Rattle.user_model.specs.Model.{ModelValue}
use Rattle.user_model.specs.Valid.{IsValid}
use Rattle.user_model.specs.declared.function.UserFunc.{UserFunc}
use Rattle.user_model.specs.declared.function.UserFunc.TheVariants.{Plain, Affine, PlainVec, AffineVec}
use Rattle.user_model.specs.declared.objective.Objective.{Objective}
use Rattle.user_model.specs.declared.objective.Objective.TheVariants as objective

-- ---- the numbers of a model

abbrev pub set_numbers : Set → List Rational
set_numbers (LessThan u) = u ∷ []
set_numbers (GreaterThan l) = l ∷ []
set_numbers (EqualTo a) = a ∷ []
set_numbers (Interval l u) = l ∷ u ∷ []
set_numbers _ = []

-- the constant and the coefficients
abbrev pub function_numbers : Function → List Rational
function_numbers f = f.constant ∷ map (λ t. t.1) (terms_of f)

abbrev pub func_numbers : UserFunc → List Rational
func_numbers (Plain var) = []
func_numbers (Affine f) = function_numbers f
func_numbers (PlainVec vars) = []
func_numbers (AffineVec fs) = flat_map function_numbers fs

abbrev pub objective_numbers : Objective → List Rational
objective_numbers objective.Feasibility = []
objective_numbers (objective.Plain sense var) = []
objective_numbers (objective.Affine sense f) = function_numbers f

-- ---- small numbers

pub record HasSmallNumbers (model : ModelValue) : Type 0 where
  pub groups : All (λ g. AreSmall (set_numbers g.set)) model.groups
  pub rows : All (λ r. AreSmall (func_numbers r.func ++ set_numbers r.set)) model.rows
  pub objective : AreSmall (objective_numbers model.objective)

-- ---- the law

-- whatever the table and the families: each number that the bridging of a valid model of small
-- numbers is made with fits, so there is no first item at which one doesn't
pub record AllNumbersFit (setting : Setting) (model : ModelValue)
    (bridging : FreshBridging setting model) : Type 0 where
  pub made : is_made bridging ≡ true
  pub unfit : unfit_at bridging ≡ None

abbrev pub SmallNumbersFit : Type 0
SmallNumbersFit =
    (setting : Setting) → IsCostly (graph_of setting) → AreLawful setting → (model : ModelValue)
    → IsValid model → HasSmallNumbers model → (bridging : FreshBridging setting model)
    → AllNumbersFit setting model bridging
