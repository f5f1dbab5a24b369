-- The cost of a leaf model, over its variables.
use Rattle.std.specs.Prelude.{◌≡◌, List, [], ◌∷◌, All, refl}
use Rattle.std.specs.FinMap as finite
use Rattle.std.proofs.Common.{sym, ◌∙◌, ap}
use Rattle.std.proofs.lemmas.List.Elements.{All-head}
use Rattle.ratio_core.specs.Rational.{Rational, neg_ℚ, zero_ℚ, ◌*ℚ◌}
use Rattle.rational_laws.specs.Field.{neg_ℚ-*ℚ, zero-*ℚ}
use Rattle.rational_laws.specs.Sums.{sum_by_ℚ, sum_by_ℚ-neg_ℚ, sum_by_ℚ_same, sum_by_ℚ_zero}
use Rattle.aff_core.specs.Address.{Address, address_cmp}
use Rattle.aff_core.specs.Function.{Function, coefficient, constant_function, negated, slope, variable}
use Rattle.aff_core.specs.FunctionLaws.{coefficient-constant_function, coefficient-negated, is_negated}
use Rattle.aff_core.specs.KeyOrder.{address_order}
use Rattle.aff_core.specs.declared.sense.Sense.TheVariants.{Min, Max}
use Rattle.item_core.specs.declared.item.Body.{Body}
use Rattle.item_core.specs.declared.item.Body.TheVariants.{PlainObj, AffineObj}
use Rattle.item_core.specs.Item.{functions_of}
use Rattle.leaf_model.specs.LeafModel.{LeafModel}
use Rattle.linear_laws.specs.ListLaws.{slope_constant_function, slope_negated}
use Rattle.equality_form.specs.EqualityForm.{cost, cost_among, cost_of}
use Rattle.equality_form.specs.FeasibleLaws.{slope_over_variables}
use Rattle.equality_form.specs.Native.{IsNativeModel, NamesVariables}

module _ (leaves : LeafModel) where
  IsOverVariables : Function → Type 0
  IsOverVariables f = (p : Address → Rational)
      → slope f p ≡ sum_by_ℚ (λ u. coefficient f u *ℚ p u) (finite.keys leaves.variables)

  over_negated : (f : Function) → IsOverVariables f → IsOverVariables (negated f)
  unfolding IsOverVariables
  over_negated f h p =
      slope_negated f (negated f) (is_negated address_order f (negated f) refl) p ∙ ap neg_ℚ (h p)
      ∙ sym (sum_by_ℚ-neg_ℚ (λ u. coefficient f u *ℚ p u) (finite.keys leaves.variables))
      ∙ sum_by_ℚ_same (λ u. neg_ℚ (coefficient f u *ℚ p u)) (λ u. coefficient (negated f) u *ℚ p u)
      (finite.keys leaves.variables)
      (λ u. sym (neg_ℚ-*ℚ (coefficient f u) (p u))
      ∙ ap (λ q. q *ℚ p u) (sym (coefficient-negated address_order f u)))

  over_nothing : IsOverVariables (constant_function zero_ℚ)
  unfolding IsOverVariables
  over_nothing p =
      slope_constant_function zero_ℚ p
      ∙ sym (sum_by_ℚ_same (λ u. coefficient (constant_function {R = address_cmp} zero_ℚ) u *ℚ p u)
      (λ u. zero_ℚ) (finite.keys leaves.variables)
      (λ u. ap (λ q. q *ℚ p u) (coefficient-constant_function address_order zero_ℚ u)
      ∙ zero-*ℚ (p u)) ∙ sum_by_ℚ_zero (finite.keys leaves.variables))

  over : (f : Function) → All (NamesVariables leaves) (f ∷ []) → IsOverVariables f
  unfolding IsOverVariables
  over f h p = slope_over_variables leaves f p (All-head (NamesVariables leaves) f [] h)

  over_cost_of : (body : Body) → All (NamesVariables leaves) (functions_of body)
      → IsOverVariables (cost_of body)
  over_cost_of (PlainObj Min var) h = over (variable var) h
  over_cost_of (PlainObj Max var) h = over_negated (variable var) (over (variable var) h)
  over_cost_of (AffineObj Min func) h = over func h
  over_cost_of (AffineObj Max func) h = over_negated func (over func h)
  over_cost_of _ h = over_nothing

  over_cost : (objectives : List (Address × Body))
      → All (λ objective. All (NamesVariables leaves) (functions_of objective.1)) objectives
      → IsOverVariables (cost_among objectives)
  over_cost [] h = over_nothing
  over_cost (objective ∷ others) h =
      over_cost_of objective.1 (All-head (λ objective. All (NamesVariables leaves)
      (functions_of objective.1)) objective others h)

  pub cost_over_variables : IsNativeModel leaves → (p : Address → Rational)
      → slope (cost leaves) p
      ≡ sum_by_ℚ (λ u. coefficient (cost leaves) u *ℚ p u) (finite.keys leaves.variables)
  unfolding IsOverVariables
  cost_over_variables native p =
      over_cost (finite.entries leaves.objective) native.objective_names p
