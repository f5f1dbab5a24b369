-- The user's point and ray, by those of the leaf model.
use Rattle.std.specs.Prelude.{◌≡◌, List, [], ◌∷◌, All, length, map}
use Rattle.std.proofs.Common.{sym, ap, subst, ◌∙◌}
use Rattle.std.proofs.lemmas.List.{length-map}
use Rattle.std.proofs.lemmas.List.Elements.{All-cons, All-head, All-nil, All-weaker}
use Rattle.std.proofs.lemmas.Bool.{false_from_ne_true}
use Rattle.bridge_graph.specs.Hypergraph.{IsCostly}
use Rattle.ratio_core.specs.Rational.{Rational, one_ℚ, zero_ℚ, ◌≤ℚ◌, ◌‹ℚ◌}
use Rattle.rational_laws.specs.Order.{≤ℚ-‹ℚ_trans, ≤ℚ_refl}
use Rattle.set_core.specs.Membership.{In, recession}
use Rattle.set_core.specs.Mirrored.{multiplied}
use Rattle.set_core.specs.declared.set.Set.{Set}
use Rattle.set_laws.specs.Multiples.{multiplied_one, multiplied_zero}
use Rattle.aff_core.specs.Address.{Address}
use Rattle.aff_core.specs.Function.{Function, coefficient, constant_function, evaluated, slope, value_of}
use Rattle.aff_core.specs.FunctionLists.{evaluations, slopes, values}
use Rattle.linear_laws.specs.EvaluationLaws.{evaluated_slope, evaluated_value}
use Rattle.linear_laws.specs.ListLaws.{evaluations_slopes, evaluations_values}
use Rattle.certificates.specs.Feasible.{IsBetter, IsFeasible, IsRay}
use Rattle.certificates.specs.Points.{address_of, addresses_of, all_addresses, at_point, functions_of, functions_of_group, objective_function, objective_slope, objective_value, sense_of}
use Rattle.equality_form.specs.EqualityForm.{cost}
use Rattle.equality_form.specs.Right.{IsLeafFeasible}
use Rattle.bridge_face.specs.BackOf.{head_of}
use Rattle.bridge_face.specs.Law.{Miss}
use Rattle.fresh_bridging.specs.CanLaws.{AreLawful}
use Rattle.fresh_bridging.specs.Entries.{function_in}
use Rattle.fresh_bridging.specs.FreshBridging.{FreshBridging, leaves_of}
use Rattle.fresh_bridging.specs.ModelImage.{objective_item}
use Rattle.fresh_bridging.specs.ModelLaws.{objective_omits}
use Rattle.fresh_bridging.specs.TheRules.{Setting, graph_of}
use Rattle.item_core.specs.declared.item.Body.TheVariants.{PlainObj, AffineObj}
use Rattle.item_core.specs.Item.{functions_of as item_functions}
use Rattle.user_model.specs.Model.{ModelValue, objective_mentions, variables}
use Rattle.user_model.specs.Valid.{IsValid, IsValidObjective}
use Rattle.user_model.specs.declared.objective.Objective.{Objective}
use Rattle.user_model.specs.declared.objective.Objective.TheVariants as objective
use Rattle.address_laws.specs.Apart.{Avoids, not_in}
use Rattle.address_laws.specs.ImageLaws.{constant_misses}
use Rattle.tree_laws.specs.Certificate.{point_of, ray_of}
use Rattle.tree_laws.specs.LeafLaws.{SupportsNativeKinds}
use Rattle.tree_laws.specs.ObjectivePart.{objective_up, user_cost}
use Rattle.tree_laws.specs.PrimalLaws.{seen_point, user_groups, user_rows}
use Rattle.tree_laws.specs.UserLaws.{evaluations_agree, listed_point, stands_in}
use Rattle.tree_laws.specs.SenseLaws.{better_is, one_nonneg}

module _ (setting : Setting) (costly : IsCostly (graph_of setting)) (lawful : AreLawful setting)
    (native : SupportsNativeKinds setting) (model : ModelValue) (valid : IsValid model)
    (bridging : FreshBridging setting model) where
  abbrev user_f : Function
  user_f = user_cost model.objective

  -- the objective names the model's variables alone
  objective_misses : (v : Address) → Avoids (all_addresses model.groups) v
      → Miss (objective_function model.objective ∷ []) v
  objective_misses v h = by model.objective (valid.parts.valid_objective)
    where
      by : (o : Objective) → IsValidObjective model.groups o → Miss (objective_function o ∷ []) v
      by objective.Feasibility k =
          All-cons (λ f. coefficient f v ≡ zero_ℚ) (constant_function zero_ℚ) []
          (constant_misses v) (All-nil (λ f. coefficient f v ≡ zero_ℚ))
      by (objective.Plain sense var) k =
          All-head (λ i. Miss (item_functions i.body) v) (objective_item (PlainObj sense var)) []
          (objective_omits (objective.Plain sense var) v
          (false_from_ne_true (objective_mentions v (objective.Plain sense var))
          (λ t. not_in (all_addresses model.groups) v h (stands_in model.groups v (k.stand v t)))))
      by (objective.Affine sense f) k =
          All-head (λ i. Miss (item_functions i.body) v) (objective_item (AffineObj sense f)) []
          (objective_omits (objective.Affine sense f) v
          (false_from_ne_true (objective_mentions v (objective.Affine sense f))
          (λ t. not_in (all_addresses model.groups) v h (stands_in model.groups v (k.stand v t)))))

  -- ---- points and rays

  -- what holds of the sets times `one` holds of what these are, and so of the numbers at `one`
  module _ (one : Rational) (nonneg : zero_ℚ ≤ℚ one) (x : Address → Rational)
      (feasible : IsLeafFeasible (leaves_of bridging) one x) where
    abbrev pub seen : Address → Rational
    seen = seen_point setting costly lawful native model valid bridging one nonneg x feasible

    size_is : length (listed_point model seen) ≡ length (variables model)
    size_is =
        length-map (addresses_of (variables model)) seen ∙ length-map (variables model) address_of

    -- the objective is the same at the listed numbers
    objective_agrees : (number : Function → (Address → Rational) → Rational)
        → ((f : Function) (p : Address → Rational) → evaluated one f p ≡ number f p)
        → number (objective_function model.objective) (at_point model (listed_point model seen))
        ≡ number (objective_function model.objective) seen
    objective_agrees number is =
        let f = objective_function model.objective in
        sym (is f (at_point model (listed_point model seen)))
        ∙ ap head_of (evaluations_agree model seen one (f ∷ []) objective_misses) ∙ is f seen

    module _ (times : Set → Set) (numbers : List Function → (Address → Rational) → List Rational)
        (times_is : (s : Set) → multiplied one s ≡ times s)
        (numbers_are : (fs : List Function) (p : Address → Rational)
        → evaluations one fs p ≡ numbers fs p) where
      abbrev InTimes : Set → List Function → Type 0
      InTimes s fs = In (times s) (numbers fs (at_point model (listed_point model seen)))

      abbrev InMultiplied : Set → List Function → Type 0
      InMultiplied s fs =
          In (multiplied one s) (evaluations one fs (at_point model (listed_point model seen)))

      in_times : (s : Set) (fs : List Function) → InMultiplied s fs → InTimes s fs
      in_times s fs h =
          subst (λ t. In t (numbers fs (at_point model (listed_point model seen)))) (times_is s)
          (subst (In (multiplied one s))
          (numbers_are fs (at_point model (listed_point model seen))) h)

      groups_in : All (λ g. InTimes g.set (functions_of_group g)) model.groups
      groups_in =
          All-weaker (λ g. InMultiplied g.set (functions_of_group g))
          (λ g. InTimes g.set (functions_of_group g))
          (λ g h. in_times g.set (functions_of_group g) h) model.groups
          (user_groups setting costly lawful native model valid bridging one nonneg x feasible)

      rows_in : All (λ r. InTimes r.set (functions_of r.func)) model.rows
      rows_in =
          All-weaker (λ r. InMultiplied r.set (functions_of r.func))
          (λ r. InTimes r.set (functions_of r.func))
          (λ r h. in_times r.set (functions_of r.func) h) model.rows
          (user_rows setting costly lawful native model valid bridging one nonneg x feasible)

  module _ (x : Address → Rational) (feasible : IsLeafFeasible (leaves_of bridging) one_ℚ x) where
    abbrev pub seen_x : Address → Rational
    seen_x = seen one_ℚ one_nonneg x feasible

    point_is : point_of bridging x ≡ listed_point model seen_x
    point_is = λ i. map (λ v. sym (evaluated_value (function_in bridging.made.entries v) x) i)
        (addresses_of (variables model))

    pub feasible_point : IsFeasible model (point_of bridging x)
    feasible_point =
        subst (IsFeasible model) (sym point_is)
        (record {
          size = size_is one_ℚ one_nonneg x feasible;
          groups = groups_in one_ℚ one_nonneg x feasible (λ s. s) values multiplied_one
              evaluations_values;
          rows = rows_in one_ℚ one_nonneg x feasible (λ s. s) values multiplied_one
              evaluations_values;
        })

    -- the objective at the point
    pub objective_at : objective_value model (point_of bridging x)
        ≡ value_of (objective_function model.objective) seen_x
    objective_at =
        ap (objective_value model) point_is
        ∙ objective_agrees one_ℚ one_nonneg x feasible value_of evaluated_value

  module _ (x : Address → Rational) (ray : IsLeafFeasible (leaves_of bridging) zero_ℚ x) where
    abbrev seen_d : Address → Rational
    seen_d = seen zero_ℚ (≤ℚ_refl zero_ℚ) x ray

    ray_is : ray_of bridging x ≡ listed_point model seen_d
    ray_is = λ i. map (λ v. sym (evaluated_slope (function_in bridging.made.entries v) x) i)
        (addresses_of (variables model))

    pub user_ray : IsRay model (ray_of bridging x)
    user_ray =
        subst (IsRay model) (sym ray_is)
        (record {
          size = size_is zero_ℚ (≤ℚ_refl zero_ℚ) x ray;
          groups = groups_in zero_ℚ (≤ℚ_refl zero_ℚ) x ray recession slopes multiplied_zero
              evaluations_slopes;
          rows = rows_in zero_ℚ (≤ℚ_refl zero_ℚ) x ray recession slopes multiplied_zero
              evaluations_slopes;
        })

    slope_at : objective_slope model (ray_of bridging x)
        ≡ slope (objective_function model.objective) seen_d
    slope_at =
        ap (objective_slope model) ray_is
        ∙ objective_agrees zero_ℚ (≤ℚ_refl zero_ℚ) x ray slope evaluated_slope

    pub ray_improves : slope (cost (leaves_of bridging)) x ‹ℚ zero_ℚ
        → IsBetter (sense_of model.objective) (objective_slope model (ray_of bridging x)) zero_ℚ
    ray_improves falls =
        subst (λ q. IsBetter (sense_of model.objective) q zero_ℚ) (sym slope_at)
        (better_is (sense_of model.objective) (objective_function model.objective) seen_d
        (≤ℚ-‹ℚ_trans (slope user_f seen_d) (slope (cost (leaves_of bridging)) x) zero_ℚ
        (subst (λ q. q ≤ℚ slope (cost (leaves_of bridging)) x) (evaluated_slope user_f seen_d)
        (subst (λ q. evaluated zero_ℚ user_f seen_d ≤ℚ q)
        (evaluated_slope (cost (leaves_of bridging)) x)
        (objective_up setting costly lawful native model valid bridging zero_ℚ (≤ℚ_refl zero_ℚ) x
        ray)))
        falls))
