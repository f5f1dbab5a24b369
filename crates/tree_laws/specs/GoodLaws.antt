-- A right answer for the leaf model is carried to a certificate that is good for the user's model.
use Rattle.std.specs.Prelude.{◌≡◌, List, ◌++◌, All, Contains, length, map, refl}
use Rattle.std.proofs.Common.{sym, ap, subst, ◌∙◌}
use Rattle.std.proofs.lemmas.List.{length-map}
use Rattle.std.proofs.lemmas.List.Elements.{All-append, All-contains_itself, All-map, All-weaker}
use Rattle.bridge_graph.specs.Hypergraph.{IsCostly}
use Rattle.ratio_core.specs.Rational.{Rational, neg_ℚ, one_ℚ, zero_ℚ, ◌*ℚ◌, ◌+ℚ◌, ◌≤ℚ◌}
use Rattle.rational_laws.specs.Field.{+ℚ-zero, +ℚ-neg_ℚ, zero-*ℚ, zero-+ℚ}
use Rattle.rational_laws.specs.Order.{‹ℚ-≤ℚ_trans, ≤ℚ_antisymm, ≤ℚ_refl, ≤ℚ_trans}
use Rattle.rational_laws.specs.Ring.{as_expression, by_ring, ring₁, ring₂, ring₃, one_as, zero_as}
use Rattle.aff_core.specs.Address.{Address}
use Rattle.aff_core.specs.Function.{Function, coefficient, evaluated, value_of}
use Rattle.linear_laws.specs.EvaluationLaws.{evaluated_value}
use Rattle.dual_laws.specs.Held.{DualRow, Holds, IsHeld, adjoint, gap}
use Rattle.dual_laws.specs.PullLaws.{adjoint-append, gap-append}
use Rattle.dual_laws.specs.WeakDuality.{value_above_duals}
use Rattle.certificates.specs.Duals.{adjoint_of_rows, dual_gap, reduced_cost}
use Rattle.certificates.specs.Good.{Good, IsInfeasible, IsOptimal}
use Rattle.certificates.specs.Points.{address_of, addresses_of, all_addresses, at_point, objective_coefficient, objective_function, objective_value, sense_of}
use Rattle.equality_form.specs.EqualityForm.{cost}
use Rattle.equality_form.specs.ReadBack.{AnswerByAddress, infeasible, optimal, unbounded}
use Rattle.equality_form.specs.Right.{IsLeafInfeasible, IsLeafOptimal, IsRight, held_rows}
use Rattle.fresh_bridging.specs.CanLaws.{AreLawful}
use Rattle.fresh_bridging.specs.FreshBridging.{FreshBridging, leaves_of}
use Rattle.fresh_bridging.specs.ModelImage.{group_item, model_image}
use Rattle.fresh_bridging.specs.TheRules.{Setting, graph_of}
use Rattle.user_model.specs.Model.{ModelValue, variables}
use Rattle.user_model.specs.Valid.{IsValid}
use Rattle.tree_laws.specs.Carried.{group_held}
use Rattle.tree_laws.specs.Certificate.{cancelling, certificate_of, infeasible_duals, optimal_duals, point_of, reduced_costs, rows_of}
use Rattle.tree_laws.specs.LeafLaws.{SupportsNativeKinds}
use Rattle.tree_laws.specs.ObjectivePart.{objective_up, user_cost}
use Rattle.tree_laws.specs.PrimalLaws.{user_groups_seen, user_rows_seen}
use Rattle.tree_laws.specs.UserLaws.{spread_is}
use Rattle.tree_laws.specs.SenseLaws.{minus_nonpos, one_nonneg, reduced_is, value_is}
use Rattle.tree_laws.specs.UserHelds.{rows_in}
use Rattle.tree_laws.specs.UserPoints.{feasible_point, objective_at, ray_improves, seen_x, user_ray}
use Rattle.tree_laws.specs.UserDuals.{are_duals, balance, gap_is, gaps, group_part, groups_hold_here, numbers, numbers_are, row_helds, rows_hold_here}

module _ (setting : Setting) (costly : IsCostly (graph_of setting)) (lawful : AreLawful setting)
    (native : SupportsNativeKinds setting) (model : ModelValue) (valid : IsValid model)
    (bridging : FreshBridging setting model) where
  abbrev user_f : Function
  user_f = user_cost model.objective

  -- ---- the three kinds

  spread_at_variable : (f : Address → Rational) (v : Address)
      → Contains (all_addresses model.groups) v
      → at_point model (map f (addresses_of (variables model))) v ≡ f v
  spread_at_variable f v c = spread_is (all_addresses model.groups) f v c

  each_variable : (P : Address → Type 0)
      → ((v : Address) → Contains (all_addresses model.groups) v → P v)
      → All P (addresses_of (variables model))
  each_variable P h =
      All-weaker (Contains (all_addresses model.groups)) P h (all_addresses model.groups)
      (All-contains_itself (all_addresses model.groups))

  listed_size : (f : Address → Rational)
      → length (map f (addresses_of (variables model))) ≡ length (variables model)
  listed_size f =
      length-map (addresses_of (variables model)) f ∙ length-map (variables model) address_of

  -- an optimal point with duals

  module _ (x : Address → Rational) (y : Address → List Rational)
      (right : IsLeafOptimal (leaves_of bridging) x y) where
    cost_weighed : (v : Address)
        → coefficient (cost (leaves_of bridging)) v
        +ℚ neg_ℚ one_ℚ *ℚ coefficient (cost (leaves_of bridging)) v ≡ zero_ℚ
    cost_weighed v = gone (coefficient (cost (leaves_of bridging)) v)
      where
        gone : (c : Rational) → c +ℚ neg_ℚ one_ℚ *ℚ c ≡ zero_ℚ
        gone = ring₁ _ (λ ρ. simp (as_expression, one_as ρ, zero_as ρ) (by_ring ρ _ _ refl))

    abbrev costs_of : Address → Rational
    costs_of = coefficient (cost (leaves_of bridging))

    abbrev optimal_rows : List (List Rational)
    optimal_rows = rows_of bridging (optimal_duals bridging y)

    abbrev optimal_vars : List Rational
    optimal_vars = reduced_costs bridging optimal_rows

    abbrev cost_of_variable : Address → Rational
    cost_of_variable v =
        reduced_cost (sense_of model.objective) (objective_coefficient model v)
        (adjoint_of_rows model optimal_rows v)

    optimal_vars_are : (v : Address) → Contains (all_addresses model.groups) v
        → at_point model optimal_vars v
        ≡ numbers setting costly lawful native model valid bridging (neg_ℚ one_ℚ) costs_of y
        minus_nonpos right.duals cost_weighed v
    optimal_vars_are v c =
        spread_at_variable cost_of_variable v c
        ∙ reduced_is (sense_of model.objective) (objective_function model.objective)
        (adjoint_of_rows model optimal_rows v) v
        ∙ sym (numbers_are setting costly lawful native model valid bridging (neg_ℚ one_ℚ) costs_of
        y minus_nonpos right.duals cost_weighed v)

    abbrev G : Rational
    G = dual_gap model optimal_rows optimal_vars

    abbrev row_part : List DualRow
    row_part = row_helds setting costly lawful native model valid bridging (neg_ℚ one_ℚ) costs_of y
        minus_nonpos right.duals cost_weighed

    abbrev variable_part : List DualRow
    variable_part = group_part setting costly lawful native model valid bridging (neg_ℚ one_ℚ)
        costs_of y minus_nonpos right.duals cost_weighed

    G_is : G ≡ gap row_part +ℚ gap variable_part
    G_is =
        gap_is setting costly lawful native model valid bridging (neg_ℚ one_ℚ) costs_of y
        minus_nonpos right.duals cost_weighed optimal_vars
        (listed_size cost_of_variable) optimal_vars_are

    abbrev seen_here : Address → Rational
    seen_here = seen_x setting costly lawful native model valid bridging x right.feasible

    -- the duals' objective is no worse
    above : value_of user_f seen_here ≤ℚ (user_f.constant +ℚ G)
    above =
        ≤ℚ_trans (value_of user_f seen_here) (value_of (cost (leaves_of bridging)) x)
        (user_f.constant +ℚ G)
        (subst (λ q. q ≤ℚ value_of (cost (leaves_of bridging)) x) (evaluated_value user_f seen_here)
        (subst (λ q. evaluated one_ℚ user_f seen_here ≤ℚ q)
        (evaluated_value (cost (leaves_of bridging)) x)
        (objective_up setting costly lawful native model valid bridging one_ℚ one_nonneg x
        right.feasible)))
        (subst (λ q. q ≤ℚ (user_f.constant +ℚ G))
        (leaf_side (cost (leaves_of bridging)).constant (gap (held_rows (leaves_of bridging) y))
        ∙ sym right.equal)
        (subst (λ q. (gap (held_rows (leaves_of bridging) y)
        +ℚ neg_ℚ (neg_ℚ one_ℚ *ℚ (cost (leaves_of bridging)).constant)) ≤ℚ q)
        (user_side user_f.constant (gap row_part) (gap variable_part)
        ∙ ap (λ q. user_f.constant +ℚ q) (sym G_is))
        (gaps setting costly lawful native model valid bridging (neg_ℚ one_ℚ) costs_of y
        minus_nonpos right.duals cost_weighed)))
      where
        leaf_side : (c g : Rational) → g +ℚ neg_ℚ (neg_ℚ one_ℚ *ℚ c) ≡ c +ℚ g
        leaf_side = ring₂ _ (λ ρ. simp (as_expression, one_as ρ) (by_ring ρ _ _ refl))

        user_side : (c r g : Rational)
            → g +ℚ (r +ℚ neg_ℚ (neg_ℚ one_ℚ *ℚ c)) ≡ c +ℚ (r +ℚ g)
        user_side = ring₃ _ (λ ρ. simp (as_expression, one_as ρ) (by_ring ρ _ _ refl))

    -- nor better, by weak duality
    rows_and_groups : (v : Address)
        → adjoint (row_part ++ variable_part) v ≡ coefficient user_f v
    rows_and_groups v =
        adjoint-append row_part variable_part v
        ∙ left_over (adjoint row_part v) (adjoint variable_part v) (coefficient user_f v)
        (balance setting costly lawful native model valid bridging (neg_ℚ one_ℚ) costs_of y
        minus_nonpos right.duals cost_weighed v)
      where
        regrouped : (r g c : Rational)
            → r +ℚ g ≡ (g +ℚ (r +ℚ neg_ℚ one_ℚ *ℚ c)) +ℚ c
        regrouped = ring₃ _ (λ ρ. simp (as_expression, one_as ρ) (by_ring ρ _ _ refl))

        left_over : (r g c : Rational) → g +ℚ (r +ℚ neg_ℚ one_ℚ *ℚ c) ≡ zero_ℚ → r +ℚ g ≡ c
        left_over r g c e = regrouped r g c ∙ ap (λ q. q +ℚ c) e ∙ zero-+ℚ c

    below : (user_f.constant +ℚ G) ≤ℚ value_of user_f seen_here
    below =
        subst (λ q. (user_f.constant +ℚ q) ≤ℚ value_of user_f seen_here)
        (gap-append row_part variable_part ∙ sym G_is)
        (value_above_duals (row_part ++ variable_part) user_f seen_here
        (All-append IsHeld row_part variable_part
        (rows_hold_here setting costly lawful native model valid bridging (neg_ℚ one_ℚ) costs_of y
        minus_nonpos right.duals cost_weighed)
        (groups_hold_here setting costly lawful native model valid bridging (neg_ℚ one_ℚ) costs_of y
        minus_nonpos right.duals cost_weighed))
        rows_and_groups
        (All-append (λ h. Holds one_ℚ h seen_here) row_part variable_part
        (rows_in one_ℚ seen_here optimal_rows model.rows
        (user_rows_seen setting costly lawful native model valid bridging one_ℚ one_nonneg x
        right.feasible))
        (All-map (λ h. Holds one_ℚ h seen_here)
        (group_held zero_ℚ (numbers setting costly lawful native model valid bridging (neg_ℚ one_ℚ)
        costs_of y minus_nonpos right.duals cost_weighed))
        (model_image model).groups
        (All-map
        (λ g. Holds one_ℚ (group_held zero_ℚ
        (numbers setting costly lawful native model valid bridging (neg_ℚ one_ℚ) costs_of y
        minus_nonpos right.duals cost_weighed) g) seen_here)
        group_item model.groups
        (user_groups_seen setting costly lawful native model valid bridging one_ℚ one_nonneg x
        right.feasible)))))

    optimal_good : IsOptimal model (objective_value model (point_of bridging x))
        (point_of bridging x) optimal_rows optimal_vars
    optimal_good = record {
      feasible = feasible_point setting costly lawful native model valid bridging x right.feasible;
      duals =
          are_duals setting costly lawful native model valid bridging (neg_ℚ one_ℚ) costs_of y
          minus_nonpos right.duals cost_weighed optimal_vars
          (listed_size cost_of_variable) optimal_vars_are;
      equations =
          each_variable (λ v. at_point model optimal_vars v ≡ cost_of_variable v)
          (spread_at_variable cost_of_variable);
      primal = refl;
      dual =
          objective_at setting costly lawful native model valid bridging x right.feasible
          ∙ value_is (sense_of model.objective) (objective_function model.objective) seen_here G
          (≤ℚ_antisymm (value_of user_f seen_here) (user_f.constant +ℚ G) above below);
    }

  -- no feasible point

  module _ (y : Address → List Rational) (right : IsLeafInfeasible (leaves_of bridging) y) where
    nothing_weighed : (v : Address)
        → zero_ℚ +ℚ zero_ℚ *ℚ coefficient (cost (leaves_of bridging)) v ≡ zero_ℚ
    nothing_weighed v =
        zero-+ℚ (zero_ℚ *ℚ coefficient (cost (leaves_of bridging)) v)
        ∙ zero-*ℚ (coefficient (cost (leaves_of bridging)) v)

    abbrev no_costs : Address → Rational
    no_costs v = zero_ℚ

    abbrev infeasible_rows : List (List Rational)
    infeasible_rows = rows_of bridging (infeasible_duals bridging y)

    abbrev infeasible_vars : List Rational
    infeasible_vars = cancelling bridging infeasible_rows

    abbrev opposite : Address → Rational
    opposite v = neg_ℚ (adjoint_of_rows model infeasible_rows v)

    infeasible_vars_are : (v : Address) → Contains (all_addresses model.groups) v
        → at_point model infeasible_vars v
        ≡ numbers setting costly lawful native model valid bridging zero_ℚ no_costs y
        (≤ℚ_refl zero_ℚ) right.duals nothing_weighed v
    infeasible_vars_are v c =
        spread_at_variable opposite v c
        ∙ ap neg_ℚ (sym (ap (λ q. adjoint_of_rows model infeasible_rows v +ℚ q)
        (zero-*ℚ (coefficient user_f v))
        ∙ +ℚ-zero (adjoint_of_rows model infeasible_rows v)))
        ∙ sym (numbers_are setting costly lawful native model valid bridging zero_ℚ no_costs y
        (≤ℚ_refl zero_ℚ) right.duals nothing_weighed v)

    abbrev gap_here : Rational
    gap_here = dual_gap model infeasible_rows infeasible_vars

    gap_here_is : gap_here
        ≡ gap (row_helds setting costly lawful native model valid bridging zero_ℚ no_costs y
        (≤ℚ_refl zero_ℚ) right.duals nothing_weighed)
        +ℚ gap (group_part setting costly lawful native model valid bridging zero_ℚ no_costs y
        (≤ℚ_refl zero_ℚ) right.duals nothing_weighed)
    gap_here_is =
        gap_is setting costly lawful native model valid bridging zero_ℚ no_costs y (≤ℚ_refl zero_ℚ)
        right.duals nothing_weighed infeasible_vars
        (listed_size opposite) infeasible_vars_are

    grows : gap (held_rows (leaves_of bridging) y) ≤ℚ gap_here
    grows =
        subst (λ q. q ≤ℚ gap_here)
        (nothing (cost (leaves_of bridging)).constant (gap (held_rows (leaves_of bridging) y)))
        (subst (λ q. (gap (held_rows (leaves_of bridging) y)
        +ℚ neg_ℚ (zero_ℚ *ℚ (cost (leaves_of bridging)).constant)) ≤ℚ q)
        (user_side user_f.constant
        (gap (row_helds setting costly lawful native model valid bridging zero_ℚ no_costs y
        (≤ℚ_refl zero_ℚ) right.duals nothing_weighed))
        (gap (group_part setting costly lawful native model valid bridging zero_ℚ no_costs y
        (≤ℚ_refl zero_ℚ) right.duals nothing_weighed))
        ∙ sym gap_here_is)
        (gaps setting costly lawful native model valid bridging zero_ℚ no_costs y (≤ℚ_refl zero_ℚ)
        right.duals nothing_weighed))
      where
        nothing : (c g : Rational) → g +ℚ neg_ℚ (zero_ℚ *ℚ c) ≡ g
        nothing = ring₂ _ (λ ρ. simp (as_expression, zero_as ρ) (by_ring ρ _ _ refl))

        user_side : (c r g : Rational)
            → g +ℚ (r +ℚ neg_ℚ (zero_ℚ *ℚ c)) ≡ r +ℚ g
        user_side = ring₃ _ (λ ρ. simp (as_expression, zero_as ρ) (by_ring ρ _ _ refl))

    infeasible_good : IsInfeasible model gap_here infeasible_rows infeasible_vars
    infeasible_good = record {
      duals =
          are_duals setting costly lawful native model valid bridging zero_ℚ no_costs y
          (≤ℚ_refl zero_ℚ) right.duals nothing_weighed infeasible_vars
          (listed_size opposite) infeasible_vars_are;
      equations =
          each_variable
          (λ v. adjoint_of_rows model infeasible_rows v +ℚ at_point model infeasible_vars v
          ≡ zero_ℚ)
          (λ v c. ap (λ q. adjoint_of_rows model infeasible_rows v +ℚ q)
          (spread_at_variable opposite v c)
          ∙ +ℚ-neg_ℚ (adjoint_of_rows model infeasible_rows v));
      is_gap = refl;
      positive = ‹ℚ-≤ℚ_trans zero_ℚ (gap (held_rows (leaves_of bridging) y)) gap_here right.above
          grows;
    }

  -- a right answer for the leaf model is carried to a certificate that is good for the user's
  pub right_is_good : (answer : AnswerByAddress) → IsRight (leaves_of bridging) answer
      → Good model (certificate_of bridging answer)
  right_is_good (optimal x y) right = optimal_good x y right
  right_is_good (infeasible y) right = infeasible_good y right
  right_is_good (unbounded x r) right = record {
    feasible = feasible_point setting costly lawful native model valid bridging x right.feasible;
    ray = user_ray setting costly lawful native model valid bridging r right.ray;
    improves = ray_improves setting costly lawful native model valid bridging r right.ray
        right.falls;
  }
