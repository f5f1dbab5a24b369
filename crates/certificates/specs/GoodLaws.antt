-- What follows of a valid model that has a good certificate: the optimal value is as good as any
-- feasible point's; no point is feasible; every value is bettered by some feasible point.
use Rattle.std.specs.Prelude.{◌≡◌, List, [], ◌∷◌, length, All, refl}
use Rattle.std.proofs.Common.{sym, ◌∙◌, ap, ap₂, subst}
use Rattle.std.proofs.lemmas.List.{length-map}
use Rattle.std.proofs.lemmas.List.Elements.{All-weaker}
use Rattle.ratio_core.specs.Rational.{Rational, abs_ℚ, inverse_ℚ, neg_ℚ, one_ℚ, zero_ℚ, ◌*ℚ◌, ◌+ℚ◌, ◌-ℚ◌, ◌≤ℚ◌, ◌‹ℚ◌}
use Rattle.rational_laws.specs.Dot.{plus, times}
use Rattle.rational_laws.specs.DotLaws.{length-plus, length-times}
use Rattle.rational_laws.specs.Field.{*ℚ-neg_ℚ, *ℚ-one, *ℚ_assoc, inverse_ℚ-*ℚ, neg_ℚ-neg_ℚ, neg_ℚ-zero, one-*ℚ, zero-+ℚ}
use Rattle.rational_laws.specs.Order.{above_inverse, neg_ℚ-‹ℚ, neg_ℚ-≤ℚ, nonneg_abs_ℚ, nonneg_add, nonneg_mul, not_‹ℚ_from_≤ℚ, zero_‹ℚ_one, ‹ℚ-+ℚ, ≤ℚ-+ℚ_left, ≤ℚ-+ℚ_right, ≤ℚ_abs_ℚ, ≤ℚ_from_‹ℚ, ≤ℚ_refl}
use Rattle.rational_laws.specs.Ring.{as_expression, by_ring, ring₂, ring₃}
use Rattle.aff_core.specs.Address.{Address}
use Rattle.aff_core.specs.declared.sense.Sense.{Sense}
use Rattle.aff_core.specs.declared.sense.Sense.TheVariants.{Min, Max}
use Rattle.aff_core.specs.Function.{Function, IsNegated, coefficient, negated, slope, terms_of, value_of}
use Rattle.aff_core.specs.FunctionLaws.{is_negated}
use Rattle.aff_core.specs.FunctionLists.{slopes, values}
use Rattle.aff_core.specs.KeyOrder.{address_order}
use Rattle.linear_laws.specs.EvaluationLaws.{linear-*ℚ, linear-+ℚ}
use Rattle.linear_laws.specs.ListLaws.{slope_constant_function, slope_negated}
use Rattle.set_core.specs.declared.set.Set.{Set}
use Rattle.set_core.specs.Membership.{In, recession}
use Rattle.set_laws.specs.Multiples.{recession_stays}
use Rattle.dual_laws.specs.Held.{gap, pull}
use Rattle.dual_laws.specs.WeakDuality.{gaps_below}
use Rattle.user_model.specs.declared.group.Group.{Group}
use Rattle.user_model.specs.declared.objective.Objective.TheVariants as objective
use Rattle.user_model.specs.declared.row.Row.{Row}
use Rattle.user_model.specs.Model.{ModelValue, variables}
use Rattle.user_model.specs.Valid.{IsValid}
use Rattle.certificates.specs.Points.{address_of, addresses_of, at_point, functions_of, functions_of_group, objective_function, objective_slope, objective_value, sense_of}
use Rattle.certificates.specs.Feasible.{IsBetter, IsFeasible, IsRay}
use Rattle.certificates.specs.Duals.{AreDuals, adjoint_of_rows, dual_gap, dual_value, reduced_cost, with_duals}
use Rattle.certificates.specs.Good.{IsInfeasible, IsOptimal, IsUnbounded}
use Rattle.certificates.specs.PointLaws.{spread-plus, spread-times}
use Rattle.certificates.specs.DualPointLaws.{all_hold, duals_hold, no_pull_at, pull_at, weighs}

one_nonneg : zero_ℚ ≤ℚ one_ℚ
one_nonneg = ≤ℚ_from_‹ℚ zero_ℚ one_ℚ zero_‹ℚ_one

-- ---- duals bound the objective

module _ (model : ModelValue) (valid : IsValid model) (rows : List (List Rational))
    (vars : List Rational) (duals : AreDuals model rows vars) where
  gap_below_pull : (y : List Rational) → IsFeasible model y
      → dual_gap model rows vars ≤ℚ pull (with_duals model rows vars) (at_point model y)
  gap_below_pull y feasible =
      subst (λ q. q ≤ℚ pull (with_duals model rows vars) (at_point model y))
      (one-*ℚ (dual_gap model rows vars))
      (gaps_below one_ℚ one_nonneg (at_point model y) (with_duals model rows vars)
      (duals_hold model rows vars valid duals) (all_hold model rows vars y feasible))

  -- the duals' objective is no worse than the value at any feasible point
  dual_bound : (sense : Sense) (f : Function)
      → All (λ v. at_point model vars v
      ≡ reduced_cost sense (coefficient f v) (adjoint_of_rows model rows v))
      (addresses_of (variables model)) → (y : List Rational) → IsFeasible model y
      → ¬ (IsBetter sense (value_of f (at_point model y))
      (dual_value sense f.constant (dual_gap model rows vars)))
  unfolding value_of
  dual_bound Min f equations y feasible =
      not_‹ℚ_from_≤ℚ (f.constant +ℚ dual_gap model rows vars)
      (f.constant +ℚ slope f (at_point model y))
      (≤ℚ-+ℚ_left (dual_gap model rows vars) (slope f (at_point model y)) f.constant
      (subst (λ q. dual_gap model rows vars ≤ℚ q) (pull_at (with_duals model rows vars) f
      (at_point model y) (weighs model rows vars valid (coefficient f) each y))
      (gap_below_pull y feasible)))
    where
      regrouped : (a c : Rational) → a +ℚ (c -ℚ a) ≡ c
      regrouped = ring₂ _ (λ ρ. simp as_expression (by_ring ρ _ _ refl))

      each : All (λ v. adjoint_of_rows model rows v +ℚ at_point model vars v ≡ coefficient f v)
          (addresses_of (variables model))
      each = All-weaker (λ v. at_point model vars v
          ≡ coefficient f v -ℚ adjoint_of_rows model rows v)
          (λ v. adjoint_of_rows model rows v +ℚ at_point model vars v ≡ coefficient f v)
          (λ v e. ap (λ q. adjoint_of_rows model rows v +ℚ q) e
          ∙ regrouped (adjoint_of_rows model rows v) (coefficient f v))
          (addresses_of (variables model)) equations
  dual_bound Max f equations y feasible =
      not_‹ℚ_from_≤ℚ (f.constant +ℚ slope f (at_point model y))
      (f.constant -ℚ dual_gap model rows vars)
      (≤ℚ-+ℚ_left (slope f (at_point model y)) (neg_ℚ (dual_gap model rows vars)) f.constant
      (subst (λ q. q ≤ℚ neg_ℚ (dual_gap model rows vars)) (neg_ℚ-neg_ℚ (slope f (at_point model y)))
      (neg_ℚ-≤ℚ (dual_gap model rows vars) (neg_ℚ (slope f (at_point model y)))
      (subst (λ q. dual_gap model rows vars ≤ℚ q) (pull_at (with_duals model rows vars) (negated f)
      (at_point model y) (weighs model rows vars valid (coefficient (negated f)) each y)
      ∙ slope_negated f (negated f) negation (at_point model y)) (gap_below_pull y feasible)))))
    where
      negation : IsNegated f (negated f)
      negation = is_negated address_order f (negated f) refl

      regrouped : (a c : Rational) → a +ℚ neg_ℚ (c +ℚ a) ≡ neg_ℚ c
      regrouped = ring₂ _ (λ ρ. simp as_expression (by_ring ρ _ _ refl))

      each : All (λ v. adjoint_of_rows model rows v +ℚ at_point model vars v
          ≡ coefficient (negated f) v) (addresses_of (variables model))
      each = All-weaker (λ v. at_point model vars v
          ≡ neg_ℚ (coefficient f v +ℚ adjoint_of_rows model rows v))
          (λ v. adjoint_of_rows model rows v +ℚ at_point model vars v ≡ coefficient (negated f) v)
          (λ v e. ap (λ q. adjoint_of_rows model rows v +ℚ q) e
          ∙ regrouped (adjoint_of_rows model rows v) (coefficient f v)
          ∙ sym (negation.coefficients v)) (addresses_of (variables model)) equations

-- ---- the three kinds

module _ (model : ModelValue) (valid : IsValid model) where
  -- no feasible point has a better value
  pub none_is_better : (value : Rational) (x : List Rational) (rows : List (List Rational))
      (vars : List Rational) → IsOptimal model value x rows vars → (y : List Rational)
      → IsFeasible model y → ¬ (IsBetter (sense_of model.objective) (objective_value model y) value)
  none_is_better value x rows vars optimal y feasible better =
      dual_bound model valid rows vars optimal.duals (sense_of model.objective)
      (objective_function model.objective) optimal.equations y feasible
      (subst (λ q. IsBetter (sense_of model.objective) (objective_value model y) q) optimal.dual
      better)

  pub none_is_feasible : (gap : Rational) (rows : List (List Rational)) (vars : List Rational)
      → IsInfeasible model gap rows vars → (y : List Rational) → ¬ (IsFeasible model y)
  none_is_feasible gap rows vars infeasible y feasible =
      not_‹ℚ_from_≤ℚ (dual_gap model rows vars) zero_ℚ
      (subst (λ q. dual_gap model rows vars ≤ℚ q) (no_pull_at (with_duals model rows vars)
      (at_point model y) (weighs model rows vars valid (λ _. zero_ℚ) infeasible.equations y))
      (gap_below_pull model valid rows vars infeasible.duals y feasible))
      (subst (λ q. zero_ℚ ‹ℚ q) infeasible.is_gap infeasible.positive)

-- ---- along a ray

-- the point, and so much of the ray
abbrev pub moved : Rational → List Rational → List Rational → List Rational
moved t x d = plus x (times t d)

module _ (model : ModelValue) (t : Rational) (x d : List Rational)
    (e : length x ≡ length (variables model)) (k : length d ≡ length (variables model)) where
  size_of : length (addresses_of (variables model)) ≡ length (variables model)
  size_of = length-map (variables model) address_of

  moved_at : at_point model (moved t x d) ≡ (λ v. at_point model x v +ℚ t *ℚ at_point model d v)
  moved_at = λ i v. each v i
    where
      each : (v : Address)
          → at_point model (moved t x d) v ≡ at_point model x v +ℚ t *ℚ at_point model d v
      each v =
          spread-plus (addresses_of (variables model)) x (times t d) v (e ∙ sym size_of)
          (length-times t d ∙ k ∙ sym size_of)
          ∙ ap (λ q. at_point model x v +ℚ q) (spread-times (addresses_of (variables model)) t d v)

  slope_moved : (f : Function)
      → slope f (at_point model (moved t x d))
      ≡ slope f (at_point model x) +ℚ t *ℚ slope f (at_point model d)
  slope_moved f =
      ap (slope f) moved_at
      ∙ linear-+ℚ (terms_of f) (at_point model x) (λ v. t *ℚ at_point model d v)
      ∙ ap (λ q. slope f (at_point model x) +ℚ q) (linear-*ℚ t (terms_of f) (at_point model d))

  value_moved : (f : Function)
      → value_of f (at_point model (moved t x d))
      ≡ value_of f (at_point model x) +ℚ t *ℚ slope f (at_point model d)
  unfolding value_of
  value_moved f =
      ap (λ q. f.constant +ℚ q) (slope_moved f)
      ∙ regrouped f.constant (slope f (at_point model x)) (t *ℚ slope f (at_point model d))
    where
      regrouped : (a b c : Rational) → a +ℚ (b +ℚ c) ≡ (a +ℚ b) +ℚ c
      regrouped = ring₃ _ (λ ρ. simp as_expression (by_ring ρ _ _ refl))

  values_moved : (fs : List Function)
      → values fs (at_point model (moved t x d))
      ≡ plus (values fs (at_point model x)) (times t (slopes fs (at_point model d)))
  values_moved [] = refl
  values_moved (f ∷ fs) = ap₂ (λ q qs. q ∷ qs) (value_moved f) (values_moved fs)

  module _ (a : zero_ℚ ≤ℚ t) where
    stays : (set : Set) (fs : List Function) → In set (values fs (at_point model x))
        → In (recession set) (slopes fs (at_point model d))
        → In set (values fs (at_point model (moved t x d)))
    stays set fs inside along =
        subst (In set) (sym (values_moved fs))
        (recession_stays t a set (values fs (at_point model x)) (slopes fs (at_point model d))
        (length-map fs (λ f. value_of f (at_point model x))
        ∙ sym (length-map fs (λ f. slope f (at_point model d)))) inside along)

    abbrev GroupStays : Group → Type 0
    GroupStays g = In g.set (values (functions_of_group g) (at_point model x))
        × In (recession g.set) (slopes (functions_of_group g) (at_point model d))

    abbrev RowStays : Row → Type 0
    RowStays r = In r.set (values (functions_of r.func) (at_point model x))
        × In (recession r.set) (slopes (functions_of r.func) (at_point model d))

    -- a feasible point stays feasible
    moved_feasible : IsFeasible model x → IsRay model d → IsFeasible model (moved t x d)
    moved_feasible feasible ray = record {
      size = length-plus x (times t d) (e ∙ sym k ∙ sym (length-times t d)) ∙ length-times t d ∙ k;
      groups = All-weaker GroupStays (λ g. In g.set
          (values (functions_of_group g) (at_point model (moved t x d))))
          (λ g p. stays g.set (functions_of_group g) p.0 p.1) model.groups
          (λ i z end. (feasible.groups i z end, ray.groups i z end));
      rows = All-weaker RowStays (λ r. In r.set (values (functions_of r.func)
          (at_point model (moved t x d)))) (λ r p. stays r.set (functions_of r.func) p.0 p.1)
          model.rows (λ i z end. (feasible.rows i z end, ray.rows i z end));
    }

-- ---- how far to go

-- some number above u that is at least 0
abbrev above : Rational → Rational
above u = one_ℚ +ℚ abs_ℚ u

above_nonneg : (u : Rational) → zero_ℚ ≤ℚ above u
above_nonneg u = nonneg_add one_ℚ (abs_ℚ u) one_nonneg (nonneg_abs_ℚ u)

-- it stays above where both have b added
past : (u b : Rational) → (u +ℚ b) ‹ℚ (above u +ℚ b)
past u b =
    subst (λ q. q ‹ℚ (above u +ℚ b)) (left u b)
    (subst (λ q. (zero_ℚ +ℚ (u +ℚ b)) ‹ℚ q) (right one_ℚ (abs_ℚ u) b)
    (‹ℚ-+ℚ zero_ℚ one_ℚ (u +ℚ b) (abs_ℚ u +ℚ b) zero_‹ℚ_one
    (≤ℚ-+ℚ_right u (abs_ℚ u) b ((≤ℚ_abs_ℚ u).0))))
  where
    left : (u b : Rational) → zero_ℚ +ℚ (u +ℚ b) ≡ u +ℚ b
    left u b = zero-+ℚ (u +ℚ b)

    right : (o m b : Rational) → o +ℚ (m +ℚ b) ≡ (o +ℚ m) +ℚ b
    right = ring₃ _ (λ ρ. simp as_expression (by_ring ρ _ _ refl))

-- so much of s comes to g
record Reaches (s g : Rational) : Type 0 where
  pub much : Rational
  pub nonneg : zero_ℚ ≤ℚ much
  pub reached : much *ℚ s ≡ g

enough : (s g : Rational) → zero_ℚ ‹ℚ s → zero_ℚ ≤ℚ g → Reaches s g
enough s g h a = record {
  much = g *ℚ inverse_ℚ s;
  nonneg = nonneg_mul g (inverse_ℚ s) a (≤ℚ_from_‹ℚ zero_ℚ (inverse_ℚ s) (above_inverse s h));
  reached = *ℚ_assoc g (inverse_ℚ s) s ∙ ap (λ q. g *ℚ q) (inverse_ℚ-*ℚ s not_zero) ∙ *ℚ-one g;
}
  where
    not_zero : ¬ (s ≡ zero_ℚ)
    not_zero e = not_‹ℚ_from_≤ℚ zero_ℚ zero_ℚ (≤ℚ_refl zero_ℚ) (subst (λ q. zero_ℚ ‹ℚ q) e h)

-- from v on, that much of an improving slope s improves on b
betters : (sense : Sense) (v s b : Rational) → IsBetter sense s zero_ℚ
    → (t : Rational) × ((zero_ℚ ≤ℚ t) × IsBetter sense (v +ℚ t *ℚ s) b)
betters Min v s b h =
    let r : Reaches (neg_ℚ s) (above (v -ℚ b)) = enough (neg_ℚ s) (above (v -ℚ b))
    (subst (λ q. q ‹ℚ neg_ℚ s) neg_ℚ-zero (neg_ℚ-‹ℚ s zero_ℚ h)) (above_nonneg (v -ℚ b))
    in (
      r.much,
      (
        r.nonneg,
        subst (λ q. q ‹ℚ b) (left v b (above (v -ℚ b))
            ∙ ap (λ q. v +ℚ q) (sym (turned r.much s (above (v -ℚ b)) r.reached)))
            (subst (λ q. ((v -ℚ b) +ℚ (b -ℚ above (v -ℚ b))) ‹ℚ q) (right b (above (v -ℚ b)))
            (past (v -ℚ b) (b -ℚ above (v -ℚ b)))),
      ),
    )
  where
    left : (v b g : Rational) → (v -ℚ b) +ℚ (b -ℚ g) ≡ v +ℚ neg_ℚ g
    left = ring₃ _ (λ ρ. simp as_expression (by_ring ρ _ _ refl))

    right : (b g : Rational) → g +ℚ (b -ℚ g) ≡ b
    right = ring₂ _ (λ ρ. simp as_expression (by_ring ρ _ _ refl))

    turned : (t s g : Rational) → t *ℚ neg_ℚ s ≡ g → t *ℚ s ≡ neg_ℚ g
    turned t s g e = sym (neg_ℚ-neg_ℚ (t *ℚ s)) ∙ ap neg_ℚ (sym (*ℚ-neg_ℚ t s) ∙ e)
betters Max v s b h =
    let r : Reaches s (above (b -ℚ v)) = enough s (above (b -ℚ v)) h (above_nonneg (b -ℚ v)) in (
      r.much,
      (
        r.nonneg,
        subst (λ q. q ‹ℚ (v +ℚ r.much *ℚ s)) (left b v)
            (subst (λ q. ((b -ℚ v) +ℚ v) ‹ℚ q) (right v (above (b -ℚ v))
            ∙ ap (λ q. v +ℚ q) (sym r.reached)) (past (b -ℚ v) v)),
      ),
    )
  where
    left : (b v : Rational) → (b -ℚ v) +ℚ v ≡ b
    left = ring₂ _ (λ ρ. simp as_expression (by_ring ρ _ _ refl))

    right : (v g : Rational) → g +ℚ v ≡ v +ℚ g
    right = ring₂ _ (λ ρ. simp as_expression (by_ring ρ _ _ refl))

module _ (model : ModelValue) where
  -- a feasible point whose value is better than b
  pub record BetterPoint (b : Rational) : Type 0 where
    pub point : List Rational
    pub feasible : IsFeasible model point
    pub better : IsBetter (sense_of model.objective) (objective_value model point) b

  -- every value is bettered
  pub some_is_better : (x d : List Rational) → IsUnbounded model x d → (b : Rational)
      → BetterPoint b
  some_is_better x d unbounded b =
      reached (betters (sense_of model.objective) (objective_value model x)
      (objective_slope model d) b unbounded.improves)
    where
      reached : ((t : Rational)
          × ((zero_ℚ ≤ℚ t)
          × IsBetter (sense_of model.objective) (objective_value model x
          +ℚ t *ℚ objective_slope model d) b)) → BetterPoint b
      reached p = record {
        point = moved p.0 x d;
        feasible = moved_feasible model p.0 x d unbounded.feasible.size unbounded.ray.size p.1.0
            unbounded.feasible unbounded.ray;
        better = subst (λ q. IsBetter (sense_of model.objective) q b)
            (sym (value_moved model p.0 x d unbounded.feasible.size unbounded.ray.size
            (objective_function model.objective))) p.1.1;
      }

  -- a model without an objective has no such certificate
  pub bounded_without_objective : model.objective ≡ objective.Feasibility → (x d : List Rational)
      → ¬ (IsUnbounded model x d)
  bounded_without_objective e x d unbounded =
      not_‹ℚ_from_≤ℚ zero_ℚ zero_ℚ (≤ℚ_refl zero_ℚ)
      (subst (λ q. q ‹ℚ zero_ℚ) (slope_constant_function zero_ℚ (at_point model d))
      (subst (λ o. IsBetter (sense_of o) (slope (objective_function o) (at_point model d)) zero_ℚ) e
      unbounded.improves))
