-- Lists of affine functions: their values and slopes by one notion, weighed, negated and composed;
-- variables and constant functions.
use mathlib.Core.List.{map-map}
use Rattle.std.specs.Prelude.{◌≡◌, List, [], ◌∷◌, map, refl}
use Rattle.std.proofs.Common.{sym, ◌∙◌, ap, ap₂}
use Rattle.ratio_core.specs.Rational.{Rational, neg_ℚ, one_ℚ, zero_ℚ, ◌*ℚ◌, ◌+ℚ◌}
use Rattle.rational_laws.specs.Dot.{dot}
use Rattle.rational_laws.specs.DotLaws.{dot_map-*ℚ, dot_map-+ℚ}
use Rattle.rational_laws.specs.Field.{*ℚ-zero, *ℚ_comm, +ℚ-*ℚ, +ℚ-zero, neg_ℚ-*ℚ, *ℚ-neg_ℚ, neg_ℚ-sum, one-*ℚ, zero-*ℚ, zero-+ℚ}
use Rattle.rational_laws.specs.Sums.{sum_by_ℚ-neg_ℚ, sum_by_ℚ_same}
use Rattle.aff_core.specs.Address.{Address, address_cmp}
use Rattle.aff_core.specs.Arithmetic.{composed}
use Rattle.aff_core.specs.ArithmeticLaws.{coefficient-composed, constant-composed, is_composition}
use Rattle.aff_core.specs.Function.{Function, IsNegated, coefficient, constant_function, evaluated, slope, value_of, variable}
use Rattle.aff_core.specs.FunctionLaws.{constant-constant_function, constant-variable, terms-constant_function, terms-variable}
use Rattle.aff_core.specs.FunctionLists.{coefficients, constants, evaluations, slopes, values}
use Rattle.aff_core.specs.KeyOrder.{address_order}
use Rattle.aff_core.specs.Points.{unit}
use Rattle.aff_core.specs.Terms.{linear}
use Rattle.linear_laws.specs.EvaluationLaws.{evaluated_composed, evaluated_slope, evaluated_value}
use Rattle.linear_laws.specs.SlopeLaws.{coefficient_by_unit, mentioned, slope_over}
use Rattle.linear_laws.specs.SupportLaws.{Supports, count, support, support_supports, supports_first, supports_second}
use Rattle.linear_laws.specs.UnitLaws.{same_or_other, unit_other}
use Rattle.std.specs.Prelude.{◌++◌}

map_both : {X Y Z : Type 0} (f : Y → Z) (h : X → Y) (g : X → Z) (xs : List X)
    → ((x : X) → f (h x) ≡ g x) → map f (map h xs) ≡ map g xs
map_both f h g xs e = map-map f h xs ∙ (λ i. map (λ x. e x i) xs)

-- ---- values and slopes

pub evaluations_values : (fs : List Function) (x : Address → Rational)
    → evaluations one_ℚ fs x ≡ values fs x
evaluations_values fs x = λ i. map (λ f. evaluated_value f x i) fs

pub evaluations_slopes : (fs : List Function) (x : Address → Rational)
    → evaluations zero_ℚ fs x ≡ slopes fs x
evaluations_slopes fs x = λ i. map (λ f. evaluated_slope f x i) fs

-- weighed, they are the constants weighed and the slopes weighed
pub dot_evaluations : (w : List Rational) (one : Rational) (fs : List Function)
    (x : Address → Rational)
    → dot w (evaluations one fs x) ≡ one *ℚ dot w (constants fs) +ℚ dot w (slopes fs x)
dot_evaluations w one fs x =
    dot_map-+ℚ w (λ f. one *ℚ f.constant) (λ f. slope f x) fs
    ∙ ap (λ q. q +ℚ dot w (slopes fs x)) (dot_map-*ℚ w one (λ f. f.constant) fs)

pub dot_values : (w : List Rational) (fs : List Function) (x : Address → Rational)
    → dot w (values fs x) ≡ dot w (constants fs) +ℚ dot w (slopes fs x)
dot_values w fs x =
    ap (dot w) (sym (evaluations_values fs x)) ∙ dot_evaluations w one_ℚ fs x
    ∙ ap (λ q. q +ℚ dot w (slopes fs x)) (one-*ℚ (dot w (constants fs)))

-- ---- variables and constant functions

linear_alone : (v : Address) (q : Rational) (x : Address → Rational)
    → linear ((v, q) ∷ []) x ≡ q *ℚ x v
unfolding linear
linear_alone v q x = +ℚ-zero (q *ℚ x v)

linear_none : (x : Address → Rational) → linear {K = Address} [] x ≡ zero_ℚ
unfolding linear
linear_none x = refl

pub slope_variable : (v : Address) (x : Address → Rational)
    → slope (variable {R = address_cmp} v) x ≡ x v
slope_variable v x =
    ap (λ ts. linear ts x) (terms-variable address_cmp v)
    ∙ linear_alone v one_ℚ x ∙ one-*ℚ (x v)

pub coefficient_variable : (u v : Address)
    → coefficient (variable {R = address_cmp} u) v ≡ unit v u
coefficient_variable u v = sym (coefficient_by_unit (variable u) v) ∙ slope_variable u (unit v)

-- a variable is its own number, at a point and along a ray
pub evaluated_variable : (one : Rational) (v : Address) (x : Address → Rational)
    → evaluated one (variable {R = address_cmp} v) x ≡ x v
evaluated_variable one v x =
    (λ i. one *ℚ constant-variable address_cmp v i +ℚ slope_variable v x i)
    ∙ ap (λ q. q +ℚ x v) (*ℚ-zero one) ∙ zero-+ℚ (x v)

pub evaluations_variables : (one : Rational) (vs : List Address) (x : Address → Rational)
    → evaluations one (map (λ v. variable {R = address_cmp} v) vs) x ≡ map x vs
evaluations_variables one vs x = map_both (λ f. evaluated one f x)
    (λ v. variable {R = address_cmp} v) x vs (λ v. evaluated_variable one v x)

weighed_variable : (w : Address → Rational) (u v : Address)
    → w u *ℚ coefficient (variable {R = address_cmp} u) v ≡ unit u v *ℚ w v
weighed_variable w u v =
    ap (λ q. w u *ℚ q) (coefficient_variable u v)
    ∙ same_or_other (w u *ℚ unit v u ≡ unit u v *ℚ w v) u v here there
  where
    here : u ≡ v → w u *ℚ unit v u ≡ unit u v *ℚ w v
    here e =
        *ℚ_comm (w u) (unit v u)
        ∙ ap₂ (λ b c. unit b c *ℚ w u) (sym e) e ∙ ap (λ a. unit u v *ℚ w a) e

    there : ¬ (u ≡ v) → w u *ℚ unit v u ≡ unit u v *ℚ w v
    there n =
        ap (λ q. w u *ℚ q) (unit_other v u (λ k. n (sym k))) ∙ *ℚ-zero (w u)
        ∙ sym (ap (λ q. q *ℚ w v) (unit_other u v n) ∙ zero-*ℚ (w v))

-- a point's numbers weigh a variable by its own number, as often as it stands in the list
pub weighed_variables : (w : Address → Rational) (us : List Address) (v : Address)
    → dot (map w us) (coefficients (map (variable {R = address_cmp}) us) v) ≡ count us v *ℚ w v
weighed_variables w [] v = sym (zero-*ℚ (w v))
weighed_variables w (u ∷ us) v =
    ap₂ ◌+ℚ◌ (weighed_variable w u v) (weighed_variables w us v)
    ∙ sym (+ℚ-*ℚ (unit u v) (count us v) (w v))

pub slope_constant_function : (k : Rational) (x : Address → Rational)
    → slope (constant_function {R = address_cmp} k) x ≡ zero_ℚ
slope_constant_function k x =
    ap (λ ts. linear ts x) (terms-constant_function address_cmp k) ∙ linear_none x

pub evaluated_constant_function : (one k : Rational) (x : Address → Rational)
    → evaluated one (constant_function {R = address_cmp} k) x ≡ one *ℚ k
evaluated_constant_function one k x =
    (λ i. one *ℚ constant-constant_function address_cmp k i +ℚ slope_constant_function k x i)
    ∙ +ℚ-zero (one *ℚ k)

-- ---- negated functions

pub slope_negated : (f h : Function) → IsNegated f h → (x : Address → Rational)
    → slope h x ≡ neg_ℚ (slope f x)
slope_negated f h n x =
    slope_over all h x (supports_first all (mentioned h) (mentioned f) each)
    ∙ sum_by_ℚ_same (λ u. coefficient h u *ℚ x u) (λ u. neg_ℚ (coefficient f u *ℚ x u)) all
    (λ u. ap (λ q. q *ℚ x u) (n.coefficients u) ∙ neg_ℚ-*ℚ (coefficient f u) (x u))
    ∙ sum_by_ℚ-neg_ℚ (λ u. coefficient f u *ℚ x u) all
    ∙ ap neg_ℚ (sym (slope_over all f x (supports_second all (mentioned h) (mentioned f) each)))
  where
    all : List Address
    all = support (mentioned h ++ mentioned f)

    each : Supports all (mentioned h ++ mentioned f)
    each = support_supports (mentioned h ++ mentioned f)

pub evaluated_negated : (one : Rational) (f h : Function) → IsNegated f h → (x : Address → Rational)
    → evaluated one h x ≡ neg_ℚ (evaluated one f x)
evaluated_negated one f h n x =
    ap₂ ◌+ℚ◌ (ap (λ q. one *ℚ q) n.constant ∙ *ℚ-neg_ℚ one f.constant) (slope_negated f h n x)
    ∙ sym (neg_ℚ-sum (one *ℚ f.constant) (slope f x))

-- ---- composed functions

module _ (e : Address → Function) (fs : List Function) where
  pub evaluations-composed : (one : Rational) (x : Address → Rational)
      → evaluations one (map (composed e) fs) x ≡ evaluations one fs (λ u. evaluated one (e u) x)
  evaluations-composed one x =
      map_both (λ f. evaluated one f x) (composed e)
      (λ f. evaluated one f (λ u. evaluated one (e u) x)) fs
      (λ f. evaluated_composed one e f (composed e f)
      (is_composition address_order e f (composed e f) refl) x)

  -- the adjoint of a substitution: coefficients are the slopes at those of the expressions
  pub coefficients-composed : (v : Address)
      → coefficients (map (composed e) fs) v ≡ slopes fs (λ u. coefficient (e u) v)
  coefficients-composed v =
      map_both (λ f. coefficient f v) (composed e) (λ f. slope f (λ u. coefficient (e u) v)) fs
      (λ f. coefficient-composed address_order e f v)

  pub constants-composed : constants (map (composed e) fs) ≡ values fs (λ u. (e u).constant)
  constants-composed =
      map_both (λ f. f.constant) (composed e) (λ f. value_of f (λ u. (e u).constant)) fs
      (λ f. constant-composed address_order e f)
