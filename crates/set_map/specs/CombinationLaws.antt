-- The laws of combinations: their constants, coefficients, values and slopes are the weighed ones of the
-- functions.
use Rattle.std.specs.Prelude.{◌≡◌, List, [], ◌∷◌, ◌++◌, map, refl}
use Rattle.std.proofs.Common.{sym, ◌∙◌, ap, ap₂}
use mathlib.Core.List.{map-map}
use Rattle.ratio_core.specs.Rational.{Rational, one_ℚ, zero_ℚ, ◌*ℚ◌, ◌+ℚ◌}
use Rattle.rational_laws.specs.Dot.{dot}
use Rattle.rational_laws.specs.Field.{*ℚ_assoc, *ℚ-zero, +ℚ-zero, +ℚ_assoc, zero-+ℚ}
use Rattle.rational_laws.specs.Ring.{as_expression, by_ring, ring₄}
use Rattle.rational_laws.specs.Sums.{sum_by_ℚ-*ℚ, sum_by_ℚ_same}
use Rattle.aff_core.specs.Address.{Address, address_cmp}
use Rattle.aff_core.specs.Arithmetic.{IsMultiple, scaled, sum_of}
use Rattle.aff_core.specs.ArithmeticLaws.{coefficient-scaled, coefficient-sum_of, constant-scaled, constant-sum_of, is_multiple, is_sum}
use Rattle.aff_core.specs.Function.{Function, coefficient, constant_function, evaluated, slope}
use Rattle.aff_core.specs.FunctionLaws.{coefficient-constant_function, constant-constant_function, same_coefficients}
use Rattle.aff_core.specs.FunctionLists.{coefficients, constants, evaluations, slopes, values}
use Rattle.aff_core.specs.KeyOrder.{address_order}
use Rattle.linear_laws.specs.EvaluationLaws.{evaluated_sum}
use Rattle.linear_laws.specs.ListLaws.{evaluated_constant_function, evaluations_slopes, evaluations_values}
use Rattle.linear_laws.specs.SlopeLaws.{mentioned, slope_over}
use Rattle.linear_laws.specs.SupportLaws.{Supports, support, support_supports, supports_first, supports_second}
use Rattle.set_map.specs.Combinations.{IsMapped, combined, combined_from, mapped}
use Rattle.set_map.specs.Matrices.{Matrix, applied}

-- ---- multiples

slope_multiple : (q : Rational) (f h : Function) → IsMultiple q f h → (x : Address → Rational)
    → slope h x ≡ q *ℚ slope f x
slope_multiple q f h is x =
    slope_over all h x (supports_first all (mentioned h) (mentioned f) each)
    ∙ sum_by_ℚ_same (λ u. coefficient h u *ℚ x u) (λ u. q *ℚ (coefficient f u *ℚ x u)) all
    (λ u. ap (λ c. c *ℚ x u) (is.coefficients u) ∙ *ℚ_assoc q (coefficient f u) (x u))
    ∙ sum_by_ℚ-*ℚ q (λ u. coefficient f u *ℚ x u) all
    ∙ ap (λ s. q *ℚ s) (sym (slope_over all f x (supports_second all (mentioned h) (mentioned f) each)))
  where
    all : List Address
    all = support (mentioned h ++ mentioned f)

    each : Supports all (mentioned h ++ mentioned f)
    each = support_supports (mentioned h ++ mentioned f)

regrouped : (o q k s : Rational) → o *ℚ (q *ℚ k) +ℚ q *ℚ s ≡ q *ℚ (o *ℚ k +ℚ s)
regrouped = ring₄ _ (λ ρ. simp as_expression (by_ring ρ _ _ refl))

evaluated_multiple : (one q : Rational) (f h : Function) → IsMultiple q f h
    → (x : Address → Rational) → evaluated one h x ≡ q *ℚ evaluated one f x
evaluated_multiple one q f h is x =
    ap₂ ◌+ℚ◌ (ap (λ k. one *ℚ k) is.constant) (slope_multiple q f h is x)
    ∙ regrouped one q f.constant (slope f x)

-- ---- combinations

-- what is linear in functions is weighed by a combination
weighed : (part : Function → Rational)
    → ((sum f : Function) (q : Rational) → part (sum_of sum (scaled q f)) ≡ part sum +ℚ q *ℚ part f)
    → (sum : Function) (w : List Rational) (fs : List Function)
    → part (combined_from sum w fs) ≡ part sum +ℚ dot w (map part fs)
unfolding combined_from
weighed part linear sum [] fs = sym (+ℚ-zero (part sum))
weighed part linear sum (q ∷ w) [] = sym (+ℚ-zero (part sum))
weighed part linear sum (q ∷ w) (f ∷ fs) =
    weighed part linear (sum_of sum (scaled q f)) w fs
    ∙ ap (λ s. s +ℚ dot w (map part fs)) (linear sum f q)
    ∙ +ℚ_assoc (part sum) (q *ℚ part f) (dot w (map part fs))

-- and from 0 on it is nothing else
weighed_whole : (part : Function → Rational)
    → ((sum f : Function) (q : Rational) → part (sum_of sum (scaled q f)) ≡ part sum +ℚ q *ℚ part f)
    → part (constant_function zero_ℚ) ≡ zero_ℚ → (w : List Rational) (fs : List Function)
    → part (combined w fs) ≡ dot w (map part fs)
weighed_whole part linear nothing w fs =
    weighed part linear (constant_function zero_ℚ) w fs
    ∙ ap (λ s. s +ℚ dot w (map part fs)) nothing ∙ zero-+ℚ (dot w (map part fs))

constant_part : Function → Rational
constant_part f = f.constant

pub constant-combined : (w : List Rational) (fs : List Function)
    → (combined w fs).constant ≡ dot w (constants fs)
unfolding constant_part
constant-combined w fs =
    weighed_whole constant_part
    (λ sum f q. constant-sum_of address_order sum (scaled q f)
    ∙ ap (λ k. sum.constant +ℚ k) (constant-scaled address_order q f))
    (constant-constant_function address_cmp zero_ℚ) w fs

pub coefficient-combined : (w : List Rational) (fs : List Function) (v : Address)
    → coefficient (combined w fs) v ≡ dot w (coefficients fs v)
coefficient-combined w fs v =
    weighed_whole (λ f. coefficient f v)
    (λ sum f q. coefficient-sum_of address_order sum (scaled q f) v
    ∙ ap (λ k. coefficient sum v +ℚ k) (coefficient-scaled address_order q f v))
    (coefficient-constant_function address_order zero_ℚ v) w fs

pub evaluated_combined : (one : Rational) (w : List Rational) (fs : List Function)
    (x : Address → Rational)
    → evaluated one (combined w fs) x ≡ dot w (evaluations one fs x)
evaluated_combined one w fs x =
    weighed_whole (λ f. evaluated one f x)
    (λ sum f q. evaluated_sum one sum (scaled q f) (sum_of sum (scaled q f))
    (is_sum address_order sum (scaled q f) (sum_of sum (scaled q f)) refl) x
    ∙ ap (λ k. evaluated one sum x +ℚ k) (evaluated_multiple one q f (scaled q f)
    (is_multiple address_order q f (scaled q f) refl) x))
    (evaluated_constant_function one zero_ℚ x ∙ *ℚ-zero one) w fs

-- ---- mapped functions

-- what a combination weighs, the matrix is applied to
of_mapped : (part : Function → Rational)
    → ((w : List Rational) (fs : List Function) → part (combined w fs) ≡ dot w (map part fs))
    → (m : Matrix) (fs : List Function) → map part (mapped m fs) ≡ applied m (map part fs)
of_mapped part weighs m fs =
    map-map part (λ row. combined row fs) m ∙ (λ k. map (λ row. weighs row fs k) m)

pub constants-mapped : (m : Matrix) (fs : List Function)
    → constants (mapped m fs) ≡ applied m (constants fs)
constants-mapped m fs = of_mapped (λ f. f.constant) constant-combined m fs

pub coefficients-mapped : (m : Matrix) (fs : List Function) (v : Address)
    → coefficients (mapped m fs) v ≡ applied m (coefficients fs v)
coefficients-mapped m fs v =
    of_mapped (λ f. coefficient f v) (λ w fs. coefficient-combined w fs v) m fs

pub evaluations-mapped : (one : Rational) (m : Matrix) (fs : List Function)
    (x : Address → Rational)
    → evaluations one (mapped m fs) x ≡ applied m (evaluations one fs x)
evaluations-mapped one m fs x =
    of_mapped (λ f. evaluated one f x) (λ w fs. evaluated_combined one w fs x) m fs

pub values-mapped : (m : Matrix) (fs : List Function) (x : Address → Rational)
    → values (mapped m fs) x ≡ applied m (values fs x)
values-mapped m fs x =
    sym (evaluations_values (mapped m fs) x) ∙ evaluations-mapped one_ℚ m fs x
    ∙ ap (applied m) (evaluations_values fs x)

pub slopes-mapped : (m : Matrix) (fs : List Function) (x : Address → Rational)
    → slopes (mapped m fs) x ≡ applied m (slopes fs x)
slopes-mapped m fs x =
    sym (evaluations_slopes (mapped m fs) x) ∙ evaluations-mapped zero_ℚ m fs x
    ∙ ap (applied m) (evaluations_slopes fs x)

pub is_mapped : (m : Matrix) (fs gs : List Function) → gs ≡ mapped m fs → IsMapped m fs gs
is_mapped m fs gs e = record {
  same = e;
  constants = ap constants e ∙ constants-mapped m fs;
  coefficients = λ v. ap (λ hs. coefficients hs v) e ∙ coefficients-mapped m fs v;
}

-- combinations whose weights weigh alike are equal
pub combined_alike : (w y : List Rational) (fs gs : List Function)
    → ((v : Address) → dot w (coefficients fs v) ≡ dot y (coefficients gs v))
    → dot w (constants fs) ≡ dot y (constants gs) → combined w fs ≡ combined y gs
combined_alike w y fs gs coefficients_alike constants_alike =
    same_coefficients address_order (combined w fs) (combined y gs)
    (λ v. coefficient-combined w fs v ∙ coefficients_alike v ∙ sym (coefficient-combined y gs v))
    (constant-combined w fs ∙ constants_alike ∙ sym (constant-combined y gs))
