-- Functions with slacks: their values and coefficients, and which addresses they are of.
--     HasVariablesBelow n f  the function is of addresses whose numbers are below n
use Rattle.std.specs.Prelude.{◌≡◌, ◌≢◌, ℕ, suc, ◌+◌, ◌<◌, ◌≤◌, Bool, true, false, cond, List, [], ◌∷◌, All, None, Some, length, unwrap_or, refl}
use Rattle.std.specs.Ordering.{eq_by_cmp}
use Rattle.std.proofs.Common.{ap, ap₂, arith, subst, sym, ◌∙◌}
use Rattle.std.proofs.lemmas.List.Elements.{All-cons, All-head, All-nil, All-tail}
use Rattle.ratio_core.specs.Rational.{Rational, one_ℚ, zero_ℚ, ◌*ℚ◌, ◌+ℚ◌}
use Rattle.rational_laws.specs.Dot.{dot}
use Rattle.rational_laws.specs.Field.{+ℚ-zero, +ℚ_assoc, zero-+ℚ}
use Rattle.aff_core.specs.Address.{Address, address_cmp}
use Rattle.aff_core.specs.Arithmetic.{sum_of}
use Rattle.aff_core.specs.ArithmeticLaws.{coefficient-sum_of, constant-sum_of, is_sum}
use Rattle.aff_core.specs.Function.{Function, coefficient, function_of, value_of, with_coefficient}
use Rattle.aff_core.specs.FunctionLaws.{coefficient-function_of, coefficient-with, constant-function_of, constant-with, same_coefficients}
use Rattle.aff_core.specs.FunctionLists.{coefficients, values}
use Rattle.aff_core.specs.KeyOrder.{address_order, key_eq-Decides, other_key, same_key}
use Rattle.linear_laws.specs.EvaluationLaws.{evaluated_sum, evaluated_value}
use Rattle.linear_laws.specs.SlopeLaws.{slope_agreeing}
use Rattle.linear_laws.specs.UnitLaws.{zero_or_other}
use Rattle.user_model.specs.Model.{variable_address}
use Rattle.group_numbering.specs.NewGroups.{terms_from}
use Rattle.group_numbering.specs.NumberLaws.{numbers_from, terms_rise, value_from}
use Rattle.relaxed_model.specs.Relaxed.{with_slacks}

abbrev pub HasVariablesBelow : ℕ → Function → Type 0
HasVariablesBelow n f = (v : Address) → ¬ (coefficient f v ≡ zero_ℚ) → v.number < n

pub below_from : (first n : ℕ) → first ≤ n → (f : Function) → HasVariablesBelow first f
    → HasVariablesBelow n f
below_from first n h f below v some = let less = below v some in omega (arith, less, h)

-- points that agree below n give such a function one value
pub value_below : (n : ℕ) (f : Function) (x y : Address → Rational) → HasVariablesBelow n f
    → ((v : Address) → v.number < n → x v ≡ y v) → value_of f x ≡ value_of f y
unfolding value_of
value_below n f x y below agree =
    ap (λ q. f.constant +ℚ q) (slope_agreeing f x y (λ v h. agree v (below v h)))

pub values_below : (n : ℕ) (fs : List Function) (x y : Address → Rational)
    → All {X = Function} (HasVariablesBelow n) fs → ((v : Address) → v.number < n → x v ≡ y v)
    → values fs x ≡ values fs y
values_below n [] x y below agree = refl
values_below n (f ∷ fs) x y below agree =
    ap₂ (λ q qs. q ∷ qs) (value_below n f x y (All-head (HasVariablesBelow n) f fs below) agree)
    (values_below n fs x y (All-tail (HasVariablesBelow n) f fs below) agree)

pub zero_from : (n : ℕ) (f : Function) → HasVariablesBelow n f → (v : Address) → n ≤ v.number
    → coefficient f v ≡ zero_ℚ
zero_from n f below v h =
    zero_or_other (coefficient f v ≡ zero_ℚ) (coefficient f v) (λ e. e)
    (λ some. let less = below v some in absurd (omega (arith, less, h)))

-- such functions have the coefficient 0 at each address from n on
pub zeros_from : (n : ℕ) (fs : List Function) → All {X = Function} (HasVariablesBelow n) fs → (v : Address)
    → n ≤ v.number → All (λ q. q ≡ zero_ℚ) (coefficients fs v)
zeros_from n [] below v h = All-nil (λ q. q ≡ zero_ℚ)
zeros_from n (f ∷ fs) below v h =
    All-cons (λ q. q ≡ zero_ℚ) (coefficient f v) (coefficients fs v)
    (zero_from n f (All-head (HasVariablesBelow n) f fs below) v h)
    (zeros_from n fs (All-tail (HasVariablesBelow n) f fs below) v h)

-- ---- one slack

abbrev alone : ℕ → Rational → Function
alone n q = function_of (terms_from n (q ∷ [])) zero_ℚ

coefficient_alone : (n : ℕ) (q : Rational) (v : Address)
    → coefficient (alone n q) v ≡ cond (eq_by_cmp address_cmp v (variable_address n)) q zero_ℚ
coefficient_alone n q v =
    coefficient-function_of address_order (terms_from n (q ∷ [])) zero_ℚ v (terms_rise n (q ∷ []))
    ∙ by (eq_by_cmp address_cmp v (variable_address n))
  where
    by : (b : Bool) → unwrap_or (cond b (Some q) None) zero_ℚ ≡ cond b q zero_ℚ
    by true = refl
    by false = refl

module _ (n : ℕ) (q : Rational) (f : Function) (none : coefficient f (variable_address n) ≡ zero_ℚ)
  where
    -- a coefficient that was 0 is set by a sum
    with_alone : with_coefficient f (variable_address n) q ≡ sum_of f (alone n q)
    with_alone =
        same_coefficients address_order (with_coefficient f (variable_address n) q)
        (sum_of f (alone n q)) each
        (constant-with address_order f (variable_address n) q
        ∙ sym (+ℚ-zero f.constant)
        ∙ ap (λ k. f.constant +ℚ k) (sym (constant-function_of address_cmp (terms_from n (q ∷ [])) zero_ℚ))
        ∙ sym (constant-sum_of address_order f (alone n q)))
      where
        by : (v : Address) (b : Bool) → eq_by_cmp address_cmp v (variable_address n) ≡ b
            → cond b q (coefficient f v) ≡ coefficient f v +ℚ cond b q zero_ℚ
        by v true e =
            sym (ap (λ c. c +ℚ q) (ap (coefficient f)
            ((key_eq-Decides address_order v (variable_address n)).0 e) ∙ none) ∙ zero-+ℚ q)
        by v false e = sym (+ℚ-zero (coefficient f v))

        each : (v : Address) → coefficient (with_coefficient f (variable_address n) q) v
            ≡ coefficient (sum_of f (alone n q)) v
        each v =
            coefficient-with address_order f (variable_address n) q v
            ∙ by v (eq_by_cmp address_cmp v (variable_address n)) refl
            ∙ ap (λ c. coefficient f v +ℚ c) (sym (coefficient_alone n q v))
            ∙ sym (coefficient-sum_of address_order f (alone n q) v)

    value_with_one : (x : Address → Rational)
        → value_of (with_coefficient f (variable_address n) q) x
        ≡ value_of f x +ℚ q *ℚ x (variable_address n)
    value_with_one x =
        sym (evaluated_value (with_coefficient f (variable_address n) q) x)
        ∙ evaluated_sum one_ℚ f (alone n q) (with_coefficient f (variable_address n) q)
        (is_sum address_order f (alone n q) (with_coefficient f (variable_address n) q) with_alone) x
        ∙ ap₂ ◌+ℚ◌ (evaluated_value f x)
        (evaluated_value (alone n q) x ∙ value_from n (q ∷ []) zero_ℚ x
        ∙ zero-+ℚ (q *ℚ x (variable_address n) +ℚ zero_ℚ) ∙ +ℚ-zero (q *ℚ x (variable_address n)))

one_below : (n : ℕ) (q : Rational) (f : Function) → HasVariablesBelow n f
    → HasVariablesBelow (suc n) (with_coefficient f (variable_address n) q)
one_below n q f below v some = by (eq_by_cmp address_cmp v (variable_address n)) refl
  where
    by : (b : Bool) → eq_by_cmp address_cmp v (variable_address n) ≡ b → v.number < suc n
    by true e =
        let same : v.number ≡ n = ap (λ (a : Address). a.number)
        ((key_eq-Decides address_order v (variable_address n)).0 e) in
        omega (arith, same)
    by false e =
        let less = below v (λ none. some
        (coefficient-with address_order f (variable_address n) q v
        ∙ ap (λ b. cond b q (coefficient f v)) e ∙ none)) in
        omega (arith, less)

-- ---- slacks one after another

along : (n k : ℕ) → suc n + k ≡ n + suc k
along n k = omega arith

pub slacks_below : (n : ℕ) (qs : List Rational) (f : Function) → HasVariablesBelow n f
    → HasVariablesBelow (n + length qs) (with_slacks n qs f)
slacks_below n [] f below =
    let same : n ≡ n + 0 = omega arith in subst (λ k. HasVariablesBelow k f) same below
slacks_below n (q ∷ qs) f below =
    subst (λ k. HasVariablesBelow k (with_slacks n (q ∷ qs) f)) (along n (length qs))
    (slacks_below (suc n) qs (with_coefficient f (variable_address n) q) (one_below n q f below))

pub value_with_slacks : (n : ℕ) (qs : List Rational) (f : Function) (x : Address → Rational)
    → HasVariablesBelow n f
    → value_of (with_slacks n qs f) x ≡ value_of f x +ℚ dot qs (numbers_from x n (length qs))
value_with_slacks n [] f x below = sym (+ℚ-zero (value_of f x))
value_with_slacks n (q ∷ qs) f x below =
    value_with_slacks (suc n) qs (with_coefficient f (variable_address n) q) x (one_below n q f below)
    ∙ ap (λ p. p +ℚ dot qs (numbers_from x (suc n) (length qs)))
    (value_with_one n q f (zero_from n f below (variable_address n) (omega arith)) x)
    ∙ +ℚ_assoc (value_of f x) (q *ℚ x (variable_address n))
    (dot qs (numbers_from x (suc n) (length qs)))

-- an address of a lesser number is another
pub other_number : (v : Address) (n : ℕ) → v.number < n → v ≢ variable_address n
other_number v n h e =
    let same : v.number ≡ n = ap (λ (a : Address). a.number) e in absurd (omega (arith, same, h))

-- below n nothing is changed
pub coefficient_kept : (n : ℕ) (qs : List Rational) (f : Function) (v : Address) → v.number < n
    → coefficient (with_slacks n qs f) v ≡ coefficient f v
coefficient_kept n [] f v h = refl
coefficient_kept n (q ∷ qs) f v h =
    coefficient_kept (suc n) qs (with_coefficient f (variable_address n) q) v (omega (arith, h))
    ∙ coefficient-with address_order f (variable_address n) q v
    ∙ ap (λ b. cond b q (coefficient f v))
    (other_key address_order v (variable_address n) (other_number v n h))

pub constant_kept : (n : ℕ) (qs : List Rational) (f : Function)
    → (with_slacks n qs f).constant ≡ f.constant
constant_kept n [] f = refl
constant_kept n (q ∷ qs) f =
    constant_kept (suc n) qs (with_coefficient f (variable_address n) q)
    ∙ constant-with address_order f (variable_address n) q

-- the first slack has its coefficient
pub coefficient_first : (n : ℕ) (q : Rational) (qs : List Rational) (f : Function)
    → coefficient (with_slacks n (q ∷ qs) f) (variable_address n) ≡ q
coefficient_first n q qs f =
    coefficient_kept (suc n) qs (with_coefficient f (variable_address n) q) (variable_address n)
    (omega arith)
    ∙ coefficient-with address_order f (variable_address n) q (variable_address n)
    ∙ ap (λ b. cond b q (coefficient f (variable_address n)))
    (same_key address_order (variable_address n))

pub coefficient_second : (n : ℕ) (p q : Rational) (f : Function)
    → coefficient (with_slacks n (p ∷ q ∷ []) f) (variable_address (suc n)) ≡ q
coefficient_second n p q f = coefficient_first (suc n) q [] (with_coefficient f (variable_address n) p)
