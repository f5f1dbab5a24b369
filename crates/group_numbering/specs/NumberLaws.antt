-- Functions of such variables at a point: a function of coefficients in the variables' order is the
-- product of the coefficients with the numbers that are there.
use Rattle.std.specs.Prelude.{◌≡◌, ℕ, zero, suc, ◌+◌, ◌<◌, ◌≤◌, Bool, true, false, ◌&&◌, cond, filter, List, [], ◌∷◌, ◌++◌, length, not, refl}
use Rattle.std.specs.FinMap.{is_sorted}
use Rattle.std.specs.FinMap.Entries.{below_all}
use Rattle.std.specs.Ordering.{is_lt, ordering_then}
use Rattle.std.specs.declared.cmp.Ordering.TheVariants.{Equal, Less}
use Rattle.std.proofs.Common.{sym, ◌∙◌, ap, ap₂, arith}
use Rattle.map_laws.specs.TestLaws.{less_number}
use Rattle.ratio_core.specs.Rational.{Rational, rational_eq, zero_ℚ, ◌*ℚ◌, ◌+ℚ◌}
use Rattle.ratio_core.specs.RationalLaws.{rational_eq-true}
use Rattle.rational_laws.specs.Dot.{dot}
use Rattle.rational_laws.specs.Field.{+ℚ_assoc, zero-*ℚ, zero-+ℚ}
use Rattle.aff_core.specs.Address.{Address, address_cmp}
use Rattle.aff_core.specs.Function.{function_of, value_of}
use Rattle.aff_core.specs.FunctionLaws.{constant-function_of, terms-function_of}
use Rattle.aff_core.specs.Rising.{RiseStrictly}
use Rattle.aff_core.specs.Terms.{is_nonzero, linear}
use Rattle.user_model.specs.Model.{variable_address}
use Rattle.group_numbering.specs.NewGroups.{terms_from}

-- the numbers at the variables from the n-th on
abbrev pub numbers_from : (Address → Rational) → ℕ → ℕ → List Rational
numbers_from x n zero = []
numbers_from x n (suc k) = x (variable_address n) ∷ numbers_from x (suc n) k

pub length-numbers_from : (x : Address → Rational) (n k : ℕ) → length (numbers_from x n k) ≡ k
length-numbers_from x n zero = refl
length-numbers_from x n (suc k) = ap suc (length-numbers_from x (suc n) k)

pub numbers_from-append : (x : Address → Rational) (n j k : ℕ)
    → numbers_from x n (j + k) ≡ numbers_from x n j ++ numbers_from x (n + j) k
numbers_from-append x n zero k =
    let none : 0 + k ≡ k = omega arith in let stay : n + 0 ≡ n = omega arith in
    ap (numbers_from x n) none ∙ ap (λ m. numbers_from x m k) (sym stay)
numbers_from-append x n (suc j) k =
    let more : suc j + k ≡ suc (j + k) = omega arith in
    let on : suc n + j ≡ n + suc j = omega arith in
    ap (numbers_from x n) more
    ∙ ap (λ qs. x (variable_address n) ∷ qs) (numbers_from-append x (suc n) j k
    ∙ ap (λ m. numbers_from x (suc n) j ++ numbers_from x m k) on)

-- ---- sums of terms

pub linear-append : (ts us : List (Address × Rational)) (x : Address → Rational)
    → linear (ts ++ us) x ≡ linear ts x +ℚ linear us x
unfolding linear
linear-append [] us x = sym (zero-+ℚ (linear us x))
linear-append (t ∷ ts) us x =
    ap (λ s. t.1 *ℚ x t.0 +ℚ s) (linear-append ts us x)
    ∙ sym (+ℚ_assoc (t.1 *ℚ x t.0) (linear ts x) (linear us x))

-- terms that are 0 add nothing
linear_nonzero : (ts : List (Address × Rational)) (x : Address → Rational)
    → linear (filter is_nonzero ts) x ≡ linear ts x
unfolding linear
linear_nonzero [] x = refl
linear_nonzero (t ∷ ts) x = by (linear_nonzero ts x) (rational_eq t.1 zero_ℚ) refl
  where
    by : linear (filter is_nonzero ts) x ≡ linear ts x → (b : Bool) → rational_eq t.1 zero_ℚ ≡ b
        → linear (cond (not b) (t ∷ filter is_nonzero ts) (filter is_nonzero ts)) x
        ≡ t.1 *ℚ x t.0 +ℚ linear ts x
    by rest true e =
        rest ∙ sym (zero-+ℚ (linear ts x))
        ∙ ap (λ s. s +ℚ linear ts x)
        (sym (ap (λ q. q *ℚ x t.0) (rational_eq-true t.1 zero_ℚ e) ∙ zero-*ℚ (x t.0)))
    by rest false e = ap (λ s. t.1 *ℚ x t.0 +ℚ s) rest

pub linear-terms_from : (n : ℕ) (qs : List Rational) (x : Address → Rational)
    → linear (terms_from n qs) x ≡ dot qs (numbers_from x n (length qs))
unfolding linear
linear-terms_from n [] x = refl
linear-terms_from n (q ∷ qs) x =
    ap (λ s. q *ℚ x (variable_address n) +ℚ s) (linear-terms_from (suc n) qs x)

-- ---- terms in the order of their variables

less_address : (m n : ℕ) → m < n → address_cmp (variable_address m) (variable_address n) ≡ Less
unfolding address_cmp
less_address m n h = ap (λ o. ordering_then o Equal) (less_number m n h)

both_true : (a b : Bool) → a ≡ true → b ≡ true → (a && b) ≡ true
both_true a b e k = ap₂ ◌&&◌ e k

below_terms : (m n : ℕ) (qs : List Rational) → m < n
    → below_all address_cmp (variable_address m) (terms_from n qs) ≡ true
below_terms m n [] h = refl
below_terms m n (q ∷ qs) h =
    both_true _ _ (ap is_lt (less_address m n h)) (below_terms m (suc n) qs (omega (arith, h)))

below_append : (at : Address) (ts us : List (Address × Rational))
    → below_all address_cmp at ts ≡ true → below_all address_cmp at us ≡ true
    → below_all address_cmp at (ts ++ us) ≡ true
below_append at [] us h k = k
below_append at (t ∷ ts) us h k =
    by (λ e. below_append at ts us e k) (is_lt (address_cmp at t.0)) h
  where
    by : (below_all address_cmp at ts ≡ true → below_all address_cmp at (ts ++ us) ≡ true)
        → (b : Bool) → (b && below_all address_cmp at ts) ≡ true
        → (b && below_all address_cmp at (ts ++ us)) ≡ true
    by rest true e = rest e
    by rest false e = e

sorted_one : (n : ℕ) (qs : List Rational) → is_sorted address_cmp (terms_from n qs) ≡ true
sorted_one n [] = refl
sorted_one n (q ∷ qs) =
    both_true _ _ (below_terms n (suc n) qs (omega arith)) (sorted_one (suc n) qs)

-- terms from the n-th variable on, and behind them others from a later one on
sorted_terms : (n : ℕ) (qs : List Rational) (m : ℕ) (ps : List Rational) → n + length qs ≤ m
    → is_sorted address_cmp (terms_from n qs ++ terms_from m ps) ≡ true
sorted_terms n [] m ps h = sorted_one m ps
sorted_terms n (q ∷ qs) m ps h =
    both_true _ _
    (below_append (variable_address n) (terms_from (suc n) qs) (terms_from m ps)
    (below_terms n (suc n) qs (omega arith)) (below_terms n m ps (omega (arith, h))))
    (sorted_terms (suc n) qs m ps (omega (arith, h)))

pub terms_rise : (n : ℕ) (qs : List Rational) → RiseStrictly (terms_from n qs)
terms_rise n qs = record { rising = sorted_one n qs }

-- ---- values

value_of_rising : (ts : List (Address × Rational)) (k : Rational) (x : Address → Rational)
    → RiseStrictly ts → value_of {R = address_cmp} (function_of ts k) x ≡ k +ℚ linear ts x
unfolding value_of
value_of_rising ts k x rise =
    ap₂ ◌+ℚ◌ (constant-function_of address_cmp ts k)
    (ap (λ us. linear us x) (terms-function_of ts k rise) ∙ linear_nonzero ts x)

pub value_from : (n : ℕ) (qs : List Rational) (k : Rational) (x : Address → Rational)
    → value_of {R = address_cmp} (function_of (terms_from n qs) k) x
    ≡ k +ℚ dot qs (numbers_from x n (length qs))
value_from n qs k x =
    value_of_rising (terms_from n qs) k x (terms_rise n qs)
    ∙ ap (λ s. k +ℚ s) (linear-terms_from n qs x)

pub value_from_two : (n : ℕ) (qs : List Rational) (m : ℕ) (ps : List Rational) (k : Rational)
    (x : Address → Rational) → n + length qs ≤ m
    → value_of {R = address_cmp} (function_of (terms_from n qs ++ terms_from m ps) k) x
    ≡ k +ℚ (dot qs (numbers_from x n (length qs)) +ℚ dot ps (numbers_from x m (length ps)))
value_from_two n qs m ps k x h =
    value_of_rising (terms_from n qs ++ terms_from m ps) k x
    (record { rising = sorted_terms n qs m ps h })
    ∙ ap (λ s. k +ℚ s) (linear-append (terms_from n qs) (terms_from m ps) x
    ∙ ap₂ ◌+ℚ◌ (linear-terms_from n qs x) (linear-terms_from m ps x))
