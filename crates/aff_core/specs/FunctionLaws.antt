-- Affine functions by their coefficients: those of a function that is made, equal functions, and
-- one coefficient changed.
use Rattle.std.specs.Prelude.{◌≡◌, ◌≢◌, Bool, true, false, not, cond, List, [], ◌∷◌, filter, map, All, Option, Some, None, T, unwrap_or, refl}
use Rattle.std.proofs.Common.{sym, ap, subst, ◌∙◌}
use Rattle.std.proofs.lemmas.List.Elements.{All-cons, All-head, All-map, All-nil, All-tail, All-weaker, filter_passes}
use Rattle.std.proofs.lemmas.Map.Keys.{IsDistinct-head, IsDistinct-tail}
use Rattle.std.specs.Cmp.{eq_by_cmp_equiv}
use Rattle.std.specs.List.{AllByRecursion}
use Rattle.std.proofs.lemmas.List.Sums.{AllPass-from_list_all, list_all-from_AllPass}
use Rattle.std.proofs.lemmas.Option.{same_Some}
use Rattle.std.specs.Bool.{passes}
use Rattle.std.specs.Option.{option_map}
use Rattle.std.specs.Ordering.{eq_by_cmp}
use Rattle.std.specs.declared.cmp.Ordering.{Ordering}
use Rattle.std.specs.FinMap as finite
use Rattle.std.specs.FinMap.{FinMap, find, is_sorted}
use Rattle.std.specs.FinMap.Entries.{below_all}
use Rattle.ratio_core.specs.Rational.{Rational, zero_ℚ, one_ℚ, neg_ℚ, rational_eq}
use Rattle.ratio_core.specs.RationalLaws.{rational_eq-true, eq_rational_eq}
use Rattle.rational_laws.specs.Field.{neg_ℚ-neg_ℚ, neg_ℚ-zero, one_not_zero}
use Rattle.rational_laws.specs.Tests.{nonzero_from_test, nonzero_test, zero_from_test}
use Rattle.aff_core.specs.Function.{FunctionOver, HasCoefficient, HasEachTerm, IsNegated, coefficient, constant_function, function_of, gathered, if_rising, negated, same_parts, terms_of, variable, with_coefficient}
use Rattle.aff_core.specs.KeyOrder.{IsKeyOrder, key_eq-Decides, other_key, same_key}
use Rattle.aff_core.specs.Rising.{HasDistinctKeys, RiseBy}
use Rattle.aff_core.specs.Terms.{HaveNoZero, is_nonzero, negated_terms}
use Rattle.map_laws.specs.EntryLaws.{find_below, find-map, below_all-filter, is_sorted-filter, is_sorted-map}
use Rattle.map_laws.specs.PlaceLaws.{filter_all}
use Rattle.map_laws.specs.TestLaws.{first, second}

pub tested : (b : Bool) → T b → b ≡ true
tested true t = refl
tested false t = absurd t

-- ---- terms that are not 0

-- where no coefficient is 0, none is left out
pub nonzero-filter : {K : Type 0} (ts : List (K × Rational)) → HaveNoZero ts
    → filter is_nonzero ts ≡ ts
nonzero-filter ts h = filter_all is_nonzero ts (AllPass-from_list_all is_nonzero ts h)

negation_nonzero : (q : Rational) → not (rational_eq q zero_ℚ) ≡ true
    → not (rational_eq (neg_ℚ q) zero_ℚ) ≡ true
negation_nonzero q h =
    nonzero_test (neg_ℚ q)
    (λ e. nonzero_from_test q h (sym (neg_ℚ-neg_ℚ q) ∙ ap neg_ℚ e ∙ neg_ℚ-zero))

pub negated_nonzero : {K : Type 0} (ts : List (K × Rational)) → HaveNoZero ts
    → HaveNoZero (negated_terms ts)
negated_nonzero ts h = list_all-from_AllPass is_nonzero (negated_terms ts)
    (All-map (λ t. is_nonzero t ≡ true) (λ t. (t.0, neg_ℚ t.1)) ts
    (All-weaker (λ t. is_nonzero t ≡ true) (λ t. is_nonzero (t.0, neg_ℚ t.1) ≡ true)
    (λ t. negation_nonzero t.1) ts (AllPass-from_list_all is_nonzero ts h)))

pub filter_nonzero : {K : Type 0} (ts : List (K × Rational)) → HaveNoZero (filter is_nonzero ts)
filter_nonzero ts =
    list_all-from_AllPass is_nonzero (filter is_nonzero ts) (filter_passes is_nonzero ts)

-- ---- functions that are made of terms in order

pub constant-function_of : {K : Type 0} (R : K → K → Ordering) (ts : List (K × Rational))
    (k : Rational) → (function_of {R = R} ts k).constant ≡ k
unfolding function_of
constant-function_of R ts k = refl

module _ {K : Type 0} {R : K → K → Ordering} where
  pub rises : {X : Type 0} (ts : List (K × X)) → RiseBy R ts → T (is_sorted R ts)
  rises ts h = passes _ h.rising

  pub terms-function_of : (ts : List (K × Rational)) (k : Rational) → RiseBy R ts
      → terms_of (function_of {R = R} ts k) ≡ filter is_nonzero ts
  unfolding function_of
  terms-function_of ts k h =
      let sorted : T (is_sorted R (filter is_nonzero ts)) =
      is_sorted-filter R is_nonzero ts (rises ts h) in
      let whole : if_rising R (filter is_nonzero ts) ≡ filter is_nonzero ts =
      ap (λ b. cond b (filter is_nonzero ts) []) (tested _ sorted) in
      finite.entries-from_sorted R (if_rising R (filter is_nonzero ts))
      (subst (λ us. T (is_sorted R us)) (sym whole) sorted) ∙ whole

  -- the terms of a function rise, and none is 0
  pub terms_rise : (f : FunctionOver R) → RiseBy R (terms_of f)
  terms_rise f = record { rising = tested _ (finite.entries_sorted f.terms) }

  pub entries_rise : {X : Type 0} (m : FinMap R X) → RiseBy R (finite.entries m)
  entries_rise m = record { rising = tested _ (finite.entries_sorted m) }

  -- a function is its terms and its constant
  pub same_function : (f g : FunctionOver R) → terms_of f ≡ terms_of g → f.constant ≡ g.constant
      → f ≡ g
  same_function f g e k = same_parts f g (λ i. (finite.same_entries_map f.terms g.terms e i, k i))

  -- and is made of these
  pub function_of-terms : (f : FunctionOver R) → function_of (terms_of f) f.constant ≡ f
  function_of-terms f =
      same_function (function_of (terms_of f) f.constant) f
      (terms-function_of (terms_of f) f.constant (terms_rise f)
      ∙ nonzero-filter (terms_of f) f.nonzero)
      (constant-function_of R (terms_of f) f.constant)

  pub filter_rises : (ts : List (K × Rational)) → RiseBy R ts → RiseBy R (filter is_nonzero ts)
  filter_rises ts h = record { rising = tested _ (is_sorted-filter R is_nonzero ts (rises ts h)) }

  pub negated_rise : (ts : List (K × Rational)) → RiseBy R ts → RiseBy R (negated_terms ts)
  negated_rise ts h = record { rising = is_sorted-map R neg_ℚ ts ∙ h.rising }

  -- terms in order, none of which is 0, are those of their function
  pub terms_kept : (ts : List (K × Rational)) (k : Rational) → RiseBy R ts → HaveNoZero ts
      → terms_of (function_of {R = R} ts k) ≡ ts
  terms_kept ts k h n = terms-function_of ts k h ∙ nonzero-filter ts n

  -- what is left out may be left out before
  pub function_of-filter : (ts : List (K × Rational)) (k : Rational) → RiseBy R ts
      → function_of {R = R} (filter is_nonzero ts) k ≡ function_of ts k
  function_of-filter ts k h =
      same_function (function_of (filter is_nonzero ts) k) (function_of ts k)
      (terms_kept (filter is_nonzero ts) k (filter_rises ts h) (filter_nonzero ts)
      ∙ sym (terms-function_of ts k h))
      (constant-function_of R (filter is_nonzero ts) k ∙ sym (constant-function_of R ts k))

-- variables and constant functions, in any order of keys
pub terms-variable : {K : Type 0} (R : K → K → Ordering) (v : K)
    → terms_of (variable {R = R} v) ≡ (v, one_ℚ) ∷ []
unfolding variable
terms-variable R v =
    terms-function_of ((v, one_ℚ) ∷ []) zero_ℚ (record { rising = refl })
    ∙ ap (λ b. cond b ((v, one_ℚ) ∷ []) []) (nonzero_test one_ℚ one_not_zero)

pub constant-variable : {K : Type 0} (R : K → K → Ordering) (v : K)
    → (variable {R = R} v).constant ≡ zero_ℚ
unfolding variable
constant-variable R v = constant-function_of R ((v, one_ℚ) ∷ []) zero_ℚ

pub terms-constant_function : {K : Type 0} (R : K → K → Ordering) (k : Rational)
    → terms_of (constant_function {R = R} k) ≡ []
unfolding constant_function
terms-constant_function R k = terms-function_of [] k (record { rising = refl })

pub constant-constant_function : {K : Type 0} (R : K → K → Ordering) (k : Rational)
    → (constant_function {R = R} k).constant ≡ k
unfolding constant_function
constant-constant_function R k = constant-function_of R [] k

-- ---- coefficients

-- the coefficient that a list of terms has at a key
abbrev pub coefficient_in : {K : Type 0} → (K → K → Ordering) → List (K × Rational) → K → Rational
coefficient_in R ts v = unwrap_or (find R v ts) zero_ℚ

-- a coefficient as what is kept of it
abbrev kept : Rational → Option Rational
kept q = cond (rational_eq q zero_ℚ) None (Some q)

kept_zero : kept zero_ℚ ≡ None
kept_zero = ap (λ b. cond b None (Some zero_ℚ)) (eq_rational_eq zero_ℚ zero_ℚ refl)

kept_other : (q : Rational) → q ≢ zero_ℚ → kept q ≡ Some q
kept_other q n = by (rational_eq q zero_ℚ) refl
  where
    by : (b : Bool) → rational_eq q zero_ℚ ≡ b → cond b None (Some q) ≡ Some q
    by true e = absurd (n (rational_eq-true q zero_ℚ e))
    by false e = refl

found_nonzero : {K : Type 0} (R : K → K → Ordering) (v : K) (q : Rational)
    (ts : List (K × Rational)) → All (λ t. is_nonzero t ≡ true) ts → find R v ts ≡ Some q
    → q ≢ zero_ℚ
found_nonzero R v q [] h e = cc
found_nonzero R v q (t ∷ ts) h e =
    by (found_nonzero R v q ts (All-tail (λ t. is_nonzero t ≡ true) t ts h)) (eq_by_cmp R v t.0) e
  where
    by : (find R v ts ≡ Some q → q ≢ zero_ℚ) → (b : Bool) → cond b (Some t.1) (find R v ts) ≡ Some q
        → q ≢ zero_ℚ
    by rest true is = subst (λ r. r ≢ zero_ℚ) (same_Some t.1 q is)
        (nonzero_from_test t.1 (All-head (λ t. is_nonzero t ≡ true) t ts h))
    by rest false is = rest is

module _ {K : Type 0} {R : K → K → Ordering} where
  pub coefficient_in-terms_of : (f : FunctionOver R) (v : K)
      → coefficient_in R (terms_of f) v ≡ coefficient f v
  coefficient_in-terms_of f v = ap (λ o. unwrap_or o zero_ℚ) (sym (finite.get-entries f.terms v))

  -- the coefficients of terms of which each is changed
  pub coefficient_in-map : (change : Rational → Rational) → change zero_ℚ ≡ zero_ℚ
      → (f : FunctionOver R) (v : K)
      → coefficient_in R (map (λ t. (t.0, change t.1)) (terms_of f)) v ≡ change (coefficient f v)
  coefficient_in-map change nothing f v =
      ap (λ o. unwrap_or o zero_ℚ) (find-map R change v (terms_of f))
      ∙ over (find R v (terms_of f)) ∙ ap change (coefficient_in-terms_of f v)
    where
      over : (c : Option Rational)
          → unwrap_or (option_map change c) zero_ℚ ≡ change (unwrap_or c zero_ℚ)
      over None = sym nothing
      over (Some q) = refl

  -- what is kept of a key is known by its coefficient
  get_by_coefficient : (f : FunctionOver R) (v : K) → finite.get f.terms v ≡ kept (coefficient f v)
  get_by_coefficient f v = by (finite.get f.terms v) refl
    where
      by : (o : Option Rational) → finite.get f.terms v ≡ o → o ≡ kept (unwrap_or o zero_ℚ)
      by None e = sym kept_zero
      by (Some q) e = sym (kept_other q (found_nonzero R v q (terms_of f)
          (AllPass-from_list_all is_nonzero (terms_of f) f.nonzero)
          (sym (finite.get-entries f.terms v) ∙ e)))

module _ {K : Type 0} {R : K → K → Ordering} (o : IsKeyOrder R) where
  -- functions with equal coefficients and equal constants are equal
  pub same_coefficients : (f g : FunctionOver R) → ((v : K) → coefficient f v ≡ coefficient g v)
      → f.constant ≡ g.constant → f ≡ g
  same_coefficients f g h k =
      same_parts f g (λ i. (
        finite.same_map o.total o.exact f.terms g.terms
            (λ v. get_by_coefficient f v ∙ ap kept (h v) ∙ sym (get_by_coefficient g v)) i,
        k i,
      ))

  -- terms with the coefficient 0 may be left out
  coefficient_in-filter : (ts : List (K × Rational)) (v : K) → T (is_sorted R ts)
      → coefficient_in R (filter is_nonzero ts) v ≡ coefficient_in R ts v
  coefficient_in-filter [] v s = refl
  coefficient_in-filter (t ∷ ts) v s =
      by (coefficient_in-filter ts v (second _ _ s)) (is_nonzero t) refl (eq_by_cmp R v t.0) refl
    where
      by : coefficient_in R (filter is_nonzero ts) v ≡ coefficient_in R ts v → (b : Bool)
          → is_nonzero t ≡ b → (c : Bool) → eq_by_cmp R v t.0 ≡ c
          → coefficient_in R (cond b (t ∷ filter is_nonzero ts) (filter is_nonzero ts)) v
          ≡ unwrap_or (cond c (Some t.1) (find R v ts)) zero_ℚ
      by rest true is true same =
          ap (λ c. unwrap_or (cond c (Some t.1) (find R v (filter is_nonzero ts))) zero_ℚ) same
      by rest true is false same = ap (λ c. unwrap_or
          (cond c (Some t.1) (find R v (filter is_nonzero ts))) zero_ℚ) same ∙ rest
      by rest false is false same = rest
      by rest false is true same =
          let at : v ≡ t.0 = (key_eq-Decides o v t.0).0 same in
          let none : find R v (filter is_nonzero ts) ≡ None = find_below R v (filter is_nonzero ts)
          (below_all-filter R is_nonzero v ts (subst (λ u. T (below_all R u ts)) (sym at)
          (first _ _ s))) in
          ap (λ o. unwrap_or o zero_ℚ) none ∙ sym (zero_from_test t.1 is)

  -- the coefficients of a function made of terms in order are theirs
  pub coefficient-function_of : (ts : List (K × Rational)) (k : Rational) (v : K) → RiseBy R ts
      → coefficient (function_of {R = R} ts k) v ≡ coefficient_in R ts v
  coefficient-function_of ts k v h =
      sym (coefficient_in-terms_of (function_of {R = R} ts k) v)
      ∙ ap (λ us. coefficient_in R us v) (terms-function_of ts k h)
      ∙ coefficient_in-filter ts v (rises ts h)

  -- and of one made of a map, those of the map
  pub coefficient-made : (m : FinMap R Rational) (k : Rational) (v : K)
      → coefficient (function_of {R = R} (finite.entries m) k) v ≡ unwrap_or (finite.get m v) zero_ℚ
  coefficient-made m k v =
      coefficient-function_of (finite.entries m) k v (entries_rise m)
      ∙ ap (λ o. unwrap_or o zero_ℚ) (sym (finite.get-entries m v))

  -- ---- constant functions and variables

  pub coefficient-constant_function : (k : Rational) (v : K)
      → coefficient (constant_function {R = R} k) v ≡ zero_ℚ
  unfolding constant_function
  coefficient-constant_function k v = coefficient-function_of [] k v (record { rising = refl })

  pub coefficient-variable_same : (v : K) → coefficient (variable {R = R} v) v ≡ one_ℚ
  unfolding variable
  coefficient-variable_same v =
      coefficient-function_of ((v, one_ℚ) ∷ []) zero_ℚ v (record { rising = refl })
      ∙ ap (λ b. unwrap_or (cond b (Some one_ℚ) None) zero_ℚ) (same_key o v)

  pub coefficient-variable_other : (v u : K) → u ≢ v → coefficient (variable {R = R} v) u ≡ zero_ℚ
  unfolding variable
  coefficient-variable_other v u n =
      coefficient-function_of ((v, one_ℚ) ∷ []) zero_ℚ u (record { rising = refl })
      ∙ ap (λ b. unwrap_or (cond b (Some one_ℚ) None) zero_ℚ) (other_key o u v n)

  -- ---- terms in any order

  pub coefficient-gathered : (ts : List (K × Rational)) (k : Rational) (v : K)
      → coefficient (gathered {R = R} ts k) v ≡ coefficient_in R ts v
  unfolding gathered
  coefficient-gathered ts k v =
      coefficient-made (finite.from_entries ts) k v
      ∙ ap (λ o. unwrap_or o zero_ℚ) (finite.get-from_entries o.total ts v)

  apart_more : (t : K × Rational) (ts us : List (K × Rational))
      → AllByRecursion (λ k. eq_by_cmp R t.0 k ≡ false) (map (λ e. e.0) us)
      → All (λ s. coefficient_in R ts s.0 ≡ s.1) us
      → All (λ s. coefficient_in R (t ∷ ts) s.0 ≡ s.1) us
  apart_more t ts [] apart found = All-nil (λ s. coefficient_in R (t ∷ ts) s.0 ≡ s.1)
  apart_more t ts (s ∷ us) apart found =
      All-cons (λ s. coefficient_in R (t ∷ ts) s.0 ≡ s.1) s us
      (ap (λ b. unwrap_or (cond b (Some t.1) (find R s.0 ts)) zero_ℚ)
      ((eq_by_cmp_equiv o.total).symm s.0 t.0 ∙ apart.0)
      ∙ All-head (λ s. coefficient_in R ts s.0 ≡ s.1) s us found)
      (apart_more t ts us apart.1 (All-tail (λ s. coefficient_in R ts s.0 ≡ s.1) s us found))

  each_found : (ts : List (K × Rational)) → HasDistinctKeys R ts
      → All (λ t. coefficient_in R ts t.0 ≡ t.1) ts
  each_found [] d = All-nil (λ t. coefficient_in R [] t.0 ≡ t.1)
  each_found (t ∷ ts) d =
      All-cons (λ s. coefficient_in R (t ∷ ts) s.0 ≡ s.1) t ts
      (ap (λ b. unwrap_or (cond b (Some t.1) (find R t.0 ts)) zero_ℚ) (same_key o t.0))
      (apart_more t ts ts (IsDistinct-head (eq_by_cmp R) t.0 (map (λ e. e.0) ts) d)
      (each_found ts (IsDistinct-tail (eq_by_cmp R) t.0 (map (λ e. e.0) ts) d)))

  -- where the keys are distinct, each term counts
  pub has_each_term : (ts : List (K × Rational)) (k : Rational) → HasDistinctKeys R ts
      → HasEachTerm ts (gathered {R = R} ts k)
  has_each_term ts k d = All-weaker (λ t. coefficient_in R ts t.0 ≡ t.1)
      (λ t. coefficient (gathered {R = R} ts k) t.0 ≡ t.1)
      (λ t e. coefficient-gathered ts k t.0 ∙ e) ts (each_found ts d)

  -- ---- one coefficient changed

  pub coefficient-with : (f : FunctionOver R) (at : K) (q : Rational) (v : K)
      → coefficient (with_coefficient f at q) v ≡ cond (eq_by_cmp R v at) q (coefficient f v)
  unfolding with_coefficient
  coefficient-with f at q v =
      coefficient-made (finite.insert f.terms at q) f.constant v
      ∙ ap (λ o. unwrap_or o zero_ℚ) (finite.get-insert o.total f.terms at q v)
      ∙ over (eq_by_cmp R v at)
    where
      over : (b : Bool)
          → unwrap_or (cond b (Some q) (finite.get f.terms v)) zero_ℚ ≡ cond b q (coefficient f v)
      over true = refl
      over false = refl

  pub constant-with : (f : FunctionOver R) (at : K) (q : Rational)
      → (with_coefficient f at q).constant ≡ f.constant
  unfolding with_coefficient
  constant-with f at q =
      constant-function_of R (finite.entries (finite.insert f.terms at q)) f.constant

  pub has_coefficient : (f : FunctionOver R) (at : K) (q : Rational) (h : FunctionOver R)
      → h ≡ with_coefficient f at q → HasCoefficient f at q h
  has_coefficient f at q h e = record {
    constant = ap (λ g. g.constant) e ∙ constant-with f at q;
    here = ap (λ g. coefficient g at) e ∙ coefficient-with f at q at
        ∙ ap (λ b. cond b q (coefficient f at)) (same_key o at);
    elsewhere = λ u n. ap (λ g. coefficient g u) e ∙ coefficient-with f at q u
        ∙ ap (λ b. cond b q (coefficient f u)) (other_key o u at n);
  }

  -- set to what it was
  pub same_coefficient : (f : FunctionOver R) (at : K) (q : Rational) → coefficient f at ≡ q
      → with_coefficient f at q ≡ f
  same_coefficient f at q e =
      same_coefficients (with_coefficient f at q) f each (constant-with f at q)
    where
      each : (v : K) → coefficient (with_coefficient f at q) v ≡ coefficient f v
      each v = coefficient-with f at q v ∙ by (eq_by_cmp R v at) refl
        where
          by : (b : Bool) → eq_by_cmp R v at ≡ b → cond b q (coefficient f v) ≡ coefficient f v
          by true same = sym e ∙ ap (coefficient f) (sym ((key_eq-Decides o v at).0 same))
          by false other = refl

  -- set to another value
  pub other_coefficient : (f : FunctionOver R) (at : K) (q : Rational) → coefficient f at ≢ q
      → with_coefficient f at q ≢ f
  other_coefficient f at q ne same = ne (ap (λ g. coefficient g at) (sym same)
      ∙ (has_coefficient f at q (with_coefficient f at q) refl).here)

  -- the map of it: 0 takes the key away
  pub terms-with_coefficient : (f : FunctionOver R) (at : K) (q : Rational)
      → (with_coefficient f at q).terms
      ≡ cond (rational_eq q zero_ℚ) (finite.remove f.terms at) (finite.insert f.terms at q)
  terms-with_coefficient f at q = finite.same_map o.total o.exact _ _ (λ v.
      get_by_coefficient (with_coefficient f at q) v ∙ ap kept (coefficient-with f at q v)
      ∙ by v (rational_eq q zero_ℚ) refl)
    where
      there : (v : K) (c : Option Rational) (b : Bool) → kept q ≡ c
          → kept (cond b q (coefficient f v)) ≡ cond b c (finite.get f.terms v)
      there v c true e = e
      there v c false e = sym (get_by_coefficient f v)

      by : (v : K) (b : Bool) → rational_eq q zero_ℚ ≡ b
          → kept (cond (eq_by_cmp R v at) q (coefficient f v))
          ≡ finite.get (cond b (finite.remove f.terms at) (finite.insert f.terms at q)) v
      by v true e = there v None (eq_by_cmp R v at) (ap (λ b. cond b None (Some q)) e)
          ∙ sym (finite.get-remove o.total f.terms at v)
      by v false e = there v (Some q) (eq_by_cmp R v at) (ap (λ b. cond b None (Some q)) e)
          ∙ sym (finite.get-insert o.total f.terms at q v)

  -- ---- the negated function

  pub coefficient-negated : (f : FunctionOver R) (v : K)
      → coefficient (negated f) v ≡ neg_ℚ (coefficient f v)
  unfolding negated
  coefficient-negated f v =
      coefficient-function_of (negated_terms (terms_of f)) (neg_ℚ f.constant) v
      (negated_rise (terms_of f) (terms_rise f)) ∙ coefficient_in-map neg_ℚ neg_ℚ-zero f v

  pub constant-negated : (f : FunctionOver R) → (negated f).constant ≡ neg_ℚ f.constant
  unfolding negated
  constant-negated f = constant-function_of R (negated_terms (terms_of f)) (neg_ℚ f.constant)

  pub is_negated : (f h : FunctionOver R) → h ≡ negated f → IsNegated f h
  is_negated f h e = record {
    constant = ap (λ g. g.constant) e ∙ constant-negated f;
    coefficients = λ v. ap (λ g. coefficient g v) e ∙ coefficient-negated f v;
  }

  -- negated twice it is what it was
  pub negated-negated : (f : FunctionOver R) → negated (negated f) ≡ f
  negated-negated f =
      same_coefficients (negated (negated f)) f
      (λ v. coefficient-negated (negated f) v ∙ ap neg_ℚ (coefficient-negated f v)
      ∙ neg_ℚ-neg_ℚ (coefficient f v))
      (constant-negated (negated f) ∙ ap neg_ℚ (constant-negated f) ∙ neg_ℚ-neg_ℚ f.constant)
