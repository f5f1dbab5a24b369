-- The constants and coefficients of multiples, sums and compositions, with no word on order; values
-- added from the left.
use Rattle.std.specs.Prelude.{◌≡◌, Bool, true, false, cond, T, List, [], ◌∷◌, ◌++◌, Option, Some, None, unwrap_or, refl}
use Rattle.std.proofs.Common.{sym, ap, subst, ◌∙◌}
use Rattle.std.specs.Ordering.{eq_by_cmp}
use Rattle.std.specs.declared.cmp.Ordering.{Ordering}
use Rattle.std.specs.FinMap as finite
use Rattle.std.specs.FinMap.{FinMap, find, is_sorted}
use Rattle.std.specs.FinMap.Entries.{below_all}
use Rattle.ratio_core.specs.Rational.{Rational, zero_ℚ, ◌+ℚ◌, ◌*ℚ◌}
use Rattle.rational_laws.specs.Field.{+ℚ-zero, zero-+ℚ, *ℚ-zero, +ℚ_assoc}
use Rattle.aff_core.specs.Arithmetic.{IsComposition, IsMultiple, IsSum, added_at, added_terms, composed, met, scaled, substituted, sum_of}
use Rattle.map_laws.specs.EntryLaws.{find_below, is_sorted-map}
use Rattle.map_laws.specs.TestLaws.{first, second}
use Rattle.aff_core.specs.Function.{FunctionOver, coefficient, terms_of, value_of}
use Rattle.aff_core.specs.FunctionLaws.{coefficient-function_of, coefficient-made, coefficient_in, coefficient_in-map, coefficient_in-terms_of, constant-function_of, rises, terms_rise}
use Rattle.aff_core.specs.KeyOrder.{IsKeyOrder, key_eq-Decides}
use Rattle.aff_core.specs.Rising.{RiseBy}
use Rattle.aff_core.specs.Terms.{linear, times, value_from}

-- ---- values

pub value_from-linear : {K : Type 0} (sum : Rational) (ts : List (K × Rational)) (x : K → Rational)
    → value_from sum ts x ≡ sum +ℚ linear ts x
unfolding value_from linear
value_from-linear sum [] x = sym (+ℚ-zero sum)
value_from-linear sum (t ∷ ts) x =
    value_from-linear (sum +ℚ (t.1 *ℚ x t.0)) ts x ∙ +ℚ_assoc sum (t.1 *ℚ x t.0) (linear ts x)

-- added from the left or not, the value is the same
pub value_from-value_of : {K : Type 0} {R : K → K → Ordering} (f : FunctionOver R)
    (x : K → Rational) → value_from f.constant (terms_of f) x ≡ value_of f x
unfolding value_of
value_from-value_of f x = value_from-linear f.constant (terms_of f) x

-- ---- multiples

met_is : (o : Option Rational) (q : Rational) → met o q ≡ unwrap_or o zero_ℚ +ℚ q
met_is None q = sym (zero-+ℚ q)
met_is (Some p) q = refl

module _ {K : Type 0} {R : K → K → Ordering} where
  pub times_rise : (c : Rational) (ts : List (K × Rational)) → RiseBy R ts → RiseBy R (times c ts)
  times_rise c ts h = record { rising = is_sorted-map R (λ q. c *ℚ q) ts ∙ h.rising }

  coefficient_in-times : (c : Rational) (f : FunctionOver R) (v : K)
      → coefficient_in R (times c (terms_of f)) v ≡ c *ℚ coefficient f v
  coefficient_in-times c f v = coefficient_in-map (λ q. c *ℚ q) (*ℚ-zero c) f v

  pub added_terms-append : (m : FinMap R Rational) (ts us : List (K × Rational))
      → added_terms m (ts ++ us) ≡ added_terms (added_terms m ts) us
  unfolding added_terms
  added_terms-append m [] us = refl
  added_terms-append m (t ∷ ts) us = added_terms-append (added_at m t.0 t.1) ts us

module _ {K : Type 0} {R : K → K → Ordering} (o : IsKeyOrder R) where
  pub coefficient-scaled : (c : Rational) (f : FunctionOver R) (v : K)
      → coefficient (scaled c f) v ≡ c *ℚ coefficient f v
  unfolding scaled
  coefficient-scaled c f v =
      coefficient-function_of o (times c (terms_of f)) (c *ℚ f.constant) v
      (times_rise c (terms_of f) (terms_rise f))
      ∙ coefficient_in-times c f v

  pub constant-scaled : (c : Rational) (f : FunctionOver R)
      → (scaled c f).constant ≡ c *ℚ f.constant
  unfolding scaled
  constant-scaled c f = constant-function_of R (times c (terms_of f)) (c *ℚ f.constant)

  pub is_multiple : (c : Rational) (f h : FunctionOver R) → h ≡ scaled c f → IsMultiple c f h
  is_multiple c f h e = record {
    same = e;
    constant = ap (λ k. k.constant) e ∙ constant-scaled c f;
    coefficients = λ v. ap (λ k. coefficient k v) e ∙ coefficient-scaled c f v;
  }

  -- ---- sums

  -- adding terms in order adds their coefficients
  coefficient-added_terms : (m : FinMap R Rational) (ts : List (K × Rational)) (v : K)
      → T (is_sorted R ts)
      → unwrap_or (finite.get (added_terms m ts) v) zero_ℚ
      ≡ unwrap_or (finite.get m v) zero_ℚ +ℚ coefficient_in R ts v
  unfolding added_terms
  coefficient-added_terms m [] v s = sym (+ℚ-zero (unwrap_or (finite.get m v) zero_ℚ))
  coefficient-added_terms m (t ∷ ts) v s = coefficient-added_terms (added_at m t.0 t.1) ts v
      (second _ _ s) ∙ one_more (eq_by_cmp R v t.0) refl
    where
      here : finite.get (added_at m t.0 t.1) v
          ≡ cond (eq_by_cmp R v t.0) (Some (met (finite.get m t.0) t.1)) (finite.get m v)
      here = finite.get-insert o.total m t.0 (met (finite.get m t.0) t.1) v

      one_more : (b : Bool) → eq_by_cmp R v t.0 ≡ b
          → unwrap_or (finite.get (added_at m t.0 t.1) v) zero_ℚ +ℚ coefficient_in R ts v
          ≡ unwrap_or (finite.get m v) zero_ℚ +ℚ unwrap_or (cond b (Some t.1) (find R v ts)) zero_ℚ
      one_more true same =
          let at : v ≡ t.0 = (key_eq-Decides o v t.0).0 same in
          let none : find R v ts ≡ None =
          find_below R v ts (subst (λ u. T (below_all R u ts)) (sym at) (first _ _ s)) in
          let put : finite.get (added_at m t.0 t.1) v ≡ Some (met (finite.get m t.0) t.1) = here
          ∙ ap (λ b. cond b (Some (met (finite.get m t.0) t.1)) (finite.get m v)) same in
          (λ i. unwrap_or (put i) zero_ℚ +ℚ unwrap_or (none i) zero_ℚ)
          ∙ +ℚ-zero (met (finite.get m t.0) t.1) ∙ met_is (finite.get m t.0) t.1
          ∙ ap (λ u. unwrap_or (finite.get m u) zero_ℚ +ℚ t.1) (sym at)
      one_more false other =
          let kept : finite.get (added_at m t.0 t.1) v ≡ finite.get m v = here ∙ ap
          (λ b. cond b (Some (met (finite.get m t.0) t.1)) (finite.get m v)) other in
          ap (λ o. unwrap_or o zero_ℚ +ℚ coefficient_in R ts v) kept

  pub coefficient-sum_of : (f g : FunctionOver R) (v : K)
      → coefficient (sum_of f g) v ≡ coefficient f v +ℚ coefficient g v
  unfolding sum_of
  coefficient-sum_of f g v =
      coefficient-made o (added_terms f.terms (terms_of g)) (f.constant +ℚ g.constant) v
      ∙ coefficient-added_terms f.terms (terms_of g) v (finite.entries_sorted g.terms)
      ∙ ap (λ q. coefficient f v +ℚ q) (coefficient_in-terms_of g v)

  pub constant-sum_of : (f g : FunctionOver R) → (sum_of f g).constant ≡ f.constant +ℚ g.constant
  unfolding sum_of
  constant-sum_of f g = constant-function_of R (finite.entries (added_terms f.terms (terms_of g)))
      (f.constant +ℚ g.constant)

  pub is_sum : (f g h : FunctionOver R) → h ≡ sum_of f g → IsSum f g h
  is_sum f g h e = record {
    same = e;
    constant = ap (λ k. k.constant) e ∙ constant-sum_of f g;
    coefficients = λ v. ap (λ k. coefficient k v) e ∙ coefficient-sum_of f g v;
  }

-- ---- compositions

coefficient-substituted : {K J : Type 0} {S : J → J → Ordering} (o : IsKeyOrder S)
    (e : K → FunctionOver S) (m : FinMap S Rational) (ts : List (K × Rational)) (v : J)
    → unwrap_or (finite.get (added_terms m (substituted e ts)) v) zero_ℚ
    ≡ unwrap_or (finite.get m v) zero_ℚ +ℚ linear ts (λ u. coefficient (e u) v)
unfolding substituted linear added_terms
coefficient-substituted o e m [] v = sym (+ℚ-zero (unwrap_or (finite.get m v) zero_ℚ))
coefficient-substituted o e m (t ∷ ts) v =
    let here = times t.1 (terms_of (e t.0)) in
    ap (λ n. unwrap_or (finite.get n v) zero_ℚ) (added_terms-append m here (substituted e ts))
    ∙ coefficient-substituted o e (added_terms m here) ts v
    ∙ ap (λ q. q +ℚ linear ts (λ u. coefficient (e u) v))
    (coefficient-added_terms o m here v (rises here
    (times_rise t.1 (terms_of (e t.0)) (terms_rise (e t.0))))
    ∙ ap (λ q. unwrap_or (finite.get m v) zero_ℚ +ℚ q) (coefficient_in-times t.1 (e t.0) v))
    ∙ +ℚ_assoc (unwrap_or (finite.get m v) zero_ℚ) (t.1 *ℚ coefficient (e t.0) v)
    (linear ts (λ u. coefficient (e u) v))

module _ {K J : Type 0} {R : K → K → Ordering} {S : J → J → Ordering} (o : IsKeyOrder S) where
  pub coefficient-composed : (e : K → FunctionOver S) (f : FunctionOver R) (v : J)
      → coefficient (composed e f) v ≡ linear (terms_of f) (λ u. coefficient (e u) v)
  unfolding composed
  coefficient-composed e f v =
      coefficient-made o (added_terms (finite.empty {R = S}) (substituted e (terms_of f)))
      (value_of f (λ u. (e u).constant)) v
      ∙ coefficient-substituted o e (finite.empty {R = S}) (terms_of f) v
      ∙ ap (λ q. q +ℚ linear (terms_of f) (λ u. coefficient (e u) v))
      (ap (λ o. unwrap_or o zero_ℚ) (finite.get-empty S v))
      ∙ zero-+ℚ (linear (terms_of f) (λ u. coefficient (e u) v))

  pub constant-composed : (e : K → FunctionOver S) (f : FunctionOver R)
      → (composed e f).constant ≡ value_of f (λ u. (e u).constant)
  unfolding composed
  constant-composed e f = constant-function_of S
      (finite.entries (added_terms (finite.empty {R = S}) (substituted e (terms_of f))))
      (value_of f (λ u. (e u).constant))

  pub is_composition : (e : K → FunctionOver S) (f : FunctionOver R) (h : FunctionOver S)
      → h ≡ composed e f → IsComposition e f h
  is_composition e f h is = record {
    same = is;
    constant = ap (λ k. k.constant) is ∙ constant-composed e f;
    coefficients = λ v. ap (λ k. coefficient k v) is ∙ coefficient-composed e f v;
  }
