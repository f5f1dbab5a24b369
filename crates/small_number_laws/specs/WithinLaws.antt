-- Functions whose coefficients weigh no more than one bound, and whose constants are whole within
-- another: sums, negations and compositions of these, and what of them fits.
use Rattle.std.specs.Prelude.{ℕ, ◌+◌, ◌*◌, ◌^◌, ◌<◌, ◌≤◌, List, [], ◌∷◌, ◌++◌, All, refl}
use Rattle.std.proofs.Common.{sym, subst, arith}
use Rattle.std.proofs.Math.Nat.{mul-le-mul_right}
use Rattle.std.proofs.lemmas.List.Elements.{All-cons, All-nil}
use Rattle.std.specs.FinMap as finite
use Rattle.std.specs.declared.cmp.Ordering.{Ordering}
use Rattle.ratio_core.specs.Rational.{Rational, one_ℚ, neg_ℚ, zero_ℚ, ◌+ℚ◌}
use Rattle.aff_core.specs.Address.{Address, address_cmp}
use Rattle.aff_core.specs.Arithmetic.{PlusFits, SubstitutionFits, added_terms, composed, substituted, sum_of}
use Rattle.aff_core.specs.Function.{FunctionOver, constant_function, function_of, negated, terms_of, value_of, variable}
use Rattle.aff_core.specs.FunctionLaws.{constant-function_of, entries_rise, negated_rise, terms-function_of, terms_rise}
use Rattle.aff_core.specs.KeyOrder.{IsKeyOrder}
use Rattle.aff_core.specs.Rising.{RiseBy}
use Rattle.aff_core.specs.Terms.{TimesFit, is_nonzero, linear, negated_terms, times}
use Rattle.map_laws.specs.MadeLaws.{entries_empty}
use Rattle.small_number_laws.specs.Whole.{IsWholeWithin}
use Rattle.small_number_laws.specs.WeightLaws.{WeighsAtMost, added_terms_within, linear_within, parted, terms_fit_within, times_fit_within, value_fits_within, weighs_append, weighs_cons, weighs_filter, weighs_more, weighs_negated, weighs_none, weighs_times}
use Rattle.small_number_laws.specs.WholeLaws.{whole_more, whole_neg, whole_one, whole_sum, whole_sum_fits, whole_zero}

module _ {K : Type 0} {R : K → K → Ordering} where
  pub record IsFunctionWithin (a k : ℕ) (f : FunctionOver R) : Type 0 where
    pub terms : WeighsAtMost a (terms_of f)
    pub constant : IsWholeWithin k f.constant

  pub within_more : (a b k l : ℕ) (f : FunctionOver R) → a ≤ b → k ≤ l → IsFunctionWithin a k f
      → IsFunctionWithin b l f
  within_more a b k l f h e w = record {
    terms = weighs_more a b (terms_of f) h w.terms;
    constant = whole_more k l f.constant e w.constant;
  }

  -- a function of terms in order
  pub made_within : (a k : ℕ) (ts : List (K × Rational)) (c : Rational) → RiseBy R ts
      → WeighsAtMost a ts → IsWholeWithin k c → IsFunctionWithin a k (function_of {R = R} ts c)
  made_within a k ts c rise w h = record {
    terms =
        subst (WeighsAtMost a) (sym (terms-function_of ts c rise)) (weighs_filter a is_nonzero ts w);
    constant = subst (IsWholeWithin k) (sym (constant-function_of R ts c)) h;
  }

  pub negated_within : (a k : ℕ) (f : FunctionOver R) → IsFunctionWithin a k f
      → IsFunctionWithin a k (negated f)
  unfolding negated
  negated_within a k f w =
      made_within a k (negated_terms (terms_of f)) (neg_ℚ f.constant)
      (negated_rise (terms_of f) (terms_rise f)) (weighs_negated a (terms_of f) w.terms)
      (whole_neg k f.constant w.constant)

pub variable_within : (v : Address) → IsFunctionWithin 1 0 (variable {R = address_cmp} v)
unfolding variable
variable_within v =
    made_within 1 0 ((v, one_ℚ) ∷ []) zero_ℚ (record { rising = refl })
    (weighs_more (1 + 0) 1 ((v, one_ℚ) ∷ []) (omega arith)
    (weighs_cons 1 0 (v, one_ℚ) [] whole_one weighs_none)) whole_zero

pub zero_within : IsFunctionWithin 0 0 (constant_function {R = address_cmp} zero_ℚ)
unfolding constant_function
zero_within = made_within 0 0 [] zero_ℚ (record { rising = refl }) weighs_none whole_zero

module _ {K : Type 0} {R : K → K → Ordering} (o : IsKeyOrder R) where
  pub sum_within : (a b k l : ℕ) (f g : FunctionOver R) → IsFunctionWithin a k f
      → IsFunctionWithin b l g → IsFunctionWithin (a + b) (k + l) (sum_of f g)
  unfolding sum_of
  sum_within a b k l f g w v =
      made_within (a + b) (k + l) (finite.entries (added_terms f.terms (terms_of g)))
      (f.constant +ℚ g.constant) (entries_rise (added_terms f.terms (terms_of g)))
      (added_terms_within o.total a b f.terms (terms_of g) w.terms v.terms)
      (whole_sum k l f.constant g.constant w.constant v.constant)

  pub plus_fits_within : (a b k l : ℕ) (f g : FunctionOver R) → IsFunctionWithin a k f
      → IsFunctionWithin b l g → a + b < 2 ^ 127 → k + l < 2 ^ 127 → PlusFits f g
  plus_fits_within a b k l f g w v h e = record {
    constant = whole_sum_fits k l f.constant g.constant w.constant v.constant e;
    terms = terms_fit_within o.total a b f.terms (terms_of g) w.terms v.terms h;
  }

module _ {K : Type 0} {R : K → K → Ordering} (o : IsKeyOrder R) (l c : ℕ)
    (e : K → FunctionOver R) (each : (v : K) → IsFunctionWithin l c (e v)) where
  substituted_within : (a : ℕ) (ts : List (K × Rational)) → WeighsAtMost a ts
      → WeighsAtMost (a * l) (substituted e ts)
  unfolding substituted
  substituted_within a [] w = weighs_more 0 (a * l) [] (omega arith) weighs_none
  substituted_within a (t ∷ ts) w =
      let parts = parted a t ts w in
      let within : (parts.size + parts.rest) * l ≤ a * l = mul-le-mul_right l parts.total in
      weighs_more (parts.size * l + parts.rest * l) (a * l)
      (times t.1 (terms_of (e t.0)) ++ substituted e ts) (omega (arith, within))
      (weighs_append (parts.size * l) (parts.rest * l) (times t.1 (terms_of (e t.0)))
      (substituted e ts)
      (weighs_times parts.size l t.1 (terms_of (e t.0)) parts.first (each t.0).terms)
      (substituted_within parts.rest ts parts.others))

  products_within : (a : ℕ) (ts : List (K × Rational)) → WeighsAtMost a ts → a * l < 2 ^ 127
      → All (λ t. TimesFit t.1 (terms_of (e t.0))) ts
  products_within a [] w lt = All-nil (λ t. TimesFit t.1 (terms_of (e t.0)))
  products_within a (t ∷ ts) w lt =
      let parts = parted a t ts w in
      let within : (parts.size + parts.rest) * l ≤ a * l = mul-le-mul_right l parts.total in
      All-cons (λ t. TimesFit t.1 (terms_of (e t.0))) t ts
      (times_fit_within parts.size l t.1 (terms_of (e t.0)) parts.first (each t.0).terms
      (omega (arith, within, lt)))
      (products_within parts.rest ts parts.others (omega (arith, within, lt)))

  empty_weighs : WeighsAtMost 0 (finite.entries (finite.empty {R = R}))
  empty_weighs = subst (WeighsAtMost 0) (sym (entries_empty R)) weighs_none

  pub composed_within : (a k : ℕ) (f : FunctionOver R) → IsFunctionWithin a k f
      → IsFunctionWithin (a * l) (k + a * c) (composed e f)
  unfolding composed value_of
  composed_within a k f w =
      let ts = substituted e (terms_of f) in
      made_within (a * l) (k + a * c)
      (finite.entries (added_terms (finite.empty {R = R}) ts))
      (value_of f (λ u. (e u).constant)) (entries_rise (added_terms (finite.empty {R = R}) ts))
      (weighs_more (0 + a * l) (a * l) (finite.entries (added_terms (finite.empty {R = R}) ts))
      (omega arith)
      (added_terms_within o.total 0 (a * l) (finite.empty {R = R}) ts empty_weighs
      (substituted_within a (terms_of f) w.terms)))
      (whole_sum k (a * c) f.constant (linear (terms_of f) (λ u. (e u).constant)) w.constant
      (linear_within a c (terms_of f) (λ u. (e u).constant) w.terms (λ u. (each u).constant)))

  pub substitution_fits_within : (a k : ℕ) (f : FunctionOver R) → IsFunctionWithin a k f
      → a * l < 2 ^ 127 → k + a * c < 2 ^ 127 → SubstitutionFits e f
  substitution_fits_within a k f w h g = record {
    constant =
        value_fits_within k a c f.constant (terms_of f) (λ u. (e u).constant) w.constant w.terms
        (λ u. (each u).constant) g;
    products = products_within a (terms_of f) w.terms h;
    sums =
        terms_fit_within o.total 0 (a * l) (finite.empty {R = R}) (substituted e (terms_of f))
        empty_weighs (substituted_within a (terms_of f) w.terms) (omega (arith, h));
  }
