-- Affine functions under other keys in the same order: sums, multiples and compositions are those
-- of the functions as they were, under the new keys.
use Rattle.std.specs.Prelude.{◌≡◌, Bool, true, false, ◌&&◌, cond, List, [], ◌∷◌, ◌++◌, filter, map, unwrap_or, refl}
use Rattle.std.proofs.Common.{ap, ap₂, sym, ◌∙◌}
use Rattle.std.specs.FinMap as finite
use Rattle.std.specs.FinMap.{FinMap}
use Rattle.std.specs.List.{list_all}
use Rattle.std.specs.declared.cmp.Ordering.{Ordering}
use Rattle.ratio_core.specs.Rational.{Rational, neg_ℚ, zero_ℚ, ◌*ℚ◌, ◌+ℚ◌}
use Rattle.aff_core.specs.Arithmetic.{added_at, added_terms, composed, met, substituted, sum_of}
use Rattle.aff_core.specs.Function.{FunctionOver, coefficient, constant_function, function_of, negated, slope, terms_of, value_of, variable}
use Rattle.aff_core.specs.FunctionLaws.{constant-function_of, constant-variable, entries_rise, negated_rise, same_function, terms-constant_function, terms-function_of, terms-variable, terms_kept, terms_rise}
use Rattle.aff_core.specs.KeyOrder.{IsKeyOrder}
use Rattle.aff_core.specs.Rising.{RiseBy}
use Rattle.aff_core.specs.Terms.{is_nonzero, linear, negated_terms, times}
use Rattle.renumbering_laws.specs.RenamedMaps.{KeepsOrder, empty-renamed, entries-renamed, get-renamed, insert-renamed, renamed_entries, renamed_map, sorted-renamed}

-- ---- terms

values-renamed : {K X Y : Type 0} (σ : K → K) (h : X → Y) (ts : List (K × X))
    → map (λ t. (t.0, h t.1)) (renamed_entries σ ts)
    ≡ renamed_entries σ (map (λ t. (t.0, h t.1)) ts)
values-renamed σ h [] = refl
values-renamed σ h (t ∷ ts) = ap (λ l. (σ t.0, h t.1) ∷ l) (values-renamed σ h ts)

pub append-renamed : {K X : Type 0} (σ : K → K) (ts us : List (K × X))
    → renamed_entries σ ts ++ renamed_entries σ us ≡ renamed_entries σ (ts ++ us)
append-renamed σ [] us = refl
append-renamed σ (t ∷ ts) us = ap (λ l. (σ t.0, t.1) ∷ l) (append-renamed σ ts us)

module _ {K : Type 0} (σ : K → K) where
  pub nonzero-renamed : (ts : List (K × Rational))
      → list_all is_nonzero (renamed_entries σ ts) ≡ list_all is_nonzero ts
  nonzero-renamed [] = refl
  nonzero-renamed (t ∷ ts) = ap (λ b. is_nonzero t && b) (nonzero-renamed ts)

  filter-renamed : (ts : List (K × Rational))
      → filter is_nonzero (renamed_entries σ ts) ≡ renamed_entries σ (filter is_nonzero ts)
  filter-renamed [] = refl
  filter-renamed (t ∷ ts) = by (is_nonzero t) (filter-renamed ts)
    where
      by : (b : Bool)
          → filter is_nonzero (renamed_entries σ ts) ≡ renamed_entries σ (filter is_nonzero ts)
          → cond b ((σ t.0, t.1) ∷ filter is_nonzero (renamed_entries σ ts))
          (filter is_nonzero (renamed_entries σ ts))
          ≡ renamed_entries σ (cond b (t ∷ filter is_nonzero ts) (filter is_nonzero ts))
      by true rest = ap (λ l. (σ t.0, t.1) ∷ l) rest
      by false rest = rest

  -- what is read at the new keys is what was read at the old
  pub linear-renamed : (ts : List (K × Rational)) (x y : K → Rational) → ((k : K) → y (σ k) ≡ x k)
      → linear (renamed_entries σ ts) y ≡ linear ts x
  unfolding linear
  linear-renamed [] x y same = refl
  linear-renamed (t ∷ ts) x y same =
      ap₂ (λ p q. (t.1 *ℚ p) +ℚ q) (same t.0) (linear-renamed ts x y same)

-- ---- functions

abbrev pub renamed_function : {K : Type 0} {R : K → K → Ordering} → (K → K) → FunctionOver R
    → FunctionOver R
renamed_function σ f = function_of (renamed_entries σ (terms_of f)) f.constant

module _ {K : Type 0} {R : K → K → Ordering} (σ : K → K) (keeps : KeepsOrder R σ) where
  rise-renamed : {X : Type 0} (ts : List (K × X)) → RiseBy R ts → RiseBy R (renamed_entries σ ts)
  rise-renamed ts h = record { rising = sorted-renamed R σ keeps ts ∙ h.rising }

  pub terms-renamed : (f : FunctionOver R)
      → terms_of (renamed_function σ f) ≡ renamed_entries σ (terms_of f)
  terms-renamed f =
      terms_kept (renamed_entries σ (terms_of f)) f.constant
      (rise-renamed (terms_of f) (terms_rise f)) (nonzero-renamed σ (terms_of f) ∙ f.nonzero)

  pub constant-renamed : (f : FunctionOver R) → (renamed_function σ f).constant ≡ f.constant
  constant-renamed f = constant-function_of R (renamed_entries σ (terms_of f)) f.constant

  -- a function is its terms and its constant
  pub is_renamed : (f g : FunctionOver R) → terms_of g ≡ renamed_entries σ (terms_of f)
      → g.constant ≡ f.constant → g ≡ renamed_function σ f
  is_renamed f g terms constant =
      same_function g (renamed_function σ f) (terms ∙ sym (terms-renamed f))
      (constant ∙ sym (constant-renamed f))

  function_of-renamed : (ts : List (K × Rational)) (c : Rational) → RiseBy R ts
      → function_of {R = R} (renamed_entries σ ts) c ≡ renamed_function σ (function_of ts c)
  function_of-renamed ts c h =
      is_renamed (function_of ts c) (function_of (renamed_entries σ ts) c)
      (terms-function_of (renamed_entries σ ts) c (rise-renamed ts h) ∙ filter-renamed σ ts
      ∙ ap (renamed_entries σ) (sym (terms-function_of ts c h)))
      (constant-function_of R (renamed_entries σ ts) c ∙ sym (constant-function_of R ts c))

  pub variable-renamed : (v : K) → variable {R = R} (σ v) ≡ renamed_function σ (variable v)
  variable-renamed v =
      is_renamed (variable v) (variable (σ v))
      (terms-variable R (σ v) ∙ ap (renamed_entries σ) (sym (terms-variable R v)))
      (constant-variable R (σ v) ∙ sym (constant-variable R v))

  pub constant_function-renamed : (c : Rational)
      → constant_function {R = R} c ≡ renamed_function σ (constant_function c)
  constant_function-renamed c =
      is_renamed (constant_function c) (constant_function c)
      (terms-constant_function R c ∙ ap (renamed_entries σ) (sym (terms-constant_function R c)))
      refl

  pub negated-renamed : (f : FunctionOver R)
      → negated (renamed_function σ f) ≡ renamed_function σ (negated f)
  unfolding negated
  negated-renamed f =
      ap₂ (λ ts c. function_of (negated_terms ts) (neg_ℚ c)) (terms-renamed f) (constant-renamed f)
      ∙ ap (λ ts. function_of ts (neg_ℚ f.constant)) (values-renamed σ neg_ℚ (terms_of f))
      ∙ function_of-renamed (negated_terms (terms_of f)) (neg_ℚ f.constant)
      (negated_rise (terms_of f) (terms_rise f))

  -- ---- values

  pub value-renamed : (f : FunctionOver R) (x y : K → Rational) → ((k : K) → y (σ k) ≡ x k)
      → value_of (renamed_function σ f) y ≡ value_of f x
  unfolding value_of
  value-renamed f x y same =
      ap₂ (λ c ts. c +ℚ linear ts y) (constant-renamed f) (terms-renamed f)
      ∙ ap (λ q. f.constant +ℚ q) (linear-renamed σ (terms_of f) x y same)

  pub slope-renamed : (f : FunctionOver R) (x y : K → Rational) → ((k : K) → y (σ k) ≡ x k)
      → slope (renamed_function σ f) y ≡ slope f x
  slope-renamed f x y same =
      ap (λ ts. linear ts y) (terms-renamed f) ∙ linear-renamed σ (terms_of f) x y same

  -- ---- coefficients

  pub map-renamed : (f : FunctionOver R) → (renamed_function σ f).terms ≡ renamed_map σ f.terms
  map-renamed f =
      finite.same_entries_map _ _ (terms-renamed f ∙ sym (entries-renamed σ keeps f.terms))

  pub coefficient-renamed : (f : FunctionOver R) (v : K)
      → coefficient (renamed_function σ f) (σ v) ≡ coefficient f v
  coefficient-renamed f v =
      ap (λ m. unwrap_or (finite.get m (σ v)) zero_ℚ) (map-renamed f)
      ∙ ap (λ o. unwrap_or o zero_ℚ) (get-renamed σ keeps f.terms v)

module _ {K : Type 0} {R : K → K → Ordering} (o : IsKeyOrder R) (σ : K → K)
    (keeps : KeepsOrder R σ) where
  -- ---- sums

  pub added_at-renamed : (m : FinMap R Rational) (k : K) (q : Rational)
      → added_at (renamed_map σ m) (σ k) q ≡ renamed_map σ (added_at m k q)
  added_at-renamed m k q =
      ap (λ p. finite.insert (renamed_map σ m) (σ k) (met p q)) (get-renamed σ keeps m k)
      ∙ insert-renamed σ keeps o.total m k (met (finite.get m k) q)

  pub added_terms-renamed : (m : FinMap R Rational) (ts : List (K × Rational))
      → added_terms (renamed_map σ m) (renamed_entries σ ts) ≡ renamed_map σ (added_terms m ts)
  unfolding added_terms
  added_terms-renamed m [] = refl
  added_terms-renamed m (t ∷ ts) =
      ap (λ n. added_terms n (renamed_entries σ ts)) (added_at-renamed m t.0 t.1)
      ∙ added_terms-renamed (added_at m t.0 t.1) ts

  made-renamed : (m : FinMap R Rational) (c : Rational)
      → function_of {R = R} (finite.entries (renamed_map σ m)) c
      ≡ renamed_function σ (function_of (finite.entries m) c)
  made-renamed m c =
      ap (λ ts. function_of ts c) (entries-renamed σ keeps m)
      ∙ function_of-renamed σ keeps (finite.entries m) c (entries_rise m)

  pub sum-renamed : (f g : FunctionOver R)
      → sum_of (renamed_function σ f) (renamed_function σ g) ≡ renamed_function σ (sum_of f g)
  unfolding sum_of
  sum-renamed f g =
      ap₂ (λ m ts. function_of (finite.entries (added_terms m ts))
      ((renamed_function σ f).constant +ℚ (renamed_function σ g).constant))
      (map-renamed σ keeps f) (terms-renamed σ keeps g)
      ∙ ap₂ (λ m c. function_of (finite.entries m) c)
      (added_terms-renamed f.terms (terms_of g))
      (ap₂ (λ p q. p +ℚ q) (constant-renamed σ keeps f) (constant-renamed σ keeps g))
      ∙ made-renamed (added_terms f.terms (terms_of g)) (f.constant +ℚ g.constant)

  -- ---- compositions

  -- the new keys have the old keys' expressions, renamed
  abbrev pub AreRenamed : (K → FunctionOver R) → (K → FunctionOver R) → Type 0
  AreRenamed e d = (k : K) → d (σ k) ≡ renamed_function σ (e k)

  module _ (e d : K → FunctionOver R) (same : AreRenamed e d) where
    times-renamed : (q : Rational) (k : K)
        → times q (terms_of (d (σ k))) ≡ renamed_entries σ (times q (terms_of (e k)))
    times-renamed q k =
        ap (λ f. times q (terms_of f)) (same k)
        ∙ ap (times q) (terms-renamed σ keeps (e k))
        ∙ values-renamed σ (λ p. q *ℚ p) (terms_of (e k))

    pub substituted-renamed : (ts : List (K × Rational))
        → substituted d (renamed_entries σ ts) ≡ renamed_entries σ (substituted e ts)
    unfolding substituted
    substituted-renamed [] = refl
    substituted-renamed (t ∷ ts) =
        ap₂ (λ a b. a ++ b) (times-renamed t.1 t.0) (substituted-renamed ts)
        ∙ append-renamed σ (times t.1 (terms_of (e t.0))) (substituted e ts)

    pub constants-renamed : (k : K) → (d (σ k)).constant ≡ (e k).constant
    constants-renamed k = ap (λ f. f.constant) (same k) ∙ constant-renamed σ keeps (e k)

    pub composed-renamed : (f : FunctionOver R)
        → composed d (renamed_function σ f) ≡ renamed_function σ (composed e f)
    unfolding composed
    composed-renamed f =
        ap₂
        (λ ts c. function_of (finite.entries (added_terms (finite.empty {R = R})
        (substituted d ts))) c)
        (terms-renamed σ keeps f)
        (value-renamed σ keeps f (λ u. (e u).constant) (λ u. (d u).constant) constants-renamed)
        ∙ ap₂ (λ m ts. function_of (finite.entries (added_terms m ts))
        (value_of f (λ u. (e u).constant)))
        (sym (empty-renamed σ keeps)) (substituted-renamed (terms_of f))
        ∙ ap (λ m. function_of (finite.entries m) (value_of f (λ u. (e u).constant)))
        (added_terms-renamed finite.empty (substituted e (terms_of f)))
        ∙ made-renamed (added_terms finite.empty (substituted e (terms_of f)))
        (value_of f (λ u. (e u).constant))
