-- The weight of terms: the sizes of their coefficients, added up. What is added at a key weighs no
-- more than what was there and what came, and sums, values and substitutions of terms whose weights
-- fit fit.
use Rattle.std.specs.Prelude.{◌≡◌, ℕ, ◌+◌, ◌*◌, ◌^◌, ◌<◌, ◌≤◌, Bool, true, false, cond, T, List, [], ◌∷◌, ◌++◌, filter, Option, Some, None, unsigned_abs, refl}
use Rattle.std.proofs.Common.{sym, subst, ◌∙◌, arith}
use Rattle.std.proofs.Math.Nat.{mul-le-mul_left, mul-le-mul_right}
use Rattle.std.proofs.lemmas.List.Elements.{All-cons, All-nil}
use Rattle.std.specs.Cmp.{IsTotalOrder}
use Rattle.std.specs.FinMap as finite
use Rattle.std.specs.FinMap.{FinMap, find, is_sorted}
use Rattle.std.specs.FinMap.Entries.{by_order, put}
use Rattle.std.specs.Ordering.{is_eq}
use Rattle.std.specs.declared.cmp.Ordering.{Ordering}
use Rattle.std.specs.declared.cmp.Ordering.TheVariants.{Less, Equal, Greater}
use Rattle.ratio_core.specs.Rational.{Fits, Rational, ◌*ℚ◌, ◌+ℚ◌, neg_ℚ}
use Rattle.aff_core.specs.Arithmetic.{MeetsFit, TermsFit, added_at, added_terms, met}
use Rattle.aff_core.specs.Terms.{TimesFit, ValueFits, linear, negated_terms, times}
use Rattle.map_laws.specs.EntryLaws.{below_less, find_below}
use Rattle.map_laws.specs.TestLaws.{first, second}
use Rattle.small_number_laws.specs.Whole.{IsWholeWithin}
use Rattle.small_number_laws.specs.WholeLaws.{whole_fits, whole_itself, whole_more, whole_neg, whole_product, whole_sum, whole_sum_fits, whole_zero}

-- the sizes of the coefficients, added up
unfoldable pub weight : {K : Type 0} → List (K × Rational) → ℕ
weight [] = 0
weight (t ∷ ts) = unsigned_abs t.1.num + weight ts

-- each coefficient is whole
unfoldable pub AreWhole : {K : Type 0} → List (K × Rational) → Type 0
AreWhole [] = Unit {0}
AreWhole (t ∷ ts) = (t.1.den ≡ 1) × AreWhole ts

pub record WeighsAtMost {K : Type 0} (bound : ℕ) (ts : List (K × Rational)) : Type 0 where
  pub whole : AreWhole ts
  pub within : weight ts ≤ bound

-- ---- lists

module _ {K : Type 0} where
  pub weighs_none : WeighsAtMost {K = K} 0 []
  unfolding weight AreWhole
  weighs_none = record { whole = tt; within = omega arith }

  pub weighs_more : (a b : ℕ) (ts : List (K × Rational)) → a ≤ b → WeighsAtMost a ts
      → WeighsAtMost b ts
  weighs_more a b ts h w = record { whole = w.whole; within = omega (arith, h, w.within) }

  pub weighs_itself : (ts : List (K × Rational)) → AreWhole ts → WeighsAtMost (weight ts) ts
  weighs_itself ts h = record { whole = h; within = omega arith }

  pub weighs_cons : (a b : ℕ) (t : K × Rational) (ts : List (K × Rational)) → IsWholeWithin a t.1
      → WeighsAtMost b ts → WeighsAtMost (a + b) (t ∷ ts)
  unfolding weight AreWhole
  weighs_cons a b t ts h w =
      record { whole = (h.whole, w.whole); within = omega (arith, h.size, w.within) }

  -- a list with a first term, taken apart
  pub record IsParted (bound : ℕ) (t : K × Rational) (ts : List (K × Rational)) : Type 0 where
    pub size : ℕ
    pub rest : ℕ
    pub first : IsWholeWithin size t.1
    pub others : WeighsAtMost rest ts
    pub total : size + rest ≤ bound

  pub parted : (bound : ℕ) (t : K × Rational) (ts : List (K × Rational))
      → WeighsAtMost bound (t ∷ ts)
      → IsParted bound t ts
  unfolding weight AreWhole
  parted bound t ts w = record {
    size = unsigned_abs t.1.num;
    rest = weight ts;
    first = whole_itself t.1 w.whole.0;
    others = weighs_itself ts w.whole.1;
    total = w.within;
  }

  pub weighs_append : (a b : ℕ) (ts us : List (K × Rational)) → WeighsAtMost a ts
      → WeighsAtMost b us
      → WeighsAtMost (a + b) (ts ++ us)
  weighs_append a b [] us v w = weighs_more b (a + b) us (omega arith) w
  weighs_append a b (t ∷ ts) us v w =
      let parts = parted a t ts v in
      weighs_more (parts.size + (parts.rest + b)) (a + b) (t ∷ (ts ++ us))
      (omega (arith, parts.total))
      (weighs_cons parts.size (parts.rest + b) t (ts ++ us) parts.first
      (weighs_append parts.rest b ts us parts.others w))

  -- a change of the coefficients that makes sizes at most k times as large
  pub weighs_times : (k a : ℕ) (c : Rational) (ts : List (K × Rational)) → IsWholeWithin k c
      → WeighsAtMost a ts → WeighsAtMost (k * a) (times c ts)
  weighs_times k a c [] h w = weighs_more 0 (k * a) [] (omega arith) weighs_none
  weighs_times k a c (t ∷ ts) h w =
      let parts = parted a t ts w in
      let within : k * (parts.size + parts.rest) ≤ k * a = mul-le-mul_left k parts.total in
      weighs_more (k * parts.size + k * parts.rest) (k * a) (times c (t ∷ ts))
      (omega (arith, within))
      (weighs_cons (k * parts.size) (k * parts.rest) (t.0, c *ℚ t.1) (times c ts)
      (whole_product k parts.size c t.1 h parts.first)
      (weighs_times k parts.rest c ts h parts.others))

  pub weighs_negated : (a : ℕ) (ts : List (K × Rational)) → WeighsAtMost a ts
      → WeighsAtMost a (negated_terms ts)
  weighs_negated a [] w = w
  weighs_negated a (t ∷ ts) w =
      let parts = parted a t ts w in
      weighs_more (parts.size + parts.rest) a (negated_terms (t ∷ ts)) parts.total
      (weighs_cons parts.size parts.rest (t.0, neg_ℚ t.1) (negated_terms ts)
      (whole_neg parts.size t.1 parts.first) (weighs_negated parts.rest ts parts.others))

  pub weighs_filter : (a : ℕ) (p : K × Rational → Bool) (ts : List (K × Rational))
      → WeighsAtMost a ts
      → WeighsAtMost a (filter p ts)
  weighs_filter a p [] w = w
  weighs_filter a p (t ∷ ts) w =
      let parts = parted a t ts w in
      by parts (weighs_filter parts.rest p ts parts.others) (p t)
    where
      by : (parts : IsParted a t ts) → WeighsAtMost parts.rest (filter p ts) → (b : Bool)
          → WeighsAtMost a (cond b (t ∷ filter p ts) (filter p ts))
      by parts rest true =
          weighs_more (parts.size + parts.rest) a (t ∷ filter p ts) parts.total
          (weighs_cons parts.size parts.rest t (filter p ts) parts.first rest)
      by parts rest false =
          weighs_more parts.rest a (filter p ts) (omega (arith, parts.total)) rest

  -- each product fits
  pub times_fit_within : (k a : ℕ) (c : Rational) (ts : List (K × Rational)) → IsWholeWithin k c
      → WeighsAtMost a ts → k * a < 2 ^ 127 → TimesFit c ts
  times_fit_within k a c [] h w lt = All-nil (λ u. Fits (c *ℚ u.1))
  times_fit_within k a c (t ∷ ts) h w lt =
      let parts = parted a t ts w in
      let within : k * (parts.size + parts.rest) ≤ k * a = mul-le-mul_left k parts.total in
      All-cons (λ u. Fits (c *ℚ u.1)) t ts
      (whole_fits (k * parts.size) (c *ℚ t.1)
      (whole_product k parts.size c t.1 h parts.first) (omega (arith, within, lt)))
      (times_fit_within k parts.rest c ts h parts.others (omega (arith, within, lt)))

  -- ---- values

  pub linear_within : (a k : ℕ) (ts : List (K × Rational)) (x : K → Rational) → WeighsAtMost a ts
      → ((u : K) → IsWholeWithin k (x u)) → IsWholeWithin (a * k) (linear ts x)
  unfolding linear
  linear_within a k [] x w each = whole_more 0 (a * k) _ (omega arith) whole_zero
  linear_within a k (t ∷ ts) x w each =
      let parts = parted a t ts w in
      let within : (parts.size + parts.rest) * k ≤ a * k = mul-le-mul_right k parts.total in
      whole_more (parts.size * k + parts.rest * k) (a * k) _ (omega (arith, within))
      (whole_sum (parts.size * k) (parts.rest * k) (t.1 *ℚ x t.0) (linear ts x)
      (whole_product parts.size k t.1 (x t.0) parts.first (each t.0))
      (linear_within parts.rest k ts x parts.others each))

  pub value_fits_within : (s a k : ℕ) (sum : Rational) (ts : List (K × Rational))
      (x : K → Rational) → IsWholeWithin s sum → WeighsAtMost a ts
      → ((u : K) → IsWholeWithin k (x u)) → s + a * k < 2 ^ 127 → ValueFits sum ts x
  unfolding ValueFits
  value_fits_within s a k sum [] x h w each lt = tt
  value_fits_within s a k sum (t ∷ ts) x h w each lt =
      let parts = parted a t ts w in
      let within : (parts.size + parts.rest) * k ≤ a * k = mul-le-mul_right k parts.total in
      let product = whole_product parts.size k t.1 (x t.0) parts.first (each t.0) in (
        record {
          product =
              whole_fits (parts.size * k) (t.1 *ℚ x t.0) product (omega (arith, within, lt));
          total =
              whole_sum_fits s (parts.size * k) sum (t.1 *ℚ x t.0) h product
              (omega (arith, within, lt));
        },
        value_fits_within (s + parts.size * k) parts.rest k (sum +ℚ (t.1 *ℚ x t.0)) ts x
            (whole_sum s (parts.size * k) sum (t.1 *ℚ x t.0) h product) parts.others each
            (omega (arith, within, lt)),
      )

-- ---- maps

-- what is found, if anything, is within the bound
abbrev IsFoundWithin : ℕ → Option Rational → Type 0
IsFoundWithin a None = Unit {0}
IsFoundWithin a (Some q) = IsWholeWithin a q

module _ {K : Type 0} (R : K → K → Ordering) where
  found_within : (a : ℕ) (k : K) (es : List (K × Rational)) → WeighsAtMost a es
      → IsFoundWithin a (find R k es)
  found_within a k [] w = tt
  found_within a k (e ∷ es) w =
      let parts = parted a e es w in
      by parts (is_eq (R k e.0)) (found_within parts.rest k es parts.others)
    where
      wider : (b : ℕ) (o : Option Rational) → b ≤ a → IsFoundWithin b o → IsFoundWithin a o
      wider b None h f = tt
      wider b (Some q) h f = whole_more b a q h f

      by : (parts : IsParted a e es) (b : Bool) → IsFoundWithin parts.rest (find R k es)
          → IsFoundWithin a (cond b (Some e.1) (find R k es))
      by parts true rest = whole_more parts.size a e.1 (omega (arith, parts.total)) parts.first
      by parts false rest =
          wider parts.rest (find R k es) (omega (arith, parts.total)) rest

-- what is put at a key, by what is found there and by how the key compares with the first
abbrev placed : {K : Type 0} (R : K → K → Ordering) → K → Rational → K × Rational
    → List (K × Rational) → Option Rational → Ordering → List (K × Rational)
placed R k q e es f c =
    by_order c ((k, met f q) ∷ e ∷ es) ((e.0, met f q) ∷ es) (e ∷ put R k (met f q) es)

module _ {K : Type 0} {R : K → K → Ordering} (o : IsTotalOrder R) where
  -- what is put at a key weighs no more than what was there and what came
  put_within : (a b : ℕ) (k : K) (q : Rational) (es : List (K × Rational)) → T (is_sorted R es)
      → WeighsAtMost a es → IsWholeWithin b q
      → WeighsAtMost (a + b) (put R k (met (find R k es) q) es)
  put_within a b k q [] s w h =
      weighs_more (b + 0) (a + b) ((k, q) ∷ []) (omega arith)
      (weighs_cons b 0 (k, q) [] h weighs_none)
  put_within a b k q (e ∷ es) s w h =
      let parts = parted a e es w in
      by parts (R k e.0) refl (put_within parts.rest b k q es (second _ _ s) parts.others h)
    where
      by : (parts : IsParted a e es) (c : Ordering) → R k e.0 ≡ c
          → WeighsAtMost (parts.rest + b) (put R k (met (find R k es) q) es)
          → WeighsAtMost (a + b) (placed R k q e es (cond (is_eq c) (Some e.1) (find R k es)) c)
      by parts Less is later =
          let none : find R k es ≡ None =
          find_below R k es (below_less o k e.0 es is (first _ _ s)) in
          subst (λ f. WeighsAtMost (a + b) ((k, met f q) ∷ e ∷ es)) (sym none)
          (weighs_more (b + (parts.size + parts.rest)) (a + b) ((k, q) ∷ e ∷ es)
          (omega (arith, parts.total))
          (weighs_cons b (parts.size + parts.rest) (k, q) (e ∷ es) h
          (weighs_cons parts.size parts.rest e es parts.first parts.others)))
      by parts Equal is later =
          weighs_more ((parts.size + b) + parts.rest) (a + b) ((e.0, e.1 +ℚ q) ∷ es)
          (omega (arith, parts.total))
          (weighs_cons (parts.size + b) parts.rest (e.0, e.1 +ℚ q) es
          (whole_sum parts.size b e.1 q parts.first h) parts.others)
      by parts Greater is later =
          weighs_more (parts.size + (parts.rest + b)) (a + b)
          (e ∷ put R k (met (find R k es) q) es) (omega (arith, parts.total))
          (weighs_cons parts.size (parts.rest + b) e (put R k (met (find R k es) q) es)
          parts.first later)

  added_within : (a b : ℕ) (m : FinMap R Rational) (k : K) (q : Rational)
      → WeighsAtMost a (finite.entries m) → IsWholeWithin b q
      → WeighsAtMost (a + b) (finite.entries (added_at m k q))
  added_within a b m k q w h =
      subst (WeighsAtMost (a + b)) (sym (finite.entries-insert o m k (met (finite.get m k) q))
      ∙ refl)
      (subst (λ f. WeighsAtMost (a + b) (put R k (met f q) (finite.entries m)))
      (sym (finite.get-entries m k))
      (put_within a b k q (finite.entries m) (finite.entries_sorted m) w h))

  meets_within : (a b : ℕ) (m : FinMap R Rational) (k : K) (q : Rational)
      → WeighsAtMost a (finite.entries m) → IsWholeWithin b q → a + b < 2 ^ 127
      → MeetsFit (finite.get m k) q
  meets_within a b m k q w h lt =
      by (finite.get m k)
      (subst (IsFoundWithin a) (sym (finite.get-entries m k))
      (found_within R a k (finite.entries m) w))
    where
      by : (f : Option Rational) → IsFoundWithin a f → MeetsFit f q
      by None f = tt
      by (Some p) f = whole_sum_fits a b p q f h lt

  -- terms that are added, one after another
  pub terms_fit_within : (a b : ℕ) (m : FinMap R Rational) (ts : List (K × Rational))
      → WeighsAtMost a (finite.entries m) → WeighsAtMost b ts → a + b < 2 ^ 127 → TermsFit m ts
  unfolding TermsFit
  terms_fit_within a b m [] w v lt = tt
  terms_fit_within a b m (t ∷ ts) w v lt =
      let parts = parted b t ts v in (
        meets_within a parts.size m t.0 t.1 w parts.first (omega (arith, parts.total, lt)),
        terms_fit_within (a + parts.size) parts.rest (added_at m t.0 t.1) ts
            (added_within a parts.size m t.0 t.1 w parts.first) parts.others
            (omega (arith, parts.total, lt)),
      )

  pub added_terms_within : (a b : ℕ) (m : FinMap R Rational) (ts : List (K × Rational))
      → WeighsAtMost a (finite.entries m) → WeighsAtMost b ts
      → WeighsAtMost (a + b) (finite.entries (added_terms m ts))
  unfolding added_terms
  added_terms_within a b m [] w v = weighs_more a (a + b) (finite.entries m) (omega arith) w
  added_terms_within a b m (t ∷ ts) w v =
      let parts = parted b t ts v in
      weighs_more ((a + parts.size) + parts.rest) (a + b)
      (finite.entries (added_terms (added_at m t.0 t.1) ts)) (omega (arith, parts.total))
      (added_terms_within (a + parts.size) parts.rest (added_at m t.0 t.1) ts
      (added_within a parts.size m t.0 t.1 w parts.first) parts.others)
