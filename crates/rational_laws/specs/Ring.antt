-- Equations that follow by the laws of the ring, decided by computing.
--
-- A polynomial with whole coefficients is kept as a list of terms in one order, so two expressions
-- that are equal by the laws of the ring have the same list. How to use it:
--     square : (a b : Rational) → (a +ℚ b) *ℚ (a +ℚ b)
--         ≡ a *ℚ a +ℚ (whole_ℚ (pos 2) *ℚ a *ℚ b +ℚ b *ℚ b)
--     square = ring₂ _ (λ ρ. simp (as_expression, whole_as ρ) (by_ring ρ _ _ refl))
use Rattle.std.specs.Prelude.{◌≡◌, ℕ, zero, suc, Bool, true, false, cond, nat_le, List, [], ◌∷◌, ℤ, pos, negsuc, ◌+ℤ◌, ◌*ℤ◌, neg_ℤ, refl}
use Rattle.std.proofs.Common.{sym, ◌∙◌, ap, ap₂, arith, Ordering, Less, Equal, Greater, nat_cmp}
use Rattle.std.specs.Cmp.Lexicographic.{slice_cmp}
use Rattle.std.specs.FinMap.{nat_cmp-IsAntisymmetric, slice_cmp-IsAntisymmetric}
use Rattle.ratio_core.specs.Rational.{Rational, neg_ℚ, one_ℚ, reduce, whole_ℚ, zero_ℚ, ◌*ℚ◌, ◌+ℚ◌}
use Rattle.ratio_core.specs.RationalLaws.{reduce_itself}
use Rattle.rational_laws.specs.Field.{*ℚ-+ℚ, *ℚ-one, *ℚ-zero, *ℚ_assoc, *ℚ_comm, +ℚ-*ℚ, +ℚ-zero, +ℚ_assoc, +ℚ_left_comm, neg_ℚ-*ℚ, neg_ℚ-sum, neg_ℚ-zero, one-*ℚ, zero-*ℚ, zero-+ℚ}
use Rattle.rational_laws.specs.Over.{over-+ℚ, over-neg_ℚ, reduce-*ℚ}

-- ---- whole numbers among the rationals

whole_is : (n : ℤ) → whole_ℚ n ≡ reduce n 1
unfolding whole_ℚ
whole_is n = sym (reduce_itself (whole_ℚ n))

pub whole_ℚ-+ℤ : (m n : ℤ) → whole_ℚ (m +ℤ n) ≡ whole_ℚ m +ℚ whole_ℚ n
whole_ℚ-+ℤ m n = whole_is (m +ℤ n)
    ∙ sym (ap₂ ◌+ℚ◌ (whole_is m) (whole_is n) ∙ over-+ℚ m n 1 (omega arith))

pub whole_ℚ-*ℤ : (m n : ℤ) → whole_ℚ (m *ℤ n) ≡ whole_ℚ m *ℚ whole_ℚ n
whole_ℚ-*ℤ m n = whole_is (m *ℤ n)
    ∙ sym (ap₂ ◌*ℚ◌ (whole_is m) (whole_is n) ∙ reduce-*ℚ m n 1 1 (omega arith) (omega arith))

pub whole_ℚ-neg_ℤ : (m : ℤ) → whole_ℚ (neg_ℤ m) ≡ neg_ℚ (whole_ℚ m)
whole_ℚ-neg_ℤ m = whole_is (neg_ℤ m) ∙ sym (ap neg_ℚ (whole_is m) ∙ over-neg_ℚ m 1 (omega arith))

whole_zero : whole_ℚ (pos 0) ≡ zero_ℚ
unfolding zero_ℚ
whole_zero = refl

whole_one : whole_ℚ (pos 1) ≡ one_ℚ
unfolding one_ℚ
whole_one = refl

-- ---- expressions and polynomials

pub data RingExpression : Type 0 where
  variable : ℕ → RingExpression
  number : ℤ → RingExpression
  sum : RingExpression → RingExpression → RingExpression
  product : RingExpression → RingExpression → RingExpression
  negation : RingExpression → RingExpression

-- the value at the variables' values
unfoldable pub value : (ℕ → Rational) → RingExpression → Rational
value ρ (variable n) = ρ n
value ρ (number z) = whole_ℚ z
value ρ (sum e f) = value ρ e +ℚ value ρ f
value ρ (product e f) = value ρ e *ℚ value ρ f
value ρ (negation e) = neg_ℚ (value ρ e)

-- a term is its coefficient and its variables in order
abbrev pub RingTerms : Type 0
RingTerms = List (ℤ × List ℕ)

abbrev pub put_variable : ℕ → List ℕ → List ℕ
put_variable v [] = v ∷ []
put_variable v (w ∷ ws) = cond (nat_le v w) (v ∷ w ∷ ws) (w ∷ put_variable v ws)

abbrev pub times_variables : List ℕ → List ℕ → List ℕ
times_variables [] ws = ws
times_variables (v ∷ vs) ws = put_variable v (times_variables vs ws)

-- the term, unless it is 0
abbrev pub some_term : ℤ → List ℕ → RingTerms → RingTerms
some_term (pos zero) m p = p
some_term (pos (suc n)) m p = (pos (suc n), m) ∷ p
some_term (negsuc n) m p = (negsuc n, m) ∷ p

abbrev pub at_order : Ordering → ℤ → List ℕ → ℤ → List ℕ → RingTerms → RingTerms → RingTerms
at_order Less c m d n p more = some_term c m ((d, n) ∷ p)
at_order Equal c m d n p more = some_term (c +ℤ d) n p
at_order Greater c m d n p more = (d, n) ∷ more

abbrev pub put_term : ℤ → List ℕ → RingTerms → RingTerms
put_term c m [] = some_term c m []
put_term c m (t ∷ p) = at_order (slice_cmp nat_cmp m t.1) c m t.0 t.1 p (put_term c m p)

abbrev pub plus : RingTerms → RingTerms → RingTerms
plus [] q = q
plus (t ∷ p) q = put_term t.0 t.1 (plus p q)

abbrev pub times_term : ℤ → List ℕ → RingTerms → RingTerms
times_term c m [] = []
times_term c m (t ∷ p) = put_term (c *ℤ t.0) (times_variables m t.1) (times_term c m p)

abbrev pub times : RingTerms → RingTerms → RingTerms
times [] q = []
times (t ∷ p) q = plus (times_term t.0 t.1 q) (times p q)

abbrev pub minus : RingTerms → RingTerms
minus [] = []
minus (t ∷ p) = (neg_ℤ t.0, t.1) ∷ minus p

abbrev pub terms_of : RingExpression → RingTerms
terms_of (variable n) = (pos 1, n ∷ []) ∷ []
terms_of (number z) = some_term z [] []
terms_of (sum e f) = plus (terms_of e) (terms_of f)
terms_of (product e f) = times (terms_of e) (terms_of f)
terms_of (negation e) = minus (terms_of e)

-- ---- that the terms have the expression's value

module _ (ρ : ℕ → Rational) where
  abbrev variables_value : List ℕ → Rational
  variables_value [] = one_ℚ
  variables_value (v ∷ vs) = ρ v *ℚ variables_value vs

  abbrev terms_value : RingTerms → Rational
  terms_value [] = zero_ℚ
  terms_value (t ∷ p) = whole_ℚ t.0 *ℚ variables_value t.1 +ℚ terms_value p

  left_comm : (p q r : Rational) → p *ℚ (q *ℚ r) ≡ q *ℚ (p *ℚ r)
  left_comm p q r = sym (*ℚ_assoc p q r) ∙ ap (λ x. x *ℚ r) (*ℚ_comm p q) ∙ *ℚ_assoc q p r

  put_variable_is : (v : ℕ) (ws : List ℕ)
      → variables_value (put_variable v ws) ≡ ρ v *ℚ variables_value ws
  put_variable_is v [] = refl
  put_variable_is v (w ∷ ws) = by_test (nat_le v w) (put_variable_is v ws)
    where
      by_test : (b : Bool) → variables_value (put_variable v ws) ≡ ρ v *ℚ variables_value ws
          → variables_value (cond b (v ∷ w ∷ ws) (w ∷ put_variable v ws))
          ≡ ρ v *ℚ (ρ w *ℚ variables_value ws)
      by_test true e = refl
      by_test false e = ap (λ x. ρ w *ℚ x) e ∙ left_comm (ρ w) (ρ v) (variables_value ws)

  times_variables_is : (vs ws : List ℕ)
      → variables_value (times_variables vs ws) ≡ variables_value vs *ℚ variables_value ws
  times_variables_is [] ws = sym (one-*ℚ (variables_value ws))
  times_variables_is (v ∷ vs) ws =
      put_variable_is v (times_variables vs ws) ∙ ap (λ x. ρ v *ℚ x) (times_variables_is vs ws)
      ∙ sym (*ℚ_assoc (ρ v) (variables_value vs) (variables_value ws))

  some_term_is : (c : ℤ) (m : List ℕ) (p : RingTerms)
      → terms_value (some_term c m p) ≡ whole_ℚ c *ℚ variables_value m +ℚ terms_value p
  some_term_is (pos zero) m p =
      sym (zero-+ℚ (terms_value p))
      ∙ ap (λ x. x +ℚ terms_value p) (sym (zero-*ℚ (variables_value m))
      ∙ ap (λ x. x *ℚ variables_value m) (sym whole_zero))
  some_term_is (pos (suc n)) m p = refl
  some_term_is (negsuc n) m p = refl

  order_lem : (r : Ordering) (c d : ℤ) (m n : List ℕ) (p more : RingTerms) → (r ≡ Equal → m ≡ n)
      → terms_value more ≡ whole_ℚ c *ℚ variables_value m +ℚ terms_value p
      → terms_value (at_order r c m d n p more)
      ≡ whole_ℚ c *ℚ variables_value m +ℚ (whole_ℚ d *ℚ variables_value n +ℚ terms_value p)
  order_lem Less c d m n p more same e = some_term_is c m ((d, n) ∷ p)
  order_lem Equal c d m n p more same e =
      some_term_is (c +ℤ d) n p
      ∙ ap (λ x. x *ℚ variables_value n +ℚ terms_value p) (whole_ℚ-+ℤ c d)
      ∙ ap (λ x. x +ℚ terms_value p) (+ℚ-*ℚ (whole_ℚ c) (whole_ℚ d) (variables_value n))
      ∙ +ℚ_assoc (whole_ℚ c *ℚ variables_value n) (whole_ℚ d *ℚ variables_value n) (terms_value p)
      ∙ ap (λ k. whole_ℚ c *ℚ variables_value k
      +ℚ (whole_ℚ d *ℚ variables_value n +ℚ terms_value p)) (sym (same refl))
  order_lem Greater c d m n p more same e =
      ap (λ x. whole_ℚ d *ℚ variables_value n +ℚ x) e
      ∙ +ℚ_left_comm (whole_ℚ d *ℚ variables_value n) (whole_ℚ c *ℚ variables_value m)
      (terms_value p)

  put_term_is : (c : ℤ) (m : List ℕ) (p : RingTerms)
      → terms_value (put_term c m p) ≡ whole_ℚ c *ℚ variables_value m +ℚ terms_value p
  put_term_is c m [] = some_term_is c m []
  put_term_is c m (t ∷ p) =
      order_lem (slice_cmp nat_cmp m t.1) c t.0 m t.1 p (put_term c m p)
      (slice_cmp-IsAntisymmetric nat_cmp-IsAntisymmetric m t.1) (put_term_is c m p)

  plus_is : (p q : RingTerms) → terms_value (plus p q) ≡ terms_value p +ℚ terms_value q
  plus_is [] q = sym (zero-+ℚ (terms_value q))
  plus_is (t ∷ p) q =
      put_term_is t.0 t.1 (plus p q)
      ∙ ap (λ x. whole_ℚ t.0 *ℚ variables_value t.1 +ℚ x) (plus_is p q)
      ∙ sym (+ℚ_assoc (whole_ℚ t.0 *ℚ variables_value t.1) (terms_value p) (terms_value q))

  cross_lem : (a b c d : Rational) → (a *ℚ c) *ℚ (b *ℚ d) ≡ (a *ℚ b) *ℚ (c *ℚ d)
  cross_lem a b c d = *ℚ_assoc a c (b *ℚ d) ∙ ap (λ x. a *ℚ x) (left_comm c b d)
      ∙ sym (*ℚ_assoc a b (c *ℚ d))

  times_term_is : (c : ℤ) (m : List ℕ) (p : RingTerms)
      → terms_value (times_term c m p) ≡ (whole_ℚ c *ℚ variables_value m) *ℚ terms_value p
  times_term_is c m [] = sym (*ℚ-zero (whole_ℚ c *ℚ variables_value m))
  times_term_is c m (t ∷ p) =
      put_term_is (c *ℤ t.0) (times_variables m t.1) (times_term c m p)
      ∙ ap₂ (λ x y. x *ℚ y +ℚ terms_value (times_term c m p)) (whole_ℚ-*ℤ c t.0)
      (times_variables_is m t.1)
      ∙ ap₂ ◌+ℚ◌ (cross_lem (whole_ℚ c) (variables_value m) (whole_ℚ t.0) (variables_value t.1))
      (times_term_is c m p)
      ∙ sym (*ℚ-+ℚ (whole_ℚ c *ℚ variables_value m) (whole_ℚ t.0 *ℚ variables_value t.1)
      (terms_value p))

  times_is : (p q : RingTerms) → terms_value (times p q) ≡ terms_value p *ℚ terms_value q
  times_is [] q = sym (zero-*ℚ (terms_value q))
  times_is (t ∷ p) q =
      plus_is (times_term t.0 t.1 q) (times p q) ∙ ap₂ ◌+ℚ◌ (times_term_is t.0 t.1 q) (times_is p q)
      ∙ sym (+ℚ-*ℚ (whole_ℚ t.0 *ℚ variables_value t.1) (terms_value p) (terms_value q))

  minus_is : (p : RingTerms) → terms_value (minus p) ≡ neg_ℚ (terms_value p)
  minus_is [] = sym neg_ℚ-zero
  minus_is (t ∷ p) =
      ap₂ (λ x y. x *ℚ variables_value t.1 +ℚ y) (whole_ℚ-neg_ℤ t.0) (minus_is p)
      ∙ ap (λ x. x +ℚ neg_ℚ (terms_value p)) (neg_ℚ-*ℚ (whole_ℚ t.0) (variables_value t.1))
      ∙ sym (neg_ℚ-sum (whole_ℚ t.0 *ℚ variables_value t.1) (terms_value p))

  terms_is : (e : RingExpression) → terms_value (terms_of e) ≡ value ρ e
  unfolding value
  terms_is (variable n) = +ℚ-zero (whole_ℚ (pos 1) *ℚ (ρ n *ℚ one_ℚ))
      ∙ ap₂ ◌*ℚ◌ whole_one (*ℚ-one (ρ n)) ∙ one-*ℚ (ρ n)
  terms_is (number z) = some_term_is z [] [] ∙ +ℚ-zero (whole_ℚ z *ℚ one_ℚ) ∙ *ℚ-one (whole_ℚ z)
  terms_is (sum e f) = plus_is (terms_of e) (terms_of f) ∙ ap₂ ◌+ℚ◌ (terms_is e) (terms_is f)
  terms_is (product e f) = times_is (terms_of e) (terms_of f) ∙ ap₂ ◌*ℚ◌ (terms_is e) (terms_is f)
  terms_is (negation e) = minus_is (terms_of e) ∙ ap neg_ℚ (terms_is e)

  -- expressions with the same terms are equal
  pub by_ring : (e f : RingExpression) → terms_of e ≡ terms_of f → value ρ e ≡ value ρ f
  by_ring e f same = sym (terms_is e) ∙ ap terms_value same ∙ terms_is f

  -- ---- from numbers to expressions

  pub sum_as : (e f : RingExpression) → value ρ e +ℚ value ρ f ≡ value ρ (sum e f)
  unfolding value
  sum_as e f = refl

  pub product_as : (e f : RingExpression) → value ρ e *ℚ value ρ f ≡ value ρ (product e f)
  unfolding value
  product_as e f = refl

  pub negation_as : (e : RingExpression) → neg_ℚ (value ρ e) ≡ value ρ (negation e)
  unfolding value
  negation_as e = refl

  pub whole_as : (z : ℤ) → whole_ℚ z ≡ value ρ (number z)
  unfolding value
  whole_as z = refl

  pub zero_as : zero_ℚ ≡ value ρ (number (pos 0))
  unfolding value
  zero_as = sym whole_zero

  pub one_as : one_ℚ ≡ value ρ (number (pos 1))
  unfolding value
  one_as = sym whole_one

pub ruleset as_expression = (sum_as, product_as, negation_as)

-- ---- up to six variables

abbrev pub given : List Rational → ℕ → Rational
given [] n = zero_ℚ
given (x ∷ xs) zero = x
given (x ∷ xs) (suc n) = given xs n

pub ring₁ : (P : Rational → Type 0) → ((ρ : ℕ → Rational) → P (value ρ (variable 0)))
    → (a : Rational) → P a
unfolding value
ring₁ P h a = h (given (a ∷ []))

pub ring₂ : (P : Rational → Rational → Type 0)
    → ((ρ : ℕ → Rational) → P (value ρ (variable 0)) (value ρ (variable 1))) → (a b : Rational)
    → P a b
unfolding value
ring₂ P h a b = h (given (a ∷ b ∷ []))

pub ring₃ : (P : Rational → Rational → Rational → Type 0)
    → ((ρ : ℕ → Rational) → P (value ρ (variable 0)) (value ρ (variable 1)) (value ρ (variable 2)))
    → (a b c : Rational) → P a b c
unfolding value
ring₃ P h a b c = h (given (a ∷ b ∷ c ∷ []))

pub ring₄ : (P : Rational → Rational → Rational → Rational → Type 0)
    → ((ρ : ℕ → Rational)
    → P (value ρ (variable 0)) (value ρ (variable 1)) (value ρ (variable 2)) (value ρ (variable 3)))
    → (a b c d : Rational) → P a b c d
unfolding value
ring₄ P h a b c d = h (given (a ∷ b ∷ c ∷ d ∷ []))

pub ring₅ : (P : Rational → Rational → Rational → Rational → Rational → Type 0)
    → ((ρ : ℕ → Rational)
    → P (value ρ (variable 0)) (value ρ (variable 1)) (value ρ (variable 2)) (value ρ (variable 3))
    (value ρ (variable 4))) → (a b c d e : Rational) → P a b c d e
unfolding value
ring₅ P h a b c d e = h (given (a ∷ b ∷ c ∷ d ∷ e ∷ []))

pub ring₆ : (P : Rational → Rational → Rational → Rational → Rational → Rational → Type 0)
    → ((ρ : ℕ → Rational)
    → P (value ρ (variable 0)) (value ρ (variable 1)) (value ρ (variable 2)) (value ρ (variable 3))
    (value ρ (variable 4)) (value ρ (variable 5))) → (a b c d e f : Rational) → P a b c d e f
unfolding value
ring₆ P h a b c d e f = h (given (a ∷ b ∷ c ∷ d ∷ e ∷ f ∷ []))
