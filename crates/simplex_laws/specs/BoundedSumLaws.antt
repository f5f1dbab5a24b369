-- Laws of sums over the numbers below a bound, and of the unit vectors.
use Rattle.std.specs.Prelude.{◌≡◌, ℕ, zero, suc, ◌<◌, ◌≤◌, Bool, true, false, cond, nat_eq, refl}
use Rattle.std.proofs.Common.{sym, ◌∙◌, ap, ap₂, arith, subst, true≢false}
use Rattle.std.proofs.lemmas.Bool.{cond-true, eq-eqb, eqb-true}
use Rattle.ratio_core.specs.Rational.{Rational, neg_ℚ, one_ℚ, zero_ℚ, ◌*ℚ◌, ◌+ℚ◌, ◌-ℚ◌, ◌≤ℚ◌}
use Rattle.rational_laws.specs.Field.{*ℚ-+ℚ, *ℚ-zero, *ℚ_comm, +ℚ-zero, +ℚ_inner_comm, neg_ℚ-sum, neg_ℚ-zero, one-*ℚ, zero-*ℚ, zero-+ℚ}
use Rattle.rational_laws.specs.Order.{≤ℚ-+ℚ, ≤ℚ_refl}
use Rattle.simplex_form.specs.BoundedSums.{delta, sum_to}

-- ---- sums

pub sum_to_same : (n : ℕ) (f g : ℕ → Rational) → ((k : ℕ) → k < n → f k ≡ g k)
    → sum_to n f ≡ sum_to n g
sum_to_same zero f g e = refl
sum_to_same (suc n) f g e =
    ap₂ ◌+ℚ◌ (sum_to_same n f g (λ k h. e k (omega arith))) (e n (omega arith))

pub sum_to_zero : (n : ℕ) → sum_to n (λ _. zero_ℚ) ≡ zero_ℚ
sum_to_zero zero = refl
sum_to_zero (suc n) = +ℚ-zero (sum_to n (λ _. zero_ℚ)) ∙ sum_to_zero n

-- a sum whose terms are 0
pub sum_to_zeros : (n : ℕ) (f : ℕ → Rational) → ((k : ℕ) → k < n → f k ≡ zero_ℚ)
    → sum_to n f ≡ zero_ℚ
sum_to_zeros n f e = sum_to_same n f (λ _. zero_ℚ) e ∙ sum_to_zero n

pub sum_to-+ℚ : (n : ℕ) (f g : ℕ → Rational) → sum_to n (λ k. f k +ℚ g k) ≡ sum_to n f +ℚ sum_to n g
sum_to-+ℚ zero f g = sym (zero-+ℚ zero_ℚ)
sum_to-+ℚ (suc n) f g = ap (λ s. s +ℚ (f n +ℚ g n)) (sum_to-+ℚ n f g)
    ∙ +ℚ_inner_comm (sum_to n f) (sum_to n g) (f n) (g n)

pub sum_to-neg_ℚ : (n : ℕ) (f : ℕ → Rational) → sum_to n (λ k. neg_ℚ (f k)) ≡ neg_ℚ (sum_to n f)
sum_to-neg_ℚ zero f = sym neg_ℚ-zero
sum_to-neg_ℚ (suc n) f = ap (λ s. s +ℚ neg_ℚ (f n)) (sum_to-neg_ℚ n f)
    ∙ sym (neg_ℚ-sum (sum_to n f) (f n))

pub sum_to--ℚ : (n : ℕ) (f g : ℕ → Rational) → sum_to n (λ k. f k -ℚ g k) ≡ sum_to n f -ℚ sum_to n g
sum_to--ℚ n f g = sum_to-+ℚ n f (λ k. neg_ℚ (g k)) ∙ ap (λ s. sum_to n f +ℚ s) (sum_to-neg_ℚ n g)

-- a constant comes out, on either side
pub sum_to-*ℚ : (n : ℕ) (c : Rational) (f : ℕ → Rational)
    → sum_to n (λ k. c *ℚ f k) ≡ c *ℚ sum_to n f
sum_to-*ℚ zero c f = sym (*ℚ-zero c)
sum_to-*ℚ (suc n) c f = ap (λ s. s +ℚ c *ℚ f n) (sum_to-*ℚ n c f) ∙ sym (*ℚ-+ℚ c (sum_to n f) (f n))

pub sum_to-*ℚ_right : (n : ℕ) (c : Rational) (f : ℕ → Rational)
    → sum_to n (λ k. f k *ℚ c) ≡ sum_to n f *ℚ c
sum_to-*ℚ_right n c f = sum_to_same n (λ k. f k *ℚ c) (λ k. c *ℚ f k) (λ k _. *ℚ_comm (f k) c)
    ∙ sum_to-*ℚ n c f ∙ *ℚ_comm c (sum_to n f)

-- a sum of sums in either order
pub sum_to_exchanged : (m n : ℕ) (f : ℕ → ℕ → Rational)
    → sum_to m (λ i. sum_to n (λ k. f i k)) ≡ sum_to n (λ k. sum_to m (λ i. f i k))
sum_to_exchanged zero n f = sym (sum_to_zero n)
sum_to_exchanged (suc m) n f =
    ap (λ s. s +ℚ sum_to n (λ k. f m k)) (sum_to_exchanged m n f)
    ∙ sym (sum_to-+ℚ n (λ k. sum_to m (λ i. f i k)) (λ k. f m k))

-- ---- the unit vectors

pub delta_same : (i : ℕ) → delta i i ≡ one_ℚ
unfolding delta
delta_same i = cond-true (nat_eq i i) one_ℚ zero_ℚ (eq-eqb i i refl)

pub delta_other : (i k : ℕ) → ¬ (i ≡ k) → delta i k ≡ zero_ℚ
unfolding delta
delta_other i k n = by_test (nat_eq i k) refl
  where
    by_test : (b : Bool) → nat_eq i k ≡ b → cond b one_ℚ zero_ℚ ≡ zero_ℚ
    by_test true e = absurd (n (eqb-true i k e))
    by_test false e = refl

-- a fact of two numbers holds where it holds of equal ones, and of different ones
pub same_or_other : (P : Type 0) (i k : ℕ) → (i ≡ k → P) → (¬ (i ≡ k) → P) → P
same_or_other P i k same other = by_test (nat_eq i k) refl
  where
    by_test : (b : Bool) → nat_eq i k ≡ b → P
    by_test true e = same (eqb-true i k e)
    by_test false e = other (λ h. absurd (true≢false (sym (eq-eqb i k h) ∙ e)))

pub delta_sym : (i k : ℕ) → delta i k ≡ delta k i
delta_sym i k = same_or_other (delta i k ≡ delta k i) i k
    (λ e. ap (λ j. delta i j) (sym e) ∙ ap (λ j. delta j i) e)
    (λ n. delta_other i k n ∙ sym (delta_other k i (λ e. n (sym e))))

sum_to_delta_past : (n r : ℕ) (f : ℕ → Rational) → n ≤ r → sum_to n (λ k. delta r k *ℚ f k) ≡ zero_ℚ
sum_to_delta_past n r f h =
    sum_to_zeros n (λ k. delta r k
    *ℚ f k) (λ k b. ap (λ d. d *ℚ f k) (delta_other r k (λ e. omega arith)) ∙ zero-*ℚ (f k))

-- a sum with a unit vector picks one term
pub sum_to_delta : (n r : ℕ) (f : ℕ → Rational) → r < n → sum_to n (λ k. delta r k *ℚ f k) ≡ f r
sum_to_delta zero r f h = absurd (omega arith)
sum_to_delta (suc n) r f h =
    same_or_other _ r n at_end (λ k. below_end k (sum_to_delta n r f (omega (arith, k))))
  where
    at_end : r ≡ n → sum_to n (λ k. delta r k *ℚ f k) +ℚ delta r n *ℚ f n ≡ f r
    at_end e =
        ap₂ ◌+ℚ◌ (sum_to_delta_past n r f (omega (arith, e)))
        (ap (λ k. delta r k *ℚ f k) (sym e) ∙ ap (λ d. d *ℚ f r) (delta_same r) ∙ one-*ℚ (f r))
        ∙ zero-+ℚ (f r)

    below_end : ¬ (r ≡ n) → sum_to n (λ k. delta r k *ℚ f k) ≡ f r
        → sum_to n (λ k. delta r k *ℚ f k) +ℚ delta r n *ℚ f n ≡ f r
    below_end k e =
        ap₂ ◌+ℚ◌ e (ap (λ d. d *ℚ f n) (delta_other r n k) ∙ zero-*ℚ (f n)) ∙ +ℚ-zero (f r)

pub sum_to_delta_right : (n r : ℕ) (f : ℕ → Rational) → r < n
    → sum_to n (λ k. f k *ℚ delta r k) ≡ f r
sum_to_delta_right n r f h = sum_to_same n (λ k. f k *ℚ delta r k) (λ k. delta r k *ℚ f k)
    (λ k _. *ℚ_comm (f k) (delta r k)) ∙ sum_to_delta n r f h

-- ---- order

pub sum_to-≤ℚ : (n : ℕ) (f g : ℕ → Rational) → ((k : ℕ) → k < n → f k ≤ℚ g k)
    → sum_to n f ≤ℚ sum_to n g
sum_to-≤ℚ zero f g h = ≤ℚ_refl zero_ℚ
sum_to-≤ℚ (suc n) f g h = ≤ℚ-+ℚ (sum_to n f) (sum_to n g) (f n) (g n)
    (sum_to-≤ℚ n f g (λ k b. h k (omega arith))) (h n (omega arith))

pub sum_to_nonneg : (n : ℕ) (f : ℕ → Rational) → ((k : ℕ) → k < n → zero_ℚ ≤ℚ f k)
    → zero_ℚ ≤ℚ sum_to n f
sum_to_nonneg n f h =
    subst (λ x. x ≤ℚ sum_to n f) (sum_to_zero n) (sum_to-≤ℚ n (λ _. zero_ℚ) f h)

pub sum_to_nonpos : (n : ℕ) (f : ℕ → Rational) → ((k : ℕ) → k < n → f k ≤ℚ zero_ℚ)
    → sum_to n f ≤ℚ zero_ℚ
sum_to_nonpos n f h =
    subst (λ x. sum_to n f ≤ℚ x) (sum_to_zero n) (sum_to-≤ℚ n f (λ _. zero_ℚ) h)

-- the sum of numbers that aren't negative is at least each of them
pub term-≤ℚ-sum_to : (n r : ℕ) (f : ℕ → Rational) → ((k : ℕ) → k < n → zero_ℚ ≤ℚ f k) → r < n
    → f r ≤ℚ sum_to n f
term-≤ℚ-sum_to zero r f h b = absurd (omega arith)
term-≤ℚ-sum_to (suc n) r f h b = same_or_other _ r n at_end
    (λ k. below_end (term-≤ℚ-sum_to n r f (λ j c. h j (omega arith)) (omega (arith, k))))
  where
    at_end : r ≡ n → f r ≤ℚ (sum_to n f +ℚ f n)
    at_end e =
        subst (λ x. x ≤ℚ (sum_to n f +ℚ f n)) (zero-+ℚ (f n) ∙ ap f (sym e))
        (≤ℚ-+ℚ zero_ℚ (sum_to n f) (f n) (f n) (sum_to_nonneg n f (λ k c. h k (omega arith)))
        (≤ℚ_refl (f n)))

    below_end : f r ≤ℚ sum_to n f → f r ≤ℚ (sum_to n f +ℚ f n)
    below_end e =
        subst (λ x. x ≤ℚ (sum_to n f +ℚ f n)) (+ℚ-zero (f r))
        (≤ℚ-+ℚ (f r) (sum_to n f) zero_ℚ (f n) e (h n (omega arith)))
