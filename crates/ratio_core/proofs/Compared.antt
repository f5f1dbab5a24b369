-- Equality and order, as the code tests them.
use Rattle.std.proofs.Common.{◌≡◌, ℕ, zero, suc, ◌*◌, ◌<◌, Bool, true, false, ℤ, pos, negsuc, neg_ℤ, ◌*ℤ◌, ◌<ℤ◌, unsigned_abs, nat_eq, refl, sym, ◌∙◌, ap, arith, true≢false, Ordering, Less, Greater, mul-lt-mul_of_pos_right}
use Rattle.std.proofs.lemmas.Bool.Decides.{Decides-like, Decides-eqb, same_from_decides}
use Rattle.std.proofs.lemmas.Int.{ints}
use Rattle.std.specs.Cmp.{ranked, ranks, int_cmp_is, nat_cmp_is}
use Rattle.std.specs.Int.{is_negative}
use Rattle.std.specs.Ordering.{nat_cmp, int_cmp}
use Rattle.ratio_core.proofs.Kept.{not_below_zero}
use Rattle.ratio_core.specs.Rational.{Rational, same_parts, rational_cmp, rational_eq}
use Rattle.ratio_core.specs.RationalLaws.{rank_as, rational_eq_Decides}

-- where the numerators are equal, the denominators decide
pub eq_by_den : (p q : Rational) → p.num ≡ q.num → nat_eq p.den q.den ≡ rational_eq p q
eq_by_den p q e =
    same_from_decides (nat_eq p.den q.den) (rational_eq p q)
    (Decides-like (nat_eq p.den q.den) (λ f. same_parts p q (λ i. (e i, f i)))
    (λ f. ap (λ r. r.den) f) (Decides-eqb p.den q.den))
    (rational_eq_Decides p q)

pub not_eq_by_num : (p q : Rational) → ¬ (p.num ≡ q.num) → false ≡ rational_eq p q
not_eq_by_num p q n = decided (rational_eq p q) refl
  where
    decided : (b : Bool) → rational_eq p q ≡ b → false ≡ rational_eq p q
    decided false e = sym e
    decided true e = absurd (n (ap (λ r. r.num) ((rational_eq_Decides p q).0 e)))

-- ---- the order, by the signs

no_sign : (a : ℕ) {P : Type 0} → is_negative (pos a) ≡ true → P
no_sign a e = absurd (true≢false (sym e ∙ not_below_zero a))

pub above_lem : (m n : ℤ) (b d : ℕ) (r : Ordering) → false ≡ is_negative m → false ≡ is_negative n
    → r ≡ nat_cmp (unsigned_abs m * d) (unsigned_abs n * b) → r ≡ int_cmp (m *ℤ pos d) (n *ℤ pos b)
above_lem (pos a) (pos c) b d r e f h =
    int_cmp_is _ _ r (rank_as r (ranked (a * d) (c * b) r h) (λ l. omega (arith, ints)) (ap pos)
    (λ l. omega (arith, ints)))
above_lem (pos a) (negsuc c) b d r e f h = absurd (true≢false (sym f))
above_lem (negsuc a) n b d r e f h = absurd (true≢false (sym e))

pub below_lem : (m n : ℤ) (b d : ℕ) (r : Ordering) → true ≡ is_negative m → true ≡ is_negative n
    → r ≡ nat_cmp (unsigned_abs n * b) (unsigned_abs m * d) → r ≡ int_cmp (m *ℤ pos d) (n *ℤ pos b)
below_lem (negsuc a) (negsuc c) b d r e f h =
    int_cmp_is _ _ r (rank_as r (ranked (suc c * b) (suc a * d) r h) (λ l. omega (arith, ints))
    (λ k. ap (λ n. neg_ℤ (pos n)) (sym k)) (λ l. omega (arith, ints)))
below_lem (pos a) n b d r e f h = no_sign a (sym e)
below_lem (negsuc a) (pos c) b d r e f h = no_sign c (sym f)

pos_lem : (a d : ℕ) → 0 < d → 0 < suc a * d
pos_lem a (suc d) h = omega arith
pos_lem a zero h = absurd (omega arith)

pub apart_lem : (m n : ℤ) (b d : ℕ) → 0 < d → true ≡ is_negative m → false ≡ is_negative n
    → (m *ℤ pos d) <ℤ (n *ℤ pos b)
apart_lem (negsuc a) (pos c) b d h e f =
    let above : 0 < suc a * d = pos_lem a d h in omega (arith, ints)
apart_lem (pos a) n b d h e f = no_sign a (sym e)
apart_lem (negsuc a) (negsuc c) b d h e f = absurd (true≢false (sym f))

module _ (p q : Rational) where
  pub cmp_above : (r : Ordering) → false ≡ is_negative p.num → false ≡ is_negative q.num
      → r ≡ nat_cmp (unsigned_abs p.num * q.den) (unsigned_abs q.num * p.den) → r ≡ rational_cmp p q
  unfolding rational_cmp
  cmp_above r = above_lem p.num q.num p.den q.den r

  pub cmp_below : (r : Ordering) → true ≡ is_negative p.num → true ≡ is_negative q.num
      → r ≡ nat_cmp (unsigned_abs q.num * p.den) (unsigned_abs p.num * q.den) → r ≡ rational_cmp p q
  unfolding rational_cmp
  cmp_below r = below_lem p.num q.num p.den q.den r

  pub cmp_less : true ≡ is_negative p.num → false ≡ is_negative q.num → Less ≡ rational_cmp p q
  unfolding rational_cmp
  cmp_less e f = int_cmp_is _ _ Less (apart_lem p.num q.num p.den q.den q.reduced.0 e f)

  pub cmp_greater : false ≡ is_negative p.num → true ≡ is_negative q.num
      → Greater ≡ rational_cmp p q
  unfolding rational_cmp
  cmp_greater e f = int_cmp_is _ _ Greater (apart_lem q.num p.num q.den p.den p.reduced.0 f e)

pub products_along : (a b c d a' b' c' d' : ℕ) → a ≡ a' → b ≡ b' → c ≡ c' → d ≡ d'
    → nat_cmp (a * b) (c * d) ≡ nat_cmp (a' * b') (c' * d')
products_along a b c d a' b' c' d' e f g h = λ i. nat_cmp (e i * f i) (g i * h i)

-- a common factor does not change an order
pub nat_cmp_scaled : (a c k : ℕ) → 0 < k → nat_cmp (a * k) (c * k) ≡ nat_cmp a c
nat_cmp_scaled a c k h =
    sym (nat_cmp_is (a * k) (c * k) (nat_cmp a c) (rank_as _ (ranks a c)
    (λ l. mul-lt-mul_of_pos_right l h) (ap (λ n. n * k)) (λ l. mul-lt-mul_of_pos_right l h)))
