-- Fractions over one denominator: sums, products, negation and order are those of the numerators.
use Rattle.std.specs.Prelude.{◌≡◌, ℕ, ◌+◌, ◌*◌, ◌<◌, ◌≤◌, ℤ, pos, ◌+ℤ◌, ◌*ℤ◌, neg_ℤ, ◌≤ℤ◌, ◌<ℤ◌}
use Rattle.std.proofs.Common.{sym, ◌∙◌, ap, ap₂, arith, mul-pos, subst, subst₂, mul_comm, zero-mul, mul-le-mul_right, le_of_mul-le-mul_right, lt_of_mul-lt-mul_right}
use Rattle.std.proofs.Math.IntN.{*ℤ_comm}
use borrow.Author.Differences.{up, down, at_most_in, below_in, le_out, lt_out}
use Rattle.ratio_core.specs.Rational.{Rational, reduce, whole_ℚ, zero_ℚ, ◌+ℚ◌, ◌*ℚ◌, neg_ℚ, ◌≤ℚ◌, ◌‹ℚ◌}
use Rattle.ratio_core.specs.RationalLaws.{reduce_is, reduce_itself, reduce_cross, times_is, times_times, swap_times, cancel_times, times_add, times_<}
use Rattle.rational_laws.specs.Whole.{*ℤ_assoc, neg_ℤ-*ℤ, *ℤ_pos_one}

-- equal cross products make equal fractions
pub reduce_same : (m n : ℤ) (e d : ℕ) → 0 < e → 0 < d → m *ℤ pos d ≡ n *ℤ pos e
    → reduce m e ≡ reduce n d
reduce_same m n e d above below same =
    sym (reduce_is (reduce m e) n d below
    (cancel_times _ _ e above
    (swap_times (reduce m e).num d e
    ∙ ap (λ z. z *ℤ pos d) (reduce_cross m e above)
    ∙ swap_times m (reduce m e).den d
    ∙ ap (λ z. z *ℤ pos (reduce m e).den) same
    ∙ swap_times n e (reduce m e).den)))

-- a common factor goes out
pub reduce_scaled : (n : ℤ) (d k : ℕ) → 0 < d → 0 < k → reduce (n *ℤ pos k) (d * k) ≡ reduce n d
reduce_scaled n d k above more =
    reduce_same (n *ℤ pos k) n (d * k) d (mul-pos above more) above
    (times_times n k d ∙ ap (λ m. n *ℤ pos m) (mul_comm k d))

-- ---- the order of whole numbers, times a positive one

times_≤ : (x y : ℤ) (k : ℕ) → x ≤ℤ y → (x *ℤ pos k) ≤ℤ (y *ℤ pos k)
times_≤ x y k h =
    let scaled : (up x + down y) * k ≤ (up y + down x) * k = mul-le-mul_right k (le_out x y h) in
    at_most_in _ _ (omega (arith, scaled, times_is x k, times_is y k))

untimes_≤ : (x y : ℤ) (k : ℕ) → 0 < k → (x *ℤ pos k) ≤ℤ (y *ℤ pos k) → x ≤ℤ y
untimes_≤ x y k above h =
    let scaled : (up x + down y) * k ≤ (up y + down x) * k =
    omega (arith, le_out _ _ h, times_is x k, times_is y k) in
    at_most_in _ _ (le_of_mul-le-mul_right scaled above)

untimes_< : (x y : ℤ) (k : ℕ) → (x *ℤ pos k) <ℤ (y *ℤ pos k) → x <ℤ y
untimes_< x y k h =
    let scaled : (up x + down y) * k < (up y + down x) * k =
    omega (arith, lt_out _ _ h, times_is x k, times_is y k) in
    below_in _ _ (lt_of_mul-lt-mul_right k scaled)

-- ---- two fractions of any denominators

module _ (m n : ℤ) (e d : ℕ) (above : 0 < e) (below : 0 < d) where
  pub reduce-*ℚ : reduce m e *ℚ reduce n d ≡ reduce (m *ℤ n) (e * d)
  unfolding ◌*ℚ◌
  reduce-*ℚ =
      reduce_same ((reduce m e).num *ℤ (reduce n d).num) (m *ℤ n)
      ((reduce m e).den * (reduce n d).den) (e * d)
      (mul-pos (reduce m e).reduced.0 (reduce n d).reduced.0) (mul-pos above below)
      (pairs_lem (reduce m e).num (reduce n d).num m n (reduce m e).den (reduce n d).den e d
      (reduce_cross m e above) (reduce_cross n d below))
    where
      pairs_lem : (x y m n : ℤ) (a b e d : ℕ) → x *ℤ pos e ≡ m *ℤ pos a → y *ℤ pos d ≡ n *ℤ pos b
          → (x *ℤ y) *ℤ pos (e * d) ≡ (m *ℤ n) *ℤ pos (a * b)
      pairs_lem x y m n a b e d h k = regroup x y e d ∙ ap₂ ◌*ℤ◌ h k ∙ sym (regroup m n a b)
        where
          regroup : (x y : ℤ) (e d : ℕ) → (x *ℤ y) *ℤ pos (e * d) ≡ (x *ℤ pos e) *ℤ (y *ℤ pos d)
          regroup x y e d =
              sym (times_times (x *ℤ y) e d)
              ∙ ap (λ z. z *ℤ pos d) (*ℤ_assoc x y (pos e) ∙ ap (λ z. x *ℤ z) (*ℤ_comm y (pos e))
              ∙ sym (*ℤ_assoc x (pos e) y))
              ∙ *ℤ_assoc (x *ℤ pos e) y (pos d)

-- ---- fractions over one denominator

-- a cross product, times d
crossed : (m : ℤ) (e d : ℕ) → 0 < d
    → ((reduce m d).num *ℤ pos e) *ℤ pos d ≡ m *ℤ pos ((reduce m d).den * e)
crossed m e d above =
    swap_times (reduce m d).num e d ∙ ap (λ z. z *ℤ pos e) (reduce_cross m d above)
    ∙ times_times m (reduce m d).den e

module _ (m n : ℤ) (d : ℕ) (above : 0 < d) where
  pub over-+ℚ : reduce m d +ℚ reduce n d ≡ reduce (m +ℤ n) d
  unfolding ◌+ℚ◌
  over-+ℚ =
      let p : Rational = reduce m d in
      let q : Rational = reduce n d in
      reduce_same ((p.num *ℤ pos q.den) +ℤ (q.num *ℤ pos p.den)) (m +ℤ n) (p.den * q.den) d
      (mul-pos p.reduced.0 q.reduced.0) above
      (times_add (p.num *ℤ pos q.den) (q.num *ℤ pos p.den) d
      ∙ ap₂ ◌+ℤ◌
      (crossed m q.den d above)
      (crossed n p.den d above ∙ ap (λ k. n *ℤ pos k) (mul_comm q.den p.den))
      ∙ sym (times_add m n (p.den * q.den)))

  -- the cross products, times d, are the numerators times the product of the denominators
  dens : ℕ
  dens = (reduce m d).den * (reduce n d).den

  dens_pos : 0 < dens
  unfolding dens
  dens_pos = mul-pos (reduce m d).reduced.0 (reduce n d).reduced.0

  left_cross : ((reduce m d).num *ℤ pos (reduce n d).den) *ℤ pos d ≡ m *ℤ pos dens
  unfolding dens
  left_cross = crossed m (reduce n d).den d above

  right_cross : ((reduce n d).num *ℤ pos (reduce m d).den) *ℤ pos d ≡ n *ℤ pos dens
  unfolding dens
  right_cross =
      crossed n (reduce m d).den d above
      ∙ ap (λ k. n *ℤ pos k) (mul_comm (reduce n d).den (reduce m d).den)

  pub over-≤ℚ_in : m ≤ℤ n → reduce m d ≤ℚ reduce n d
  over-≤ℚ_in h =
      record {
        cross = untimes_≤ _ _ d above (subst₂ (λ x y. x ≤ℤ y) (sym left_cross)
            (sym right_cross) (times_≤ m n dens h));
      }

  pub over-≤ℚ_out : reduce m d ≤ℚ reduce n d → m ≤ℤ n
  over-≤ℚ_out h = untimes_≤ m n dens dens_pos (subst₂ (λ x y. x ≤ℤ y) left_cross right_cross
      (times_≤ _ _ d h.cross))

  pub over-‹ℚ_in : m <ℤ n → reduce m d ‹ℚ reduce n d
  over-‹ℚ_in h =
      record {
        cross = untimes_< _ _ d (subst₂ (λ x y. x <ℤ y) (sym left_cross) (sym right_cross)
            (times_< m n dens dens_pos h));
      }

  pub over-‹ℚ_out : reduce m d ‹ℚ reduce n d → m <ℤ n
  over-‹ℚ_out h = untimes_< m n dens (subst₂ (λ x y. x <ℤ y) left_cross right_cross
      (times_< _ _ d above h.cross))

  pub over-≡_out : reduce m d ≡ reduce n d → m ≡ n
  over-≡_out e =
      cancel_times m n dens dens_pos (sym left_cross
      ∙ ap (λ z. z *ℤ pos d) (cross_lem (reduce m d) (reduce n d) e) ∙ right_cross)
    where
      cross_lem : (p q : Rational) → p ≡ q → p.num *ℤ pos q.den ≡ q.num *ℤ pos p.den
      cross_lem p q e = λ i. (e i).num *ℤ pos (sym e i).den

pub over-neg_ℚ : (m : ℤ) (d : ℕ) → 0 < d → neg_ℚ (reduce m d) ≡ reduce (neg_ℤ m) d
unfolding neg_ℚ
over-neg_ℚ m d above =
    let p : Rational = reduce m d in
    reduce_same (neg_ℤ p.num) (neg_ℤ m) p.den d p.reduced.0 above
    (neg_ℤ-*ℤ p.num (pos d) ∙ ap neg_ℤ (reduce_cross m d above) ∙ sym (neg_ℤ-*ℤ m (pos p.den)))

pub over-zero_ℚ : (d : ℕ) → 0 < d → zero_ℚ ≡ reduce (pos 0) d
unfolding zero_ℚ whole_ℚ
over-zero_ℚ d above = sym (reduce_is (whole_ℚ (pos 0)) (pos 0) d above (simp zero-mul))

pub over-whole_ℚ : (n : ℤ) (d : ℕ) → 0 < d → whole_ℚ n ≡ reduce (n *ℤ pos d) d
unfolding whole_ℚ
over-whole_ℚ n d above =
    sym (reduce_is (whole_ℚ n) (n *ℤ pos d) d above (sym (*ℤ_pos_one (n *ℤ pos d))))

-- ---- any numbers over one denominator

-- a number over a multiple of its denominator
pub itself_scaled : (q : Rational) (k : ℕ) → 0 < k → reduce (q.num *ℤ pos k) (q.den * k) ≡ q
itself_scaled q k above = reduce_scaled q.num q.den k q.reduced.0 above ∙ reduce_itself q

-- What holds of all fractions over one denominator holds of all numbers.
pub over₁ : (P : Rational → Type 0) → ((a : ℤ) (d : ℕ) → 0 < d → P (reduce a d)) → (p : Rational)
    → P p
over₁ P h p = subst P (reduce_itself p) (h p.num p.den p.reduced.0)

pub over₂ : (P : Rational → Rational → Type 0)
    → ((a b : ℤ) (d : ℕ) → 0 < d → P (reduce a d) (reduce b d)) → (p q : Rational) → P p q
over₂ P h p q =
    subst₂ P (itself_scaled p q.den q.reduced.0) (ap (reduce (q.num *ℤ pos p.den))
    (mul_comm p.den q.den) ∙ itself_scaled q p.den p.reduced.0)
    (h (p.num *ℤ pos q.den) (q.num *ℤ pos p.den) (p.den * q.den) (mul-pos p.reduced.0 q.reduced.0))

-- one number more
pub over_more : (a : ℤ) (d : ℕ) (q : Rational) → 0 < d
    → (reduce (a *ℤ pos q.den) (d * q.den) ≡ reduce a d) × (reduce (q.num *ℤ pos d) (d * q.den) ≡ q)
over_more a d q above = (
  reduce_scaled a d q.den above q.reduced.0,
  ap (reduce (q.num *ℤ pos d))
      (mul_comm d q.den) ∙ itself_scaled q d above,
)

pub over₃ : (P : Rational → Rational → Rational → Type 0)
    → ((a b c : ℤ) (d : ℕ) → 0 < d → P (reduce a d) (reduce b d) (reduce c d)) → (p q r : Rational)
    → P p q r
over₃ P h p q r =
    over₂ (λ p q. P p q r)
    (λ a b d above.
    subst (λ x. P x (reduce b d) r) (over_more a d r above).0
    (subst (λ x. P (reduce (a *ℤ pos r.den) (d * r.den)) x r) (over_more b d r above).0
    (subst (λ x. P (reduce (a *ℤ pos r.den) (d * r.den)) (reduce (b *ℤ pos r.den) (d * r.den)) x)
    (over_more a d r above).1
    (h (a *ℤ pos r.den) (b *ℤ pos r.den) (r.num *ℤ pos d) (d * r.den)
    (mul-pos above r.reduced.0)))))
    p q

pub over₄ : (P : Rational → Rational → Rational → Rational → Type 0)
    → ((a b c e : ℤ) (d : ℕ) → 0 < d → P (reduce a d) (reduce b d) (reduce c d) (reduce e d))
    → (p q r s : Rational) → P p q r s
over₄ P h p q r s =
    over₃ (λ p q r. P p q r s)
    (λ a b c d above.
    subst (λ x. P x (reduce b d) (reduce c d) s) (over_more a d s above).0
    (subst (λ x. P (reduce (a *ℤ pos s.den) (d * s.den)) x (reduce c d) s) (over_more b d s above).0
    (subst (λ x. P (reduce (a *ℤ pos s.den) (d * s.den)) (reduce (b *ℤ pos s.den) (d * s.den)) x s)
    (over_more c d s above).0
    (subst (λ x. P (reduce (a *ℤ pos s.den) (d * s.den)) (reduce (b *ℤ pos s.den) (d * s.den))
    (reduce (c *ℤ pos s.den) (d * s.den)) x) (over_more a d s above).1
    (h (a *ℤ pos s.den) (b *ℤ pos s.den) (c *ℤ pos s.den) (s.num *ℤ pos d) (d * s.den)
    (mul-pos above s.reduced.0))))))
    p q r
