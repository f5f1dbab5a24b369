-- What a fraction n over d is in lowest terms: its parts, and how small they can be.
use Rattle.std.proofs.Common.{◌≡◌, ℕ, zero, suc, ◌+◌, ◌*◌, ◌%◌, ◌^◌, ◌<◌, ◌≤◌, Bool, false, ℤ, pos, ◌*ℤ◌, unsigned_abs, sym, ◌∙◌, ap, subst, arith, mul-pos, mul_comm}
use Rattle.std.proofs.Math.Nat.{eq_of_mul-eq-mul_right, le_of_mul-le-mul_right, le_of_mul-le-mul_left, mul-le-mul_left, mul-le-mul_right, le_of_dvd, dvd-mul_left, add-mul-mod_self_left}
use Rattle.std.proofs.lemmas.Int.{unsigned_abs-mul}
use Rattle.std.specs.Int.{◌∣◌}
use Rattle.ratio_core.specs.Gcd.{gcd, dvd_from_coprime, gcd-rem_first}
use Rattle.ratio_core.specs.Rational.{Fits, Rational, reduce, signed}
use Rattle.ratio_core.specs.RationalLaws.{cancel_times, reduce_cross, reduce_is, reduce_reduced, signed_times, swap_times, unsigned_abs-signed}

-- equal cross products make one number
pub same_over : (s : Bool) (a b c d : ℕ) → 0 < b → 0 < d → a * d ≡ c * b
    → reduce (signed s a) b ≡ reduce (signed s c) d
same_over s a b c d h k e =
    let r : Rational = reduce (signed s c) d in
    reduce_is r (signed s a) b h
    (cancel_times (r.num *ℤ pos b) (signed s a *ℤ pos r.den) d k
    (swap_times r.num b d
    ∙ ap (λ z. z *ℤ pos b) (reduce_cross (signed s c) d k)
    ∙ swap_times (signed s c) r.den b
    ∙ ap (λ z. z *ℤ pos r.den) (signed_times s c b ∙ ap (signed s) (sym e)
    ∙ sym (signed_times s a d))
    ∙ swap_times (signed s a) d r.den))

-- the size of the numerator, and the denominator
abbrev pub size : Rational → ℕ
size q = unsigned_abs q.num

pub over_cross : (s : Bool) (n d : ℕ) → 0 < d → size (reduce (signed s n) d) * d
    ≡ n * (reduce (signed s n) d).den
over_cross s n d h =
    sym (unsigned_abs-mul (reduce (signed s n) d).num (pos d))
    ∙ ap unsigned_abs (reduce_cross (signed s n) d h)
    ∙ unsigned_abs-mul (signed s n) (pos (reduce (signed s n) d).den)
    ∙ ap (λ m. m * (reduce (signed s n) d).den) (unsigned_abs-signed s n)

-- parts in lowest terms stay
pub lowest_is : (s : Bool) (p q : ℕ) → 0 < q → gcd p q ≡ 1 → (size (reduce (signed s p) q) ≡ p)
    × ((reduce (signed s p) q).den ≡ q)
lowest_is s p q h e =
    let parts : ((reduce (signed s p) q).num, (reduce (signed s p) q).den) ≡ (signed s p, q) =
    reduce_reduced (signed s p) q (h, ap (λ m. gcd m q) (unsigned_abs-signed s p) ∙ e) in (
      ap (λ (t : ℤ × ℕ). unsigned_abs t.0) parts ∙ unsigned_abs-signed s p,
      ap (λ (t : ℤ × ℕ). t.1) parts,
    )

-- multiples of the second number don't change a greatest common divisor
pub gcd-shift : (n p q : ℕ) → gcd (n * q + p) q ≡ gcd p q
gcd-shift n p q =
    sym (gcd-rem_first (n * q + p) q) ∙ ap (λ r. gcd r q) (mod_lem n p q) ∙ gcd-rem_first p q
  where
    mod_lem : (n p q : ℕ) → (n * q + p) % q ≡ p % q
    mod_lem n p q = ap (λ t. t % q) (swap_lem n p q) ∙ add-mul-mod_self_left p q n
      where
        swap_lem : (n p q : ℕ) → n * q + p ≡ p + q * n
        swap_lem n p q = omega arith

-- the denominator of a part of a number divides that of the number
pub den_stays : (s : Bool) (f m n c : ℕ) → 0 < m → 0 < c
    → (reduce (pos f) m).den ≤ (reduce (signed s (n * m + f)) (m * c)).den
den_stays s f m n c hm hc =
    let q : Rational = reduce (pos f) m in
    let r : Rational = reduce (signed s (n * m + f)) (m * c) in
    let room : 0 < m * c = mul-pos hm hc in
    let whole : size r * c * q.den ≡ (n * q.den + size q) * r.den =
    cancel_lem (size r) m c n f q.den (size q) r.den hm (over_cross false f m hm)
    (over_cross s (n * m + f) (m * c) room) in
    let coprime : gcd (n * q.den + size q) q.den ≡ 1 = gcd-shift n (size q) q.den ∙ q.reduced.1 in
    let divides : q.den ∣ r.den * (n * q.den + size q) =
    subst (λ t. q.den ∣ t) (whole ∙ mul_comm (n * q.den + size q) r.den)
    (dvd-mul_left q.den (size r * c)) in
    le_of_dvd r.reduced.0 (dvd_from_coprime (n * q.den + size q) q.den r.den coprime divides)
  where
    cancel_lem : (u m c n f q p d : ℕ) → 0 < m → p * m ≡ f * q → u * (m * c) ≡ (n * m + f) * d
        → u * c * q ≡ (n * q + p) * d
    cancel_lem u m c n f q p d h e k =
        eq_of_mul-eq-mul_right m h (u * c * q) ((n * q + p) * d)
        (omega (arith, ap (λ t. t * q) k, ap (λ t. t * d) e))

-- a number is at least its whole part, and so is its numerator
pub num_above : (s : Bool) (a b k : ℕ) → 0 < b → k * b ≤ a → k ≤ size (reduce (signed s a) b)
num_above s a b k h le =
    let r : Rational = reduce (signed s a) b in
    let one : 1 ≤ r.den = omega (arith, r.reduced.0) in
    let one_up : a * 1 ≤ a * r.den = mul-le-mul_left a one in
    let cross : size r * b ≡ a * r.den = over_cross s a b h in
    let all : k * b ≤ size r * b = omega (arith, one_up, cross, le) in
    le_of_mul-le-mul_right all h

-- the denominator of a number above 0 and at most 1 over k is at least k
pub den_above : (s : Bool) (a b k : ℕ) → 0 < a → 0 < b → a * k ≤ b → k ≤ (reduce (signed s a) b).den
den_above s a b k ha hb le =
    let r : Rational = reduce (signed s a) b in
    let cross : size r * b ≡ a * r.den = over_cross s a b hb in
    let some : 1 ≤ size r = some_lem (size r) b a r.den ha r.reduced.0 cross in
    let one_up : 1 * b ≤ size r * b = mul-le-mul_right b some in
    let all : a * k ≤ a * r.den = omega (arith, one_up, cross, le) in
    le_of_mul-le-mul_left all ha
  where
    some_lem : (u b a d : ℕ) → 0 < a → 0 < d → u * b ≡ a * d → 1 ≤ u
    some_lem (suc u) b a d h k e = omega arith
    some_lem zero b a d h k e = absurd (omega (arith, mul-pos h k, e))

-- ---- what doesn't fit

pub unfit_num : (q : Rational) → 2 ^ 127 ≤ size q → ¬ (Fits q)
unfit_num q h f = omega (arith, f.num)

pub unfit_den : (q : Rational) → 2 ^ 127 ≤ q.den → ¬ (Fits q)
unfit_den q h f = omega (arith, f.den)
