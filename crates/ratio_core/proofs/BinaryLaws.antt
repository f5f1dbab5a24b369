-- The greatest common divisor by halves and differences.
use Rattle.std.proofs.Common.{◌≡◌, ◌≢◌, ℕ, zero, suc, ◌+◌, ◌-◌, ◌*◌, ◌/◌, ◌%◌, ◌^◌, ◌<◌, ◌≤◌, ◌⊎◌, inl, inr, sym, ◌∙◌, ap, ap₂, subst, arith, min, pow-suc, mul-div_cancel, mul_comm}
use Rattle.std.proofs.Math.Nat.{dvd_antisymm, dvd_trans, dvd-mul_right, dvd_refl, le_of_mul-le-mul_right, mod-eq_of_lt, mod-lt, add-mod_right}
use Rattle.std.proofs.lemmas.Bool.{cases_lt}
use Rattle.std.proofs.lemmas.Nat.{mod-pow-add, pow_pos, div-add-mod', pow-add}
use Rattle.std.proofs.lemmas.Nat.Bits.{bit_at-trailing_zeros}
use Rattle.std.proofs.lemmas.Nat.Gcd.{IsGcd-from_sub, same_from_IsGcd, le_of_dvd}
use Rattle.std.specs.Int.{◌∣◌, Width, abs_diff, bit_at, trailing_zeros, w64, w128}
use mir.Val.{bits}
use Rattle.ratio_core.specs.Gcd.{IsOddPart, gcd, gcd_is, gcd_swap, gcd-one, gcd-zero, gcd-rem, gcd-scaled, dvd_from_coprime}
use Rattle.ratio_core.proofs.Coprime.{coprime_product, coprime_within}

-- ---- the odd part of a number, by its trailing zeros

low_zero : (t n : ℕ) → ((i : ℕ) → i < t → bit_at n i ≡ 0) → n % 2 ^ t ≡ 0
low_zero zero n below = omega arith
low_zero (suc t) n below =
    let one : suc t ≡ 1 + t = omega arith in
    let bit : n / 2 ^ t % 2 ^ 1 ≡ 0 = below t (omega arith) in
    let rest : n % 2 ^ t ≡ 0 = low_zero t n (λ i h. below i (omega arith)) in
    ap (λ j. n % 2 ^ j) one ∙ mod-pow-add n 1 t ∙ ap₂ (λ x y. x * 2 ^ t + y) bit rest ∙ omega arith

pub zeros_whole : (w : Width) (n : ℕ) → 0 < n → n < 2 ^ bits w
    → n ≡ n / 2 ^ trailing_zeros w n * 2 ^ trailing_zeros w n
zeros_whole w n some fits =
    let low = bit_at-trailing_zeros w n some fits in
    sym (omega (
      arith,
      div-add-mod' n (2 ^ trailing_zeros w n),
      low_zero (trailing_zeros w n) n low.2,
    ))

abbrev pub odd_part_of : (w : Width) (n : ℕ) → 0 < n → n < 2 ^ bits w
    → IsOddPart n (n / 2 ^ trailing_zeros w n)
odd_part_of w n some fits = record {
  zeros = trailing_zeros w n;
  whole = zeros_whole w n some fits;
  is_odd = (bit_at-trailing_zeros w n some fits).1;
}

-- ---- halves of one of the two numbers

two_odd : (n : ℕ) → n % 2 ≡ 1 → gcd 2 n ≡ 1
two_odd n odd = gcd_swap 2 n ∙ sym (gcd-rem n 2) ∙ ap (gcd 2) odd ∙ gcd-one 2

power_odd : (k n : ℕ) → n % 2 ≡ 1 → gcd (2 ^ k) n ≡ 1
power_odd zero n odd = gcd_swap 1 n ∙ gcd-one n
power_odd (suc k) n odd =
    ap (λ x. gcd x n) (pow-suc 2 k) ∙ coprime_product (2 ^ k) 2 n (power_odd k n odd)
    (two_odd n odd)

pub gcd-doubled : (k a b : ℕ) → b % 2 ≡ 1 → gcd (a * 2 ^ k) b ≡ gcd a b
gcd-doubled k a b odd =
    same_from_IsGcd (a * 2 ^ k) b _ _ (gcd_is (a * 2 ^ k) b) (
      dvd_trans _ (gcd_is a b).0 (dvd-mul_right a (2 ^ k)),
      (gcd_is a b).1,
      λ e h l. (gcd_is a b).2 e (dvd_from_coprime (2 ^ k) e a (coprime_within (2 ^ k) b (2 ^ k) e
          (power_odd k b odd) (dvd_refl _) l) h) l,
    )

-- ---- a step: the lesser of two odd numbers, and the odd part of their difference

gcd-less : (a b : ℕ) → b ≤ a → gcd (a - b) b ≡ gcd a b
gcd-less a b h = same_from_IsGcd a b _ _ (IsGcd-from_sub a b _ h (gcd_is (a - b) b)) (gcd_is a b)

step_lem : (a b next : ℕ) → b % 2 ≡ 1 → b ≤ a → IsOddPart (a - b) next → gcd b next ≡ gcd a b
step_lem a b next odd h part =
    gcd_swap b next ∙ sym (gcd-doubled part.zeros next b odd) ∙ ap (λ x. gcd x b) (sym part.whole)
    ∙ gcd-less a b h

pub gcd-step : (a b next : ℕ) → a % 2 ≡ 1 → b % 2 ≡ 1 → IsOddPart (abs_diff a b) next
    → gcd (min a b) next ≡ gcd a b
gcd-step a b next odd_a odd_b part = by_order (cases_lt a b)
  where
    by_order : (a < b) ⊎ (b ≤ a) → gcd (min a b) next ≡ gcd a b
    by_order (inl h) =
        let least : min a b ≡ a = omega arith in
        let whole : abs_diff a b ≡ b - a = omega arith in
        ap (λ x. gcd x next) least ∙ step_lem b a next odd_a (omega arith)
        (subst (λ n. IsOddPart n next) whole part) ∙ gcd_swap b a
    by_order (inr h) =
        let least : min a b ≡ b = omega arith in
        let whole : abs_diff a b ≡ a - b = omega arith in
        ap (λ x. gcd x next) least ∙ step_lem a b next odd_b h
        (subst (λ n. IsOddPart n next) whole part)

-- ---- the first step: both numbers without their factors of 2

common_twos : (x y i j : ℕ) → x % 2 ≡ 1 → i ≤ j → gcd (x * 2 ^ i) (y * 2 ^ j) ≡ gcd x y * 2 ^ i
common_twos x y i j odd h =
    let k : ℕ = j - i in
    let sum : j ≡ k + i = omega arith in
    ap₂ gcd (mul_comm x (2 ^ i)) (ap (λ p. y * p) (ap (λ n. 2 ^ n) sum ∙ pow-add 2 k i)
    ∙ group_lem y (2 ^ k) (2 ^ i))
    ∙ gcd-scaled (2 ^ i) x (y * 2 ^ k) (pow_pos i)
    ∙ ap (λ g. 2 ^ i * g) (gcd_swap x (y * 2 ^ k) ∙ gcd-doubled k y x odd ∙ gcd_swap y x)
    ∙ mul_comm (2 ^ i) (gcd x y)
  where
    group_lem : (a b c : ℕ) → a * (b * c) ≡ c * (a * b)
    group_lem a b c = omega arith

pub gcd_of_odd_parts : (a b x y : ℕ) (left : IsOddPart a x) (right : IsOddPart b y)
    → gcd x y * 2 ^ min left.zeros right.zeros ≡ gcd a b
gcd_of_odd_parts a b x y left right = by_order (cases_lt left.zeros right.zeros)
  where
    by_order : (left.zeros < right.zeros) ⊎ (right.zeros ≤ left.zeros)
        → gcd x y * 2 ^ min left.zeros right.zeros ≡ gcd a b
    by_order (inl h) =
        let least : min left.zeros right.zeros ≡ left.zeros = omega arith in
        ap (λ k. gcd x y * 2 ^ k) least ∙ sym (ap₂ gcd left.whole right.whole
        ∙ common_twos x y left.zeros right.zeros left.is_odd (omega arith))
    by_order (inr h) =
        let least : min left.zeros right.zeros ≡ right.zeros = omega arith in
        ap₂ (λ g k. g * 2 ^ k) (gcd_swap x y) least ∙ sym (gcd_swap a b
        ∙ ap₂ gcd right.whole left.whole ∙ common_twos y x right.zeros left.zeros right.is_odd h)

pub one_is_gcd : (a b : ℕ) → (a ≡ 1) ⊎ (b ≡ 1) → 1 ≡ gcd a b
one_is_gcd a b (inl e) = sym (ap (λ x. gcd x b) e ∙ gcd_swap 1 b ∙ gcd-one b)
one_is_gcd a b (inr e) = sym (ap (gcd a) e ∙ gcd-one a)

pub same_is_gcd : (a b : ℕ) → a ≡ 0 → b ≡ gcd a b
same_is_gcd a b e = sym (ap (λ x. gcd x b) e ∙ gcd_swap 0 b ∙ gcd-zero b)

pub gcd_itself : (a b : ℕ) → a ≡ b → a ≡ gcd a b
gcd_itself a b e =
    sym (dvd_antisymm (gcd_is a b).0 ((gcd_is a b).2 a (dvd_refl a)
    (subst (λ x. a ∣ x) e (dvd_refl a))))

pub gcd_at_most : (a b : ℕ) → 0 < b → gcd a b ≤ b
gcd_at_most a b h = le_of_dvd h (gcd_is a b).1

-- ---- a number and what is left to a power of 2 end in as many zeros

part_lem : (t m d : ℕ) → m % 2 ≡ 1 → d ≡ m * 2 ^ t → IsOddPart d (d / 2 ^ t)
part_lem t m d odd d_is =
    let quotient : d / 2 ^ t ≡ m = ap (λ x. x / 2 ^ t) d_is ∙ mul-div_cancel m (pow_pos t) in
    record {
      zeros = t;
      whole = d_is ∙ ap (λ x. x * 2 ^ t) (sym quotient);
      is_odd = ap (λ x. x % 2) quotient ∙ odd;
    }

rest_lem : (k t m n d : ℕ) → t < k → n ≡ m * 2 ^ t → m % 2 ≡ 1 → n + d ≡ 2 ^ k
    → IsOddPart d (d / 2 ^ t)
rest_lem k t m n d within n_is odd whole =
    let h : ℕ = 2 ^ (k - suc t) in
    let exponent : suc (k - suc t) + t ≡ k = omega arith in
    let power : 2 ^ k ≡ (h * 2) * 2 ^ t =
    ap (λ j. 2 ^ j) (sym exponent) ∙ pow-add 2 (suc (k - suc t)) t ∙ ap (λ x. x * 2 ^ t)
    (pow-suc 2 (k - suc t)) in
    let scaled : m * 2 ^ t ≤ (h * 2) * 2 ^ t = omega (arith, n_is, whole, power) in
    let below : m ≤ h * 2 = le_of_mul-le-mul_right scaled (pow_pos t) in
    let parts : (h * 2 - m) + m ≡ h * 2 = omega arith in
    let d_is : d ≡ (h * 2 - m) * 2 ^ t = cancel_lem (h * 2 - m) m (h * 2)
    (2 ^ t) d parts (ap (λ x. x + d) (sym n_is) ∙ whole ∙ power) in
    part_lem t (h * 2 - m) d (odd_lem h m odd below) d_is
  where
    cancel_lem : (e m w p d : ℕ) → e + m ≡ w → m * p + d ≡ w * p → d ≡ e * p
    cancel_lem e m w p d f g = omega (arith, ap (λ x. x * p) f, g)

    odd_lem : (h m : ℕ) → m % 2 ≡ 1 → m ≤ h * 2 → (h * 2 - m) % 2 ≡ 1
    odd_lem h m odd below = omega arith

-- the odd divisor by the twos in common
pub twice_divisor : (w : Width) (a b odd k : ℕ) (h : 0 < a) (l : 0 < b) (fits_a : a < 2 ^ bits w)
    (fits_b : b < 2 ^ bits w) → odd ≡ gcd (a / 2 ^ trailing_zeros w a) (b / 2 ^ trailing_zeros w b)
    → k ≡ min (trailing_zeros w a) (trailing_zeros w b) → odd * 2 ^ k % 2 ^ bits w ≡ gcd a b
twice_divisor w a b odd k h l fits_a fits_b odd_is k_is =
    let whole : odd * 2 ^ k ≡ gcd a b =
    ap₂ (λ g j. g * 2 ^ j) odd_is k_is ∙ gcd_of_odd_parts a b _ _ (odd_part_of w a h fits_a)
    (odd_part_of w b l fits_b) in
    mod-eq_of_lt (omega (arith, whole, gcd_at_most a b l)) ∙ whole

-- ---- a difference by the zeros of the wrapped one

wrapped_more : (m a b : ℕ) → a < m → b < m → b ≤ a → (a + (m - b)) % m ≡ a - b
wrapped_more m a b fits_a fits_b h =
    let sum : a + (m - b) ≡ (a - b) + m = omega arith in
    ap (λ x. x % m) sum ∙ add-mod_right (a - b) m ∙ mod-eq_of_lt (omega arith)

difference_by : (w : Width) (a b t m : ℕ) → a < 2 ^ bits w → b < 2 ^ bits w → t < bits w
    → m % 2 ≡ 1 → (a + (2 ^ bits w - b)) % 2 ^ bits w ≡ m * 2 ^ t
    → IsOddPart (abs_diff a b) (abs_diff a b / 2 ^ t)
difference_by w a b t m fits_a fits_b within odd n_is = by_order (cases_lt a b)
  where
    by_order : (a < b) ⊎ (b ≤ a) → IsOddPart (abs_diff a b) (abs_diff a b / 2 ^ t)
    by_order (inl h) =
        let n : ℕ = (a + (2 ^ bits w - b)) % 2 ^ bits w in
        let whole : n ≡ a + (2 ^ bits w - b) = mod-eq_of_lt (omega arith) in
        rest_lem (bits w) t m n (abs_diff a b) within n_is odd (omega arith)
    by_order (inr h) =
        let same : (a + (2 ^ bits w - b)) % 2 ^ bits w ≡ abs_diff a b =
        wrapped_more (2 ^ bits w) a b fits_a fits_b h ∙ omega arith in
        part_lem t m (abs_diff a b) odd (sym same ∙ n_is)

wrapped_above : (m a b : ℕ) → a < m → b < m → a ≢ b → 0 < (a + (m - b)) % m
wrapped_above m a b fits_a fits_b apart = by_order (cases_lt a b)
  where
    by_order : (a < b) ⊎ (b ≤ a) → 0 < (a + (m - b)) % m
    by_order (inl h) = subst (λ n. 0 < n) (sym (mod-eq_of_lt (omega arith))) (omega arith)
    by_order (inr h) =
        let some : ¬ (a - b ≡ 0) = λ e. apart (omega arith) in
        subst (λ n. 0 < n) (sym (wrapped_more m a b fits_a fits_b h)) (omega arith)

pub difference_part : (w : Width) (a b : ℕ) → a < 2 ^ bits w → b < 2 ^ bits w → a ≢ b
    → IsOddPart (abs_diff a b)
    (abs_diff a b / 2 ^ trailing_zeros w ((a + (2 ^ bits w - b)) % 2 ^ bits w))
difference_part w a b fits_a fits_b apart =
    let n : ℕ = (a + (2 ^ bits w - b)) % 2 ^ bits w in
    let above : 0 < n = wrapped_above (2 ^ bits w) a b fits_a fits_b apart in
    let fits : n < 2 ^ bits w = mod-lt (a + (2 ^ bits w - b)) (pow_pos (bits w)) in
    let bit = bit_at-trailing_zeros w n above fits in
    difference_by w a b (trailing_zeros w n) (n / 2 ^ trailing_zeros w n) fits_a fits_b bit.0 bit.1
    (zeros_whole w n above fits)

-- ---- the same by the zeros of the low halves' difference

halves_lem : (a b : ℕ) → a < 2 ^ 128 → b < 2 ^ 128
    → (a + (2 ^ 128 - b)) % 2 ^ 128 % 2 ^ 64 ≡ (a % 2 ^ 64 + (2 ^ 64 - b % 2 ^ 64)) % 2 ^ 64
halves_lem a b h l = omega arith

more_lem : (q h m p : ℕ) → q * ((h * 2) * p) + m * p ≡ (q * h * 2 + m) * p
more_lem q h m p = omega arith

still_odd : (n m : ℕ) → m % 2 ≡ 1 → (n * 2 + m) % 2 ≡ 1
still_odd n m odd = omega arith

pub difference_part_by_halves : (a b x y : ℕ) → a < 2 ^ 128 → b < 2 ^ 128 → x ≡ a % 2 ^ 64
    → y ≡ b % 2 ^ 64 → ¬ ((x + (2 ^ 64 - y)) % 2 ^ 64 ≡ 0)
    → IsOddPart (abs_diff a b)
    (abs_diff a b / 2 ^ trailing_zeros w64 ((x + (2 ^ 64 - y)) % 2 ^ 64))
difference_part_by_halves a b x y fits_a fits_b x_is y_is some =
    let low : ℕ = (x + (2 ^ 64 - y)) % 2 ^ 64 in
    let n : ℕ = (a + (2 ^ 128 - b)) % 2 ^ 128 in
    let t : ℕ = trailing_zeros w64 low in
    let m : ℕ = low / 2 ^ t in
    let h : ℕ = 2 ^ (64 - suc t) in
    let fits : low < 2 ^ 64 = omega arith in
    let above : 0 < low = omega arith in
    let bit = bit_at-trailing_zeros w64 low above fits in
    let low_is : n % 2 ^ 64 ≡ low =
    halves_lem a b fits_a fits_b ∙ ap₂ (λ u v. (u + (2 ^ 64 - v)) % 2 ^ 64) (sym x_is)
    (sym y_is) in
    let exponent : suc (64 - suc t) + t ≡ 64 = omega (arith, bit.0) in
    let power : 2 ^ 64 ≡ (h * 2) * 2 ^ t =
    ap (λ j. 2 ^ j) (sym exponent) ∙ pow-add 2 (suc (64 - suc t)) t ∙ ap (λ x. x * 2 ^ t)
    (pow-suc 2 (64 - suc t)) in
    let split : n ≡ n / 2 ^ 64 * 2 ^ 64 + n % 2 ^ 64 = omega arith in
    let n_is : n ≡ (n / 2 ^ 64 * h * 2 + m) * 2 ^ t =
    split ∙ ap₂ (λ u v. n / 2 ^ 64 * u + v) power (low_is ∙ zeros_whole w64 low above fits)
    ∙ more_lem (n / 2 ^ 64) h m (2 ^ t) in
    difference_by w128 a b t (n / 2 ^ 64 * h * 2 + m) fits_a fits_b (omega (arith, bit.0))
    (still_odd (n / 2 ^ 64 * h) m bit.1) n_is
