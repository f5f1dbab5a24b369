-- The greatest common divisor of two numbers, and the few facts on it that fractions stand on.
--     gcd, gcd_is                the divisor, and that it is the greatest
--     gcd-scaled                 a common factor comes out
--     dvd_from_coprime           Euclid's lemma
-- coprime_parts two numbers over their greatest common divisor have no common divisor
use Rattle.std.specs.Prelude.{◌≡◌, ℕ, zero, suc, ◌+◌, ◌*◌, ◌/◌, ◌%◌, ◌^◌, ◌<◌, ◌≤◌, refl}
use Rattle.std.specs.Int.{◌∣◌, IsGcd}
use Rattle.std.proofs.Common.{sym, ◌∙◌, ap, subst, arith, mul-one, mul-zero}
use Rattle.std.proofs.Math.Nat.{mul-div-mul_left, div-add-mod, mul-div_cancel', dvd-zero, dvd-mul_left, dvd_antisymm, one-dvd, pos_of_dvd_of_pos}
use Rattle.std.proofs.lemmas.Nat.Gcd.{IsGcd-from_zero, IsGcd-from_mod, same_from_IsGcd, IsGcd-swap}

-- Euclid's rule: the pair (a, b) goes to (b, a % b) until b is 0, in at most `fuel` steps
abbrev pub gcd_within : ℕ → ℕ → ℕ → ℕ
gcd_within zero a b = a
gcd_within (suc fuel) a zero = a
gcd_within (suc fuel) a (suc b) = gcd_within fuel (suc b) (a % suc b)

-- the greatest common divisor of a and b, and 0 of 0 and 0
unfoldable pub gcd : ℕ → ℕ → ℕ
gcd a b = gcd_within b a b

gcd_within_is : (fuel a b : ℕ) → b ≤ fuel → IsGcd a b (gcd_within fuel a b)
gcd_within_is zero a b h = IsGcd-from_zero a b (omega arith)
gcd_within_is (suc fuel) a zero h = IsGcd-from_zero a 0 refl
gcd_within_is (suc fuel) a (suc b) h =
    let below : a % suc b < suc b = omega arith in
    IsGcd-from_mod a (suc b) _ (gcd_within_is fuel (suc b) (a % suc b) (omega arith))

pub gcd_is : (a b : ℕ) → IsGcd a b (gcd a b)
unfolding gcd
gcd_is a b = gcd_within_is b a b (omega arith)

pub gcd_swap : (a b : ℕ) → gcd a b ≡ gcd b a
gcd_swap a b = same_from_IsGcd a b _ _ (gcd_is a b) (IsGcd-swap b a _ (gcd_is b a))

mod-scaled : (k a b : ℕ) → 0 < k → (k * a) % (k * b) ≡ k * (a % b)
mod-scaled k a b h =
    let parts : k * (b * (a / b) + a % b) ≡ k * a = ap (λ x. k * x) (div-add-mod a b) in
    let whole : (k * b) * ((k * a) / (k * b)) + (k * a) % (k * b) ≡ k * a =
    div-add-mod (k * a) (k * b) in
    let same : (k * a) / (k * b) ≡ a / b = mul-div-mul_left a b h in
    let whole' : (k * b) * (a / b) + (k * a) % (k * b) ≡ k * a =
    subst (λ q. (k * b) * q + (k * a) % (k * b) ≡ k * a) same whole in
    omega (arith, parts, whole')

gcd_step : (fuel a b : ℕ) → 0 < b → gcd_within (suc fuel) a b ≡ gcd_within fuel b (a % b)
gcd_step fuel a zero h = absurd (omega arith)
gcd_step fuel a (suc b) h = refl

gcd_within-scaled : (fuel k a b : ℕ) → 0 < k
    → gcd_within fuel (k * a) (k * b) ≡ k * gcd_within fuel a b
gcd_within-scaled zero k a b h = refl
gcd_within-scaled (suc fuel) k a zero h = ap (gcd_within (suc fuel) (k * a)) (mul-zero k)
gcd_within-scaled (suc fuel) k a (suc b) h =
    let room : 0 < k * suc b = mul_pos_lem k b h in
    gcd_step fuel (k * a) (k * suc b) room
    ∙ ap (gcd_within fuel (k * suc b)) (mod-scaled k a (suc b) h)
    ∙ gcd_within-scaled fuel k (suc b) (a % suc b) h
  where
    mul_pos_lem : (k b : ℕ) → 0 < k → 0 < k * suc b
    mul_pos_lem k b h = omega arith

gcd_enough : (fuel a b : ℕ) → b ≤ fuel → gcd_within fuel a b ≡ gcd a b
gcd_enough fuel a b h = same_from_IsGcd a b _ _ (gcd_within_is fuel a b h) (gcd_is a b)

pub gcd-scaled : (k a b : ℕ) → 0 < k → gcd (k * a) (k * b) ≡ k * gcd a b
unfolding gcd
gcd-scaled k a b h =
    let enough : b ≤ k * b = grow_lem k b h in
    gcd_within-scaled (k * b) k a b h ∙ ap (λ x. k * x) (gcd_enough (k * b) a b enough)
  where
    grow_lem : (k b : ℕ) → 0 < k → b ≤ k * b
    grow_lem (suc k) b h = omega arith
    grow_lem zero b h = absurd (omega arith)

-- Euclid's lemma
pub dvd_from_coprime : (a b c : ℕ) → gcd a b ≡ 1 → b ∣ c * a → b ∣ c
dvd_from_coprime a b zero e h = dvd-zero b
dvd_from_coprime a b (suc c) e h =
    let g : gcd (suc c * a) (suc c * b) ≡ suc c = gcd-scaled (suc c) a b (omega arith)
    ∙ ap (λ x. suc c * x) e ∙ mul-one (suc c) in
    subst (λ x. b ∣ x) g ((gcd_is (suc c * a) (suc c * b)).2 b h (dvd-mul_left b (suc c)))

-- the greatest common divisor of a number and a positive one is positive
pub gcd_pos : (a b : ℕ) → 0 < b → 0 < gcd a b
gcd_pos a b h = pos_of_dvd_of_pos (gcd_is a b).1 h

pub coprime_parts : (a b : ℕ) → 0 < b → gcd (a / gcd a b) (b / gcd a b) ≡ 1
coprime_parts a b h =
    let g : ℕ = gcd a b in
    let left : g * (a / g) ≡ a = mul-div_cancel' g (gcd_is a b).0 in
    let right : g * (b / g) ≡ b = mul-div_cancel' g (gcd_is a b).1 in
    let scaled : gcd (g * (a / g)) (g * (b / g)) ≡ g * gcd (a / g) (b / g) =
    gcd-scaled g (a / g) (b / g) (gcd_pos a b h) in
    let whole : g ≡ g * gcd (a / g) (b / g) =
    sym (ap (λ x. gcd x (g * (b / g))) left ∙ ap (gcd a) right) ∙ scaled in
    one_lem g (gcd (a / g) (b / g)) (gcd_pos a b h) whole
  where
    one_lem : (g x : ℕ) → 0 < g → g ≡ g * x → x ≡ 1
    one_lem g zero h e = absurd (omega (arith, mul-zero g))
    one_lem g (suc zero) h e = refl
    one_lem g (suc (suc x)) h e = absurd (omega (arith, more_lem g x))
      where
        more_lem : (g x : ℕ) → g + g ≤ g * suc (suc x)
        more_lem g x = omega arith

pub part_pos : (a b : ℕ) → 0 < b → 0 < b / gcd a b
part_pos a b h =
    let right : gcd a b * (b / gcd a b) ≡ b = mul-div_cancel' (gcd a b) (gcd_is a b).1 in
    pos_lem (gcd a b) (b / gcd a b) b h right
  where
    pos_lem : (g x b : ℕ) → 0 < b → g * x ≡ b → 0 < x
    pos_lem g zero b h e = absurd (omega (arith, mul-zero g))
    pos_lem g (suc x) b h e = omega arith

-- ---- Euclid's loop

pub gcd-zero : (a : ℕ) → gcd a 0 ≡ a
unfolding gcd
gcd-zero a = refl

pub gcd-rem : (a b : ℕ) → gcd b (a % b) ≡ gcd a b
gcd-rem a b = same_from_IsGcd a b _ _ (IsGcd-from_mod a b _ (gcd_is b (a % b))) (gcd_is a b)

pub gcd-one : (a : ℕ) → gcd a 1 ≡ 1
gcd-one a = dvd_antisymm (gcd_is a 1).1 (one-dvd (gcd a 1))

pub gcd-rem_first : (a b : ℕ) → gcd (a % b) b ≡ gcd a b
gcd-rem_first a b = gcd_swap (a % b) b ∙ gcd-rem a b

pub gcd-rem_second : (a b : ℕ) → gcd (b % a) a ≡ gcd a b
gcd-rem_second a b = gcd_swap (b % a) a ∙ gcd-rem b a ∙ gcd_swap b a

pub gcd-zero_first : (b : ℕ) → gcd 0 b ≡ b
gcd-zero_first b = gcd_swap 0 b ∙ gcd-zero b

pub ruleset remainders = (gcd-zero, gcd-zero_first, gcd-rem_first, gcd-rem_second, gcd_pos)

-- ---- halves

-- n without its factors of 2
pub record IsOddPart (n odd : ℕ) : Type 0 where
  pub zeros : ℕ
  pub whole : n ≡ odd * 2 ^ zeros
  pub is_odd : odd % 2 ≡ 1
