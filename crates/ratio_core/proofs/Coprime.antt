-- Numbers without a common divisor.
use Rattle.std.proofs.Common.{◌≡◌, ℕ, suc, ◌+◌, ◌*◌, ◌/◌, ◌<◌, ◌⊎◌, inl, inr, ℤ, pos, negsuc, ◌+ℤ◌, unsigned_abs, refl, sym, ◌∙◌, subst, arith, mul_comm, ◌-◌, ◌≤◌, Bool, true, false, cond, ltb, ltb-true, ltb-false}
use Rattle.std.proofs.Math.Logic.{⊎_swap}
use lib.IntN.{sub_ℕ}
use Rattle.std.proofs.Math.Nat.{dvd_trans, dvd-mul_right, div-mul_cancel, eq-one_of_dvd-one, dvd-add, dvd-add_iff_left, dvd_refl}
use Rattle.std.specs.Int.{◌∣◌}
use Rattle.ratio_core.specs.Gcd.{gcd, gcd_is, gcd_swap, dvd_from_coprime}

pub coprime_at : (a b e : ℕ) → gcd a b ≡ 1 → e ∣ a → e ∣ b → e ≡ 1
coprime_at a b e h k l = eq-one_of_dvd-one (subst (λ x. e ∣ x) h ((gcd_is a b).2 e k l))

pub coprime_by : (a b : ℕ) → ((e : ℕ) → e ∣ a → e ∣ b → e ≡ 1) → gcd a b ≡ 1
coprime_by a b h = h (gcd a b) (gcd_is a b).0 (gcd_is a b).1

pub coprime_within : (a b x y : ℕ) → gcd a b ≡ 1 → x ∣ a → y ∣ b → gcd x y ≡ 1
coprime_within a b x y h k l =
    coprime_by x y (λ e m n. coprime_at a b e h (dvd_trans e m k) (dvd_trans e n l))

pub coprime_product : (x y z : ℕ) → gcd x z ≡ 1 → gcd y z ≡ 1 → gcd (x * y) z ≡ 1
coprime_product x y z h k =
    coprime_by (x * y) z (λ e m n.
    coprime_at y z e k (dvd_from_coprime x e y (coprime_within x z x e h (dvd_refl x) n)
    (subst (λ w. e ∣ w) (mul_comm x y) m)) n)

pub coprime_product_right : (x y z : ℕ) → gcd x y ≡ 1 → gcd x z ≡ 1 → gcd x (y * z) ≡ 1
coprime_product_right x y z h k =
    gcd_swap x (y * z) ∙ coprime_product y z x (gcd_swap y x ∙ h) (gcd_swap z x ∙ k)

-- a quotient by a divisor divides
pub quotient_divides : (a g : ℕ) → g ∣ a → (a / g) ∣ a
quotient_divides a g h = subst (λ w. (a / g) ∣ w) (div-mul_cancel g h) (dvd-mul_right (a / g) g)

-- ---- sums of whole numbers

-- one of the three is the sum of the others
abbrev AddUp : ℕ → ℕ → ℕ → Type 0
AddUp n a b = (n ≡ a + b) ⊎ ((a ≡ b + n) ⊎ (b ≡ a + n))

-- the size of a difference
sub_size : (a b : ℕ) → let n = unsigned_abs (sub_ℕ a b) in (a ≡ b + n) ⊎ (b ≡ a + n)
sub_size a b = by_test (ltb a b) refl
  where
    by_test : (t : Bool) → ltb a b ≡ t
        → let n = unsigned_abs (cond t (negsuc (b - suc a)) (pos (a - b))) in
        (a ≡ b + n) ⊎ (b ≡ a + n)
    by_test true e = let below : a < b = ltb-true a b e in inr (omega arith)
    by_test false e = let above : b ≤ a = ltb-false a b e in inl (omega arith)

size_lem : (x y : ℤ) → AddUp (unsigned_abs (x +ℤ y)) (unsigned_abs x) (unsigned_abs y)
size_lem (pos a) (pos b) = inl refl
size_lem (negsuc a) (negsuc b) = inl (omega arith)
size_lem (pos a) (negsuc b) = inr (sub_size a (suc b))
size_lem (negsuc a) (pos b) = inr (⊎_swap (sub_size b (suc a)))

-- what divides a sum and one of its terms divides the other
pub divides_term : (e : ℕ) (x y : ℤ) → e ∣ unsigned_abs (x +ℤ y) → e ∣ unsigned_abs y
    → e ∣ unsigned_abs x
divides_term e x y h k = by_size _ _ _ (size_lem x y) h k
  where
    by_size : (n a b : ℕ) → AddUp n a b → e ∣ n → e ∣ b → e ∣ a
    by_size n a b (inl s) h k = (dvd-add_iff_left e k).1 (subst (λ w. e ∣ w) s h)
    by_size n a b (inr (inl s)) h k = subst (λ w. e ∣ w) (sym s) (dvd-add e k h)
    by_size n a b (inr (inr s)) h k = (dvd-add_iff_left e h).1 (subst (λ w. e ∣ w) s k)
