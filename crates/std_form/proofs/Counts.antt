-- Counts up to a greatest number.
use Rattle.std.specs.Prelude.{◌≡◌, ℕ, zero, suc, ◌+◌, ◌*◌, ◌<◌, ◌≤◌, min}
use Rattle.std.proofs.Common.{◌⊎◌, inl, inr, sym, ◌∙◌, ap, arith}
use Rattle.std.proofs.Math.Nat.{mul-le-mul_right}
use Rattle.std.proofs.lemmas.Bool.{cases_lt}

-- a product with a number that is cut off
product_up : (a b m : ℕ) → min (a * min b m) m ≡ min (a * b) m
product_up zero b m = ap (λ n. min n m) (none (min b m) ∙ sym (none b))
  where
    none : (n : ℕ) → 0 * n ≡ 0
    none n = omega arith
product_up (suc k) b m =
    by_size (mul-le-mul_right b (one_at_most k)) (mul-le-mul_right m (one_at_most k))
  where
    one_at_most : (k : ℕ) → 1 ≤ suc k
    one_at_most k = omega arith

    by_size : 1 * b ≤ suc k * b → 1 * m ≤ suc k * m → min (suc k * min b m) m ≡ min (suc k * b) m
    by_size p q = by_order (cases_lt b m)
      where
        by_order : (b < m) ⊎ (m ≤ b) → min (suc k * min b m) m ≡ min (suc k * b) m
        by_order (inl h) = ap (λ n. min (suc k * n) m) (less h)
          where
            less : b < m → min b m ≡ b
            less h = omega (arith, h)
        by_order (inr h) = ap (λ n. min (suc k * n) m) (more h) ∙ both (suc k * m) (suc k * b) q p h
          where
            more : m ≤ b → min b m ≡ m
            more h = omega (arith, h)

            both : (u v : ℕ) → 1 * m ≤ u → 1 * b ≤ v → m ≤ b → min u m ≡ min v m
            both u v q p h = omega (arith, q, p, h)

pub cells_up : (p s e m parts columns all one result : ℕ) → parts ≡ min p m
    → columns ≡ min (parts + s) m → all ≡ min (columns + e) m → one ≡ min (all + 1) m
    → result ≡ min (e * one) m → result ≡ min (e * (p + s + e + 1)) m
cells_up p s e m parts columns all one result a b c d f =
    f ∙ ap (λ n. min (e * n) m) (cut p s e m parts columns all one a b c d)
    ∙ product_up e (p + s + e + 1) m
  where
    cut : (p s e m parts columns all one : ℕ) → parts ≡ min p m → columns ≡ min (parts + s) m
        → all ≡ min (columns + e) m → one ≡ min (all + 1) m → one ≡ min (p + s + e + 1) m
    cut p s e m parts columns all one a b c d = omega (arith, a, b, c, d)
