-- Products of lists: linear in each side, of lists joined or made by a function, and by the signs
-- of their numbers.
use Rattle.std.specs.Prelude.{◌≡◌, ℕ, suc, List, [], ◌∷◌, ◌++◌, length, map, replicate, All, refl}
use Rattle.std.proofs.Common.{sym, ◌∙◌, ap, ap₂, arith}
use Rattle.std.proofs.lemmas.List.{length-map}
use Rattle.std.proofs.lemmas.List.Elements.{All-head, All-replicate, All-tail}
use Rattle.ratio_core.specs.Rational.{Rational, neg_ℚ, zero_ℚ, ◌*ℚ◌, ◌+ℚ◌, ◌-ℚ◌, ◌≤ℚ◌}
use Rattle.rational_laws.specs.Dot.{dot, minus, negated, plus, times}
use Rattle.rational_laws.specs.Field.{*ℚ-+ℚ, *ℚ-neg_ℚ, *ℚ-zero, *ℚ_comm, +ℚ-zero, +ℚ_assoc, +ℚ_inner_comm, neg_ℚ-sum, neg_ℚ-zero, zero-*ℚ, zero-+ℚ}
use Rattle.rational_laws.specs.Order.{nonneg_add, nonneg_mul, nonneg_mul_nonpos, ≤ℚ_refl}
use Rattle.rational_laws.specs.Ring.{as_expression, by_ring, ring₃}
use Rattle.rational_laws.specs.Sums.{sum_by_ℚ, sum_ℚ}

pub dot_comm : (w v : List Rational) → dot w v ≡ dot v w
dot_comm [] [] = refl
dot_comm [] (q ∷ v) = refl
dot_comm (p ∷ w) [] = refl
dot_comm (p ∷ w) (q ∷ v) = ap₂ ◌+ℚ◌ (*ℚ_comm p q) (dot_comm w v)

-- ---- lengths

pub length-plus : (u v : List Rational) → length u ≡ length v → length (plus u v) ≡ length v
length-plus [] [] e = refl
length-plus [] (q ∷ v) e = absurd (omega (arith, e))
length-plus (p ∷ u) [] e = absurd (omega (arith, e))
length-plus (p ∷ u) (q ∷ v) e = ap suc (length-plus u v (omega (arith, e)))

pub length-times : (t : Rational) (v : List Rational) → length (times t v) ≡ length v
length-times t v = length-map v (λ q. t *ℚ q)

pub length-negated : (v : List Rational) → length (negated v) ≡ length v
length-negated v = length-map v neg_ℚ

pub length-minus : (u v : List Rational) → length u ≡ length v → length (minus u v) ≡ length v
length-minus u v e = length-plus u (negated v) (e ∙ sym (length-negated v)) ∙ length-negated v

-- ---- linear in each side

turned : (c p q s : Rational) → p *ℚ (c *ℚ q) +ℚ c *ℚ s ≡ c *ℚ (p *ℚ q +ℚ s)
turned c p q s = ap (λ x. x +ℚ c *ℚ s) (apart p c q) ∙ sym (*ℚ-+ℚ c (p *ℚ q) s)
  where
    apart : (p c q : Rational) → p *ℚ (c *ℚ q) ≡ c *ℚ (p *ℚ q)
    apart = ring₃ _ (λ ρ. simp as_expression (by_ring ρ _ _ refl))

pub dot-plus : (w u v : List Rational) → length u ≡ length v → dot w (plus u v) ≡ dot w u +ℚ dot w v
dot-plus [] u v e = sym (zero-+ℚ zero_ℚ)
dot-plus (r ∷ w) [] [] e = sym (zero-+ℚ zero_ℚ)
dot-plus (r ∷ w) [] (q ∷ v) e = absurd (omega (arith, e))
dot-plus (r ∷ w) (p ∷ u) [] e = absurd (omega (arith, e))
dot-plus (r ∷ w) (p ∷ u) (q ∷ v) e =
    ap₂ ◌+ℚ◌ (*ℚ-+ℚ r p q) (dot-plus w u v (omega (arith, e)))
    ∙ +ℚ_inner_comm (r *ℚ p) (r *ℚ q) (dot w u) (dot w v)

pub dot-negated : (w v : List Rational) → dot w (negated v) ≡ neg_ℚ (dot w v)
dot-negated [] v = sym neg_ℚ-zero
dot-negated (p ∷ w) [] = sym neg_ℚ-zero
dot-negated (p ∷ w) (q ∷ v) = ap₂ ◌+ℚ◌ (*ℚ-neg_ℚ p q) (dot-negated w v)
    ∙ sym (neg_ℚ-sum (p *ℚ q) (dot w v))

pub dot-minus : (w u v : List Rational) → length u ≡ length v
    → dot w (minus u v) ≡ dot w u -ℚ dot w v
dot-minus w u v e = dot-plus w u (negated v) (e ∙ sym (length-negated v))
    ∙ ap (λ s. dot w u +ℚ s) (dot-negated w v)

pub plus-dot : (u v w : List Rational) → length u ≡ length v → dot (plus u v) w ≡ dot u w +ℚ dot v w
plus-dot u v w e = dot_comm (plus u v) w ∙ dot-plus w u v e ∙ ap₂ ◌+ℚ◌ (dot_comm w u) (dot_comm w v)

pub negated-dot : (u w : List Rational) → dot (negated u) w ≡ neg_ℚ (dot u w)
negated-dot u w = dot_comm (negated u) w ∙ dot-negated w u ∙ ap neg_ℚ (dot_comm w u)

pub minus-dot : (u v w : List Rational) → length u ≡ length v
    → dot (minus u v) w ≡ dot u w -ℚ dot v w
minus-dot u v w e = dot_comm (minus u v) w ∙ dot-minus w u v e
    ∙ ap₂ ◌-ℚ◌ (dot_comm w u) (dot_comm w v)

-- ---- lists joined, and lists of one number

pub dot-append : (w v y z : List Rational) → length w ≡ length v
    → dot (w ++ y) (v ++ z) ≡ dot w v +ℚ dot y z
dot-append [] [] y z e = sym (zero-+ℚ (dot y z))
dot-append [] (q ∷ v) y z e = absurd (omega (arith, e))
dot-append (p ∷ w) [] y z e = absurd (omega (arith, e))
dot-append (p ∷ w) (q ∷ v) y z e =
    ap (λ s. p *ℚ q +ℚ s) (dot-append w v y z (omega (arith, e)))
    ∙ sym (+ℚ_assoc (p *ℚ q) (dot w v) (dot y z))

-- one number at each place weighs a list's sum
pub dot-replicate : (w : List Rational) (q : Rational)
    → dot w (replicate (length w) q) ≡ q *ℚ sum_ℚ w
dot-replicate [] q = sym (*ℚ-zero q)
dot-replicate (p ∷ w) q = ap₂ ◌+ℚ◌ (*ℚ_comm p q) (dot-replicate w q) ∙ sym (*ℚ-+ℚ q p (sum_ℚ w))

pub zeros_dot : (w v : List Rational) → All (λ q. q ≡ zero_ℚ) w → dot w v ≡ zero_ℚ
zeros_dot [] v h = refl
zeros_dot (p ∷ w) [] h = refl
zeros_dot (p ∷ w) (q ∷ v) h =
    ap₂ (λ x y. x *ℚ q +ℚ y) (All-head (λ x. x ≡ zero_ℚ) p w h)
    (zeros_dot w v (All-tail (λ x. x ≡ zero_ℚ) p w h))
    ∙ +ℚ-zero (zero_ℚ *ℚ q) ∙ zero-*ℚ q

pub dot_zeros : (w v : List Rational) → All (λ q. q ≡ zero_ℚ) v → dot w v ≡ zero_ℚ
dot_zeros w v h = dot_comm w v ∙ zeros_dot v w h

-- any number of zeros
pub dot-zeros : (w : List Rational) (n : ℕ) → dot w (replicate n zero_ℚ) ≡ zero_ℚ
dot-zeros w n = dot_zeros w (replicate n zero_ℚ) (All-replicate (λ q. q ≡ zero_ℚ) n zero_ℚ refl)

-- ---- what weighs all lists alike

-- a number in front of zeros, and 0 in front of numbers
pub dot_front : (p q : Rational) (w : List Rational) (n : ℕ)
    → dot (p ∷ w) (q ∷ replicate n zero_ℚ) ≡ p *ℚ q
dot_front p q w n = ap (λ s. p *ℚ q +ℚ s) (dot-zeros w n) ∙ +ℚ-zero (p *ℚ q)

pub dot_behind : (p : Rational) (w v : List Rational) → dot (p ∷ w) (zero_ℚ ∷ v) ≡ dot w v
dot_behind p w v = ap (λ s. s +ℚ dot w v) (*ℚ-zero p) ∙ zero-+ℚ (dot w v)

-- ---- lists made by a function

module _ {X : Type 0} where
  pub dot_map_same : (w : List Rational) (f g : X → Rational) (xs : List X) → ((x : X) → f x ≡ g x)
      → dot w (map f xs) ≡ dot w (map g xs)
  dot_map_same [] f g xs h = refl
  dot_map_same (p ∷ w) f g [] h = refl
  dot_map_same (p ∷ w) f g (x ∷ xs) h = ap₂ (λ s t. p *ℚ s +ℚ t) (h x) (dot_map_same w f g xs h)

  pub dot_map_zero : (w : List Rational) (xs : List X) → dot w (map (λ _. zero_ℚ) xs) ≡ zero_ℚ
  dot_map_zero [] xs = refl
  dot_map_zero (p ∷ w) [] = refl
  dot_map_zero (p ∷ w) (x ∷ xs) = dot_behind p w (map (λ _. zero_ℚ) xs) ∙ dot_map_zero w xs

  pub dot_map-+ℚ : (w : List Rational) (f g : X → Rational) (xs : List X)
      → dot w (map (λ x. f x +ℚ g x) xs) ≡ dot w (map f xs) +ℚ dot w (map g xs)
  dot_map-+ℚ [] f g xs = sym (zero-+ℚ zero_ℚ)
  dot_map-+ℚ (p ∷ w) f g [] = sym (zero-+ℚ zero_ℚ)
  dot_map-+ℚ (p ∷ w) f g (x ∷ xs) =
      ap₂ ◌+ℚ◌ (*ℚ-+ℚ p (f x) (g x)) (dot_map-+ℚ w f g xs)
      ∙ +ℚ_inner_comm (p *ℚ f x) (p *ℚ g x) (dot w (map f xs)) (dot w (map g xs))

  pub dot_map-*ℚ : (w : List Rational) (c : Rational) (f : X → Rational) (xs : List X)
      → dot w (map (λ x. c *ℚ f x) xs) ≡ c *ℚ dot w (map f xs)
  dot_map-*ℚ [] c f xs = sym (*ℚ-zero c)
  dot_map-*ℚ (p ∷ w) c f [] = sym (*ℚ-zero c)
  dot_map-*ℚ (p ∷ w) c f (x ∷ xs) = ap (λ s. p *ℚ (c *ℚ f x) +ℚ s) (dot_map-*ℚ w c f xs)
      ∙ turned c p (f x) (dot w (map f xs))

  pub dot_map-neg_ℚ : (w : List Rational) (f : X → Rational) (xs : List X)
      → dot w (map (λ x. neg_ℚ (f x)) xs) ≡ neg_ℚ (dot w (map f xs))
  dot_map-neg_ℚ [] f xs = sym neg_ℚ-zero
  dot_map-neg_ℚ (p ∷ w) f [] = sym neg_ℚ-zero
  dot_map-neg_ℚ (p ∷ w) f (x ∷ xs) =
      ap₂ ◌+ℚ◌ (*ℚ-neg_ℚ p (f x)) (dot_map-neg_ℚ w f xs)
      ∙ sym (neg_ℚ-sum (p *ℚ f x) (dot w (map f xs)))

-- a product with sums is the sum of the products
pub dot_map-sum : {X Y : Type 0} (w : List Rational) (f : X → Y → Rational) (xs : List X)
    (ys : List Y)
    → dot w (map (λ x. sum_by_ℚ (f x) ys) xs) ≡ sum_by_ℚ (λ y. dot w (map (λ x. f x y) xs)) ys
dot_map-sum w f xs [] = dot_map_zero w xs
dot_map-sum w f xs (y ∷ ys) =
    dot_map-+ℚ w (λ x. f x y) (λ x. sum_by_ℚ (f x) ys) xs
    ∙ ap (λ s. dot w (map (λ x. f x y) xs) +ℚ s) (dot_map-sum w f xs ys)

-- ---- by the signs

pub dot_nonneg : (w v : List Rational) → All (λ q. zero_ℚ ≤ℚ q) w → All (λ q. zero_ℚ ≤ℚ q) v
    → zero_ℚ ≤ℚ dot w v
dot_nonneg [] v h k = ≤ℚ_refl zero_ℚ
dot_nonneg (p ∷ w) [] h k = ≤ℚ_refl zero_ℚ
dot_nonneg (p ∷ w) (q ∷ v) h k =
    nonneg_add (p
    *ℚ q) (dot w v) (nonneg_mul p q (All-head (λ x. zero_ℚ ≤ℚ x) p w h)
    (All-head (λ x. zero_ℚ ≤ℚ x) q v k))
    (dot_nonneg w v (All-tail (λ x. zero_ℚ ≤ℚ x) p w h) (All-tail (λ x. zero_ℚ ≤ℚ x) q v k))

pub dot_nonpos : (w v : List Rational) → All (λ q. q ≤ℚ zero_ℚ) w → All (λ q. q ≤ℚ zero_ℚ) v
    → zero_ℚ ≤ℚ dot w v
dot_nonpos [] v h k = ≤ℚ_refl zero_ℚ
dot_nonpos (p ∷ w) [] h k = ≤ℚ_refl zero_ℚ
dot_nonpos (p ∷ w) (q ∷ v) h k =
    nonneg_add (p
    *ℚ q) (dot w v) (nonneg_mul_nonpos p q (All-head (λ x. x ≤ℚ zero_ℚ) p w h)
    (All-head (λ x. x ≤ℚ zero_ℚ) q v k))
    (dot_nonpos w v (All-tail (λ x. x ≤ℚ zero_ℚ) p w h) (All-tail (λ x. x ≤ℚ zero_ℚ) q v k))
