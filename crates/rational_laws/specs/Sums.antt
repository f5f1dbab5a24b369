-- Sums over lists, and their linearity.
use Rattle.std.specs.Prelude.{◌≡◌, List, [], ◌∷◌, ◌++◌, map, fold, refl}
use Rattle.std.proofs.Common.{sym, ◌∙◌, ap, ap₂}
use Rattle.ratio_core.specs.Rational.{Rational, neg_ℚ, zero_ℚ, ◌*ℚ◌, ◌+ℚ◌}
use Rattle.rational_laws.specs.Field.{*ℚ-+ℚ, *ℚ-zero, *ℚ_comm, +ℚ-zero, +ℚ_assoc, +ℚ_inner_comm, neg_ℚ-sum, neg_ℚ-zero, zero-+ℚ}

-- the sum of f over the list
abbrev pub sum_by_ℚ : {X : Type 0} → (X → Rational) → List X → Rational
sum_by_ℚ f [] = zero_ℚ
sum_by_ℚ f (x ∷ xs) = f x +ℚ sum_by_ℚ f xs

-- the sum of the list
abbrev pub sum_ℚ : List Rational → Rational
sum_ℚ [] = zero_ℚ
sum_ℚ (x ∷ xs) = x +ℚ sum_ℚ xs

module _ {X : Type 0} where
  pub sum_by_ℚ-append : (f : X → Rational) (xs ys : List X)
      → sum_by_ℚ f (xs ++ ys) ≡ sum_by_ℚ f xs +ℚ sum_by_ℚ f ys
  sum_by_ℚ-append f [] ys = sym (zero-+ℚ (sum_by_ℚ f ys))
  sum_by_ℚ-append f (x ∷ xs) ys = ap (λ s. f x +ℚ s) (sum_by_ℚ-append f xs ys)
      ∙ sym (+ℚ_assoc (f x) (sum_by_ℚ f xs) (sum_by_ℚ f ys))

  pub sum_by_ℚ_same : (f g : X → Rational) (xs : List X) → ((x : X) → f x ≡ g x)
      → sum_by_ℚ f xs ≡ sum_by_ℚ g xs
  sum_by_ℚ_same f g [] e = refl
  sum_by_ℚ_same f g (x ∷ xs) e = ap₂ ◌+ℚ◌ (e x) (sum_by_ℚ_same f g xs e)

  pub sum_by_ℚ_zero : (xs : List X) → sum_by_ℚ (λ _. zero_ℚ) xs ≡ zero_ℚ
  sum_by_ℚ_zero [] = refl
  sum_by_ℚ_zero (x ∷ xs) = zero-+ℚ (sum_by_ℚ (λ _. zero_ℚ) xs) ∙ sum_by_ℚ_zero xs

  pub sum_by_ℚ-+ℚ : (f g : X → Rational) (xs : List X)
      → sum_by_ℚ (λ x. f x +ℚ g x) xs ≡ sum_by_ℚ f xs +ℚ sum_by_ℚ g xs
  sum_by_ℚ-+ℚ f g [] = sym (zero-+ℚ zero_ℚ)
  sum_by_ℚ-+ℚ f g (x ∷ xs) =
      ap (λ s. (f x +ℚ g x) +ℚ s) (sum_by_ℚ-+ℚ f g xs)
      ∙ +ℚ_inner_comm (f x) (g x) (sum_by_ℚ f xs) (sum_by_ℚ g xs)

  -- a constant comes out, on either side
  pub sum_by_ℚ-*ℚ : (c : Rational) (f : X → Rational) (xs : List X)
      → sum_by_ℚ (λ x. c *ℚ f x) xs ≡ c *ℚ sum_by_ℚ f xs
  sum_by_ℚ-*ℚ c f [] = sym (*ℚ-zero c)
  sum_by_ℚ-*ℚ c f (x ∷ xs) = ap (λ s. c *ℚ f x +ℚ s) (sum_by_ℚ-*ℚ c f xs)
      ∙ sym (*ℚ-+ℚ c (f x) (sum_by_ℚ f xs))

  pub sum_by_ℚ-*ℚ_right : (c : Rational) (f : X → Rational) (xs : List X)
      → sum_by_ℚ (λ x. f x *ℚ c) xs ≡ sum_by_ℚ f xs *ℚ c
  sum_by_ℚ-*ℚ_right c f xs = sum_by_ℚ_same (λ x. f x *ℚ c) (λ x. c *ℚ f x) xs (λ x. *ℚ_comm (f x) c)
      ∙ sum_by_ℚ-*ℚ c f xs ∙ *ℚ_comm c (sum_by_ℚ f xs)

  pub sum_by_ℚ-neg_ℚ : (f : X → Rational) (xs : List X)
      → sum_by_ℚ (λ x. neg_ℚ (f x)) xs ≡ neg_ℚ (sum_by_ℚ f xs)
  sum_by_ℚ-neg_ℚ f [] = sym neg_ℚ-zero
  sum_by_ℚ-neg_ℚ f (x ∷ xs) = ap (λ s. neg_ℚ (f x) +ℚ s) (sum_by_ℚ-neg_ℚ f xs)
      ∙ sym (neg_ℚ-sum (f x) (sum_by_ℚ f xs))

  pub sum_by_ℚ-map : {Y : Type 0} (f : Y → Rational) (g : X → Y) (xs : List X)
      → sum_by_ℚ f (map g xs) ≡ sum_by_ℚ (λ x. f (g x)) xs
  sum_by_ℚ-map f g [] = refl
  sum_by_ℚ-map f g (x ∷ xs) = ap (λ s. f (g x) +ℚ s) (sum_by_ℚ-map f g xs)

-- ---- folds

-- a fold from the left adds the sum
pub fold_ℚ : (a : Rational) (xs : List Rational) → fold ◌+ℚ◌ a xs ≡ a +ℚ sum_ℚ xs
fold_ℚ a [] = sym (+ℚ-zero a)
fold_ℚ a (x ∷ xs) = fold_ℚ (a +ℚ x) xs ∙ +ℚ_assoc a x (sum_ℚ xs)

pub sum_ℚ-append : (xs ys : List Rational) → sum_ℚ (xs ++ ys) ≡ sum_ℚ xs +ℚ sum_ℚ ys
sum_ℚ-append [] ys = sym (zero-+ℚ (sum_ℚ ys))
sum_ℚ-append (x ∷ xs) ys = ap (λ s. x +ℚ s) (sum_ℚ-append xs ys)
    ∙ sym (+ℚ_assoc x (sum_ℚ xs) (sum_ℚ ys))
