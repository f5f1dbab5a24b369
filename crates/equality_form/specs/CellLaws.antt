-- Laws of lists that stand for rows of cells: sums below a bound as products of lists, and the
-- cells of a matrix that is written row by row.
use Rattle.std.specs.Prelude.{◌≡◌, ℕ, zero, suc, ◌+◌, ◌<◌, Bool, true, false, List, [], ◌∷◌, ◌++◌, length, map, refl}
use Rattle.std.proofs.Common.{sym, ◌∙◌, ap, arith}
use Rattle.std.proofs.lemmas.List.{get_or-append-add, get_or_append_left, map-id}
use Rattle.ratio_core.specs.Rational.{Rational, zero_ℚ, ◌*ℚ◌, ◌+ℚ◌}
use Rattle.rational_laws.specs.Dot.{dot}
use Rattle.rational_laws.specs.DotLaws.{negated-dot}
use Rattle.rational_laws.specs.Field.{*ℚ-neg_ℚ, +ℚ_assoc, +ℚ_comm, neg_ℚ-*ℚ, neg_ℚ-neg_ℚ, neg_ℚ-zero}
use Rattle.rational_laws.specs.Sums.{sum_by_ℚ}
use Rattle.simplex_form.specs.BoundedSums.{sum_to}
use Rattle.tableau_core.specs.Row.{cell}
use Rattle.equality_form.specs.Equations.{flipped}

-- ---- sums below a bound

sum_to_first : (n : ℕ) (f : ℕ → Rational) → sum_to (suc n) f ≡ f 0 +ℚ sum_to n (λ k. f (suc k))
sum_to_first zero f = +ℚ_comm zero_ℚ (f 0)
sum_to_first (suc n) f =
    ap (λ s. s +ℚ f (suc n)) (sum_to_first n f)
    ∙ +ℚ_assoc (f 0) (sum_to n (λ k. f (suc k))) (f (suc n))

pub sum_to_dot : (u v : List Rational) → length u ≡ length v
    → sum_to (length v) (λ k. cell u k *ℚ cell v k) ≡ dot u v
sum_to_dot [] [] e = refl
sum_to_dot [] (q ∷ v) e = absurd (omega (arith, e))
sum_to_dot (p ∷ u) [] e = absurd (omega (arith, e))
sum_to_dot (p ∷ u) (q ∷ v) e =
    sum_to_first (length v) (λ k. cell (p ∷ u) k *ℚ cell (q ∷ v) k)
    ∙ ap (λ s. p *ℚ q +ℚ s) (sum_to_dot u v (omega (arith, e)))

-- a product of two lists that are made of one
pub dot_of_maps : {X : Type 0} (f g : X → Rational) (xs : List X)
    → dot (map f xs) (map g xs) ≡ sum_by_ℚ (λ x. f x *ℚ g x) xs
dot_of_maps f g [] = refl
dot_of_maps f g (x ∷ xs) = ap (λ s. f x *ℚ g x +ℚ s) (dot_of_maps f g xs)

-- ---- flipped numbers

pub flipped-zero : (b : Bool) → flipped b zero_ℚ ≡ zero_ℚ
flipped-zero true = neg_ℚ-zero
flipped-zero false = refl

pub flipped-flipped : (b : Bool) (q : Rational) → flipped b (flipped b q) ≡ q
flipped-flipped true q = neg_ℚ-neg_ℚ q
flipped-flipped false q = refl

-- of a product either factor may be flipped
pub flipped-*ℚ : (b : Bool) (p q : Rational) → flipped b (p *ℚ q) ≡ flipped b p *ℚ q
flipped-*ℚ true p q = sym (neg_ℚ-*ℚ p q)
flipped-*ℚ false p q = refl

pub *ℚ-flipped : (b : Bool) (p q : Rational) → p *ℚ flipped b q ≡ flipped b (p *ℚ q)
*ℚ-flipped true p q = *ℚ-neg_ℚ p q
*ℚ-flipped false p q = refl

pub dot_flipped : (b : Bool) (u v : List Rational) → dot (map (flipped b) u) v ≡ flipped b (dot u v)
dot_flipped true u v = negated-dot u v
dot_flipped false u v = ap (λ w. dot w v) (map-id u)

-- ---- rows of a matrix

-- the j-th cell of the i-th row, where each row has c cells
pub cell_of_first : (row rest : List Rational) (j : ℕ) → j < length row
    → cell (row ++ rest) j ≡ cell row j
cell_of_first row rest j h = get_or_append_left row rest zero_ℚ j h

pub cell_of_rest : (row rest : List Rational) (c j : ℕ) → length row ≡ c
    → cell (row ++ rest) (c + j) ≡ cell rest j
cell_of_rest row rest c j e = ap (λ n. cell (row ++ rest) (n + j)) (sym e)
    ∙ get_or-append-add row rest j zero_ℚ
