-- Products, sums and multiples of lists of rational numbers, place by place; the places past the
-- end of either list count nothing.
use Rattle.std.specs.Prelude.{List, [], ◌∷◌, map}
use Rattle.ratio_core.specs.Rational.{Rational, zero_ℚ, ◌*ℚ◌, ◌+ℚ◌, neg_ℚ}

-- the sum of the products of what stands at equal places
abbrev pub dot : List Rational → List Rational → Rational
dot [] v = zero_ℚ
dot (p ∷ w) [] = zero_ℚ
dot (p ∷ w) (q ∷ v) = p *ℚ q +ℚ dot w v

-- the sums of what stands at equal places
abbrev pub plus : List Rational → List Rational → List Rational
plus [] v = []
plus (p ∷ u) [] = []
plus (p ∷ u) (q ∷ v) = (p +ℚ q) ∷ plus u v

-- each number multiplied
abbrev pub times : Rational → List Rational → List Rational
times t v = map (λ q. t *ℚ q) v

-- each number negated
abbrev pub negated : List Rational → List Rational
negated v = map neg_ℚ v

-- the differences of what stands at equal places
abbrev pub minus : List Rational → List Rational → List Rational
minus u v = plus u (negated v)
