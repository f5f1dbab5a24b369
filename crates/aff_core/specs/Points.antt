-- Points: a number for each address.
use Rattle.std.specs.Prelude.{Bool, cond, List, [], ◌∷◌}
use Rattle.std.specs.Ordering.{eq_by_cmp}
use Rattle.ratio_core.specs.Rational.{Rational, one_ℚ, zero_ℚ}
use Rattle.aff_core.specs.Address.{Address, address_cmp, address_eq}

-- the numbers at the addresses, one after the other, and 0 elsewhere
abbrev pub spread : List Address → List Rational → Address → Rational
spread [] v u = zero_ℚ
spread (a ∷ us) [] u = zero_ℚ
spread (a ∷ us) (q ∷ v) u = cond (address_eq u a) q (spread us v u)

-- the point where a test passes, and 0 elsewhere
abbrev pub cut : (Address → Bool) → (Address → Rational) → Address → Rational
cut p x u = cond (p u) (x u) zero_ℚ

-- 1 at one address, and 0 elsewhere
abbrev pub unit : Address → Address → Rational
unit v u = cond (eq_by_cmp address_cmp v u) one_ℚ zero_ℚ
