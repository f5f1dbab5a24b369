-- Points spread over a list of addresses, and points cut to some addresses.
use Rattle.std.specs.Prelude.{◌≡◌, false, cond, List, [], ◌∷◌, length, map, refl}
use Rattle.std.proofs.Common.{◌∙◌, ap, ap₂, arith}
use Rattle.std.proofs.lemmas.Map.Keys.{IsDistinct-head, IsDistinct-tail}
use Rattle.std.specs.List.{AllByRecursion, IsDistinct}
use Rattle.ratio_core.specs.Rational.{Rational}
use Rattle.aff_core.specs.Address.{Address, address_eq, address_total}
use Rattle.aff_core.specs.KeyOrder.{address_order, same_key}
use Rattle.aff_core.specs.Points.{spread}
use Rattle.std.specs.Cmp.{eq_by_cmp_equiv}

past_first : (a : Address) (q : Rational) (us vs : List Address) (v : List Rational)
    → AllByRecursion (λ u. address_eq a u ≡ false) us
    → map (spread (a ∷ vs) (q ∷ v)) us ≡ map (spread vs v) us
past_first a q [] vs v apart = refl
past_first a q (u ∷ us) vs v apart =
    ap₂ (λ p ps. p
    ∷ ps) (ap (λ b. cond b q (spread vs v u)) ((eq_by_cmp_equiv address_total).symm u a
    ∙ apart.0)) (past_first a q us vs v apart.1)

-- at distinct addresses stand the numbers
pub spread_at : (us : List Address) (v : List Rational) → IsDistinct address_eq us
    → length us ≡ length v → map (spread us v) us ≡ v
spread_at [] [] d n = refl
spread_at [] (q ∷ v) d n = absurd (omega arith)
spread_at (a ∷ us) [] d n = absurd (omega arith)
spread_at (a ∷ us) (q ∷ v) d n =
    ap₂ (λ p ps. p ∷ ps) (ap (λ b. cond b q (spread us v a)) (same_key address_order a))
    (past_first a q us us v (IsDistinct-head address_eq a us d)
    ∙ spread_at us v (IsDistinct-tail address_eq a us d) (omega arith))
