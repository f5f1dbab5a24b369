use Rattle.std.specs.Prelude.{◌<◌, true, IsTrue, ◌↔◌, List, [], ◌∷◌, length, refl}
use Rattle.std.proofs.Common.{arith}
use Rattle.ratio_core.specs.Folds.{FoldFits}
use Rattle.ratio_core.specs.Rational.{Rational, zero_ℚ}
use Rattle.rational_laws.specs.Order.{≤ℚ_refl}
use Rattle.set_core.specs.Vectors.{DominatesSum, NormFits}
use Rattle.set_core.proofs.cones.dominates_sum.Goals as goal

-- with no number there is nothing to add, and 0 is at most 0
without_numbers : (v : List Rational) → length v < 1 → NormFits v × (IsTrue true ↔ DominatesSum v)
unfolding FoldFits
without_numbers [] h = (tt, (λ _. ≤ℚ_refl zero_ℚ, λ _. refl))
without_numbers (q ∷ v) h = absurd (omega (arith, h))

pub returns-in-empty : goal.returns-in-empty
returns-in-empty c = without_numbers c.args.v.now c.in-empty.len_below
