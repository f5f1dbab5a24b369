use Rattle.std.proofs.Common.{◌<◌, ◌≤◌, ◌^◌, arith, ℕ}
use Rattle.whole_rows.proofs.dividing.greatest_within.Goals as goal

below_lem : (a b : ℕ) → a ≤ b → b < 2 ^ 63 → a < 2 ^ 63
below_lem a b h k = omega (arith, h, k)

pub returns-then-bound-lt-SMALL : goal.returns-then-bound-lt-SMALL
returns-then-bound-lt-SMALL c = record {
  within_size = c.requires.size;
  within = λ j b. c.requires.within j;
  small = c.requires.bound;
}

pub greatest_of-requires-clause-size : goal.greatest_of-requires-clause-size
greatest_of-requires-clause-size c = below_lem _ _ c.requires.size c.requires.bound

pub greatest_of-requires-clause-small : goal.greatest_of-requires-clause-small
greatest_of-requires-clause-small c = λ j. below_lem _ _ (c.requires.within j) c.requires.bound
