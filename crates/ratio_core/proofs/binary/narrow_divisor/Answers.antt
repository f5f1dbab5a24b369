use Rattle.std.specs.Int.{w64}
use Rattle.std.proofs.Common.{◌<◌, arith, subst, sym, inl, inr}
use Rattle.ratio_core.specs.Gcd.{gcd_pos}
use Rattle.ratio_core.proofs.BinaryLaws.{one_is_gcd, same_is_gcd, odd_part_of, twice_divisor}
use Rattle.ratio_core.proofs.binary.narrow_divisor.Goals as goal
use Rattle.ratio_core.proofs.binary.narrow_divisor.Goals.{then-a-eq1-via-then-a-eq1, then-a-eq1-via-else-a-eq1+then-b-eq1}

pub returns-then-a-eq1-clause-value : goal.returns-then-a-eq1-clause-value
returns-then-a-eq1-clause-value c =
    elim c.then-a-eq1.branch [
      | then-a-eq1-via-then-a-eq1 w ↦ one_is_gcd _ _ (inl w.if-a-eq1.true)
      | then-a-eq1-via-else-a-eq1+then-b-eq1 w ↦ one_is_gcd _ _ (inr w.if-b-eq1.true)
    ]

pub returns-then-a-eq0-clause-value : goal.returns-then-a-eq0-clause-value
returns-then-a-eq0-clause-value c = same_is_gcd _ _ c.if-a-eq0.true

pub odd_divisor-requires-clause-left : goal.odd_divisor-requires-clause-left
odd_divisor-requires-clause-left c = (odd_part_of w64 c.args.a (omega arith) c.ranges.a.fits).is_odd

pub odd_divisor-requires-clause-right : goal.odd_divisor-requires-clause-right
odd_divisor-requires-clause-right c =
    (odd_part_of w64 c.args.b (omega arith) c.ranges.b.fits).is_odd

pub returns-clause-value : goal.returns-clause-value
returns-clause-value c =
    twice_divisor w64 c.args.a c.args.b c.odd_divisor.result c.lesser_count.result (omega arith)
    (omega arith) c.ranges.a.fits c.ranges.b.fits c.odd_divisor.ensures c.lesser_count.ensures

pub returns-clause-positive : goal.returns-clause-positive
returns-clause-positive c =
    subst (λ x. 0 < x) (sym (returns-clause-value c)) (gcd_pos c.args.a c.args.b c.requires)
