use Rattle.std.proofs.Common.{◌≡◌, ◌≤◌, ◌∙◌, ap, length, subst, sym, unsigned_abs, w64}
use Rattle.std.proofs.lemmas.Int.{to_z-of_z}
use Rattle.whole_rows.proofs.DividingSteps.{measured_is}
use Rattle.whole_rows.proofs.dividing.measured.Goals as goal
use Rattle.whole_rows.proofs.dividing.measured.Goals.{After-unsigned_abs-part}

part_is : (c : After-unsigned_abs-part) → c.unsigned_abs-part.result ≡ unsigned_abs c.args.side
part_is c = c.unsigned_abs-part.ensures.value ∙ ap unsigned_abs (to_z-of_z w64 c.args.side c.ranges.side)

pub greatest_within-greatest-requires-clause-size :
    goal.greatest_within-greatest-requires-clause-size
greatest_within-greatest-requires-clause-size c =
    subst (λ x. x ≤ c.args.bound)
    (sym (part_is (goal.at.greatest_within-greatest-requires-clause-size c).After-unsigned_abs-part))
    c.requires.side

pub returns : goal.returns
returns c =
    measured_is c.args.numbers.now (length c.args.numbers.now) c.args.side c.args.size
    c.common_of-common.result c.greatest_within-greatest.result c.unsigned_abs-part.result
    c.joined.result (part_is (goal.at.returns c).After-unsigned_abs-part) c.joined.ensures.value
    c.greatest_within-greatest.ensures c.common_of-common.ensures
