use Rattle.std.proofs.Common.{◌≡◌, ◌∙◌, arith, sym, Equal, Greater}
use Rattle.ratio_core.specs.Rational.{rational_cmp, ◌/ℚ◌}
use Rattle.tableau_core.specs.ItemLaws.{item_is}
use Rattle.tableau_core.specs.Leaving.{ratio_of}
use Rattle.tableau_core.proofs.Comparing.{before_by}
use Rattle.tableau_core.proofs.ratio_test.is_before.Goals as goal
use Rattle.tableau_core.proofs.ratio_test.is_before.Goals.{After-cmp_quotients}

order : (c : After-cmp_quotients) → c.cmp_quotients.result ≡ rational_cmp
    (ratio_of c.args.side c.args.q c.args.row.now)
    (ratio_of c.args.side c.args.q c.args.other.now)
order c =
    let long = c.requires.long in
    let other_long = c.requires.other_long in
    let column = c.requires.column in
    let row_side = item_is c.args.row.now c.args.side c.index-row-side.result
    (omega (arith, long)) c.index-row-side.is in
    let row_q = item_is c.args.row.now c.args.q c.index-row-q.result
    (omega (arith, long, column)) c.index-row-q.is in
    let other_side = item_is c.args.other.now c.args.side c.index-other-side.result
    (omega (arith, other_long)) c.index-other-side.is in
    let other_q = item_is c.args.other.now c.args.q c.index-other-q.result
    (omega (arith, other_long, column)) c.index-other-q.is in
    c.cmp_quotients.ensures
    ∙ (λ k. rational_cmp (row_side k /ℚ row_q k) (other_side k /ℚ other_q k))

pub returns-in-Equal : goal.returns-in-Equal
returns-in-Equal c =
    before_by (ratio_of c.args.side c.args.q c.args.row.now)
    (ratio_of c.args.side c.args.q c.args.other.now) c.args.is_lower Equal
    (sym c.in-Equal.is ∙ order (goal.at.returns-in-Equal c).After-cmp_quotients)

pub returns-in-Greater : goal.returns-in-Greater
returns-in-Greater c =
    before_by (ratio_of c.args.side c.args.q c.args.row.now)
    (ratio_of c.args.side c.args.q c.args.other.now) c.args.is_lower Greater
    (sym c.in-Greater.is ∙ order (goal.at.returns-in-Greater c).After-cmp_quotients)
