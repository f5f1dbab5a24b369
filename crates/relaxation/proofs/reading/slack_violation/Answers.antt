use Rattle.std.proofs.Common.{ap, cond, sym, ◌∙◌}
use Rattle.relaxation.proofs.RowLemmas.{violation_of_two}
use Rattle.relaxation.proofs.reading.slack_violation.Goals as goal

pub returns-then-is_zero : goal.returns-then-is_zero
returns-then-is_zero c =
    let first = c.first-item.result in
    let second = c.second-item.result in
    ap (λ b. cond b second first) (sym c.if-is_zero.true)
    ∙ violation_of_two c.args.slacks.now first second c.is_zero.result c.in-len2-up.len_at_least
    c.first-item.is c.second-item.is c.is_zero.ensures

pub returns-else-is_zero : goal.returns-else-is_zero
returns-else-is_zero c =
    let first = c.first-item.result in
    let second = c.second-item.result in
    ap (λ b. cond b second first) (sym c.if-is_zero.false)
    ∙ violation_of_two c.args.slacks.now first second c.is_zero.result c.in-len2-up.len_at_least
    c.first-item.is c.second-item.is c.is_zero.ensures
