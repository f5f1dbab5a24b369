use Rattle.std.proofs.Common.{sym, ◌∙◌}
use Rattle.relaxation.proofs.RowLemmas.{hard_signs, soft_signs}
use Rattle.relaxation.proofs.rows.slacks_of.Goals as goal

pub returns-then-is_soft : goal.returns-then-is_soft
returns-then-is_soft c =
    c.slacks_on.ensures
    ∙ sym (soft_signs c.args.row.now (sym c.is_soft.ensures ∙ c.if-is_soft.true))

pub returns-else-is_soft : goal.returns-else-is_soft
returns-else-is_soft c =
    sym (hard_signs c.args.row.now (sym c.is_soft.ensures ∙ c.if-is_soft.false))
