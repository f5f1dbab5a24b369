use Rattle.std.proofs.Common.{Some, None, ap, cond, sym, ◌∙◌}
use Rattle.std.specs.Option.{option_copied}
use Rattle.mapped_model.proofs.UsedSteps.{usable_when}
use Rattle.mapped_model.proofs.used.take_usable.Goals as goal

pub returns-then-fits-clause-value : goal.returns-then-fits-clause-value
returns-then-fits-clause-value c =
    sym (usable_when c.args.file.now.maps c.args.use_.now _ c.in_ok-row.row.now c.size_at.result
    c.is_free_vector-fits.result (ap option_copied (sym c.in_ok-row.ensures.value))
    c.size_at.ensures c.is_free_vector-fits.ensures
    ∙ ap (λ b. cond b (Some c.in_ok-row.row.now) None) c.if-fits.true)

pub returns-else-fits-clause-value : goal.returns-else-fits-clause-value
returns-else-fits-clause-value c =
    sym (usable_when c.args.file.now.maps c.args.use_.now _ c.in_ok-row.row.now c.size_at.result
    c.is_free_vector-fits.result (ap option_copied (sym c.in_ok-row.ensures.value))
    c.size_at.ensures c.is_free_vector-fits.ensures
    ∙ ap (λ b. cond b (Some c.in_ok-row.row.now) None) c.if-fits.false)
