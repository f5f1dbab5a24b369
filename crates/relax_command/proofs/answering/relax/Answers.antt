use Rattle.std.proofs.Common.{ap, subst, sym, ◌∙◌}
use Rattle.limit_laws.specs.Limits.{LimitsAlone}
use Rattle.model_load.specs.Loads.{after_edits}
use Rattle.relax_command.proofs.Made.{relaxed_made}
use Rattle.relax_command.proofs.answering.relax.Goals as goal

pub returns-in-Ok : goal.returns-in-Ok
returns-in-Ok c =
    let same = c.into_vec.ensures in
    relaxed_made c.args.model.now c.make_all.new.model c.rows-valid.ensures.valid
    c.into_vec.result.items (same ∙ c.in-Ok.ensures.edits)
    (λ m h. c.in-Ok.ensures.leads m (sym (ap (after_edits c.args.model.now.model) same) ∙ h))
    (subst (LimitsAlone c.args.model.now.model) (sym same) c.in-Ok.ensures.limits)
    c.make_all.result c.make_all.ensures
