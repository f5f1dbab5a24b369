use Rattle.std.proofs.Common.{◌∙◌}
use Rattle.model_conflict.proofs.Tried.{none_is_first}
use Rattle.model_conflict.proofs.trials.first_row.Goals as goal

pub unreachable-requires : goal.unreachable-requires
unreachable-requires c =
    none_is_first _ c.requires.1 c.requires.0 c.in-None.ensures.steps.0
    (c.iter.ensures.items ∙ c.rows.ensures.value ∙ c.requires.2.whole)
