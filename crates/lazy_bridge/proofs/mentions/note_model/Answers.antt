use Rattle.std.proofs.Common.{rules}
use Rattle.lazy_bridge.proofs.Noting.{indexed, noted_if}
use Rattle.lazy_bridge.proofs.mentions.note_model.Goals as goal

pub returns-clause-index : goal.returns-clause-index
returns-clause-index c =
    noted_if c.note_objective.result
    (indexed c.args.model.now.model c.rows.result.now.items c.objective.result.now
    _ c.note_rows.new.map.noted c.note_objective.new.map.noted
    c.rows.ensures.value c.objective.ensures.value c.in_ok-note_rows.ensures.noted
    (search rules))
    c.note_objective.ensures.noted
