use Rattle.std.proofs.Common.{[], ap, map, ◌∙◌}
use Rattle.std.specs.Borrow.{Bor}
use Rattle.user_model.specs.declared.row.Row.{Row}
use Rattle.mapped_model.proofs.Making.{unused_failed}
use Rattle.mapped_model.proofs.mapping.planned.Goals as goal

pub planned_with-requires-clause-right : goal.planned_with-requires-clause-right
planned_with-requires-clause-right c = c.in-Ok.ensures.0

pub planned_with-requires-clause-rows : goal.planned_with-requires-clause-rows
planned_with-requires-clause-rows c =
    ap (map (λ (r : Bor Row). r.now)) c.deref.ensures.value ∙ c.in-Ok.ensures.1

pub returns-in-Err : goal.returns-in-Err
returns-in-Err c =
    unused_failed record { model = c.args.model.now.model; parked = [] } c.args.file.now
    c.in-Err.fault c.in-Err.ensures
