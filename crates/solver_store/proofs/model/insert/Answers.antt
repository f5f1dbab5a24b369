use Rattle.std.proofs.Common.{◌∙◌}
use Rattle.solver_store.proofs.SlabLaws.{by_key-updated, get-by_key}
use Rattle.solver_store.proofs.model.insert.Goals as goal

pub returns-clause-free : goal.returns-clause-free
returns-clause-free g c =
    get-by_key c.args.values.now c.in_ok-insert.field-0 ∙ c.in_ok-insert.ensures.was_vacant

pub returns-clause-ok : goal.returns-clause-ok
returns-clause-ok g c =
    by_key-updated c.args.values.now c.insert.new.self c.in_ok-insert.field-0 c.args.value
    c.in_ok-insert.ensures.updates
