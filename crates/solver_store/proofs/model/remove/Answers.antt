use Rattle.std.specs.Prelude.{IsSome}
use Rattle.std.proofs.Common.{arith, subst, ◌∙◌}
use Rattle.solver_store.proofs.SlabLaws.{by_key-taken, get-by_key}
use Rattle.solver_store.proofs.model.remove.Goals as goal

pub remove-requires : goal.remove-requires
remove-requires g c = subst IsSome (get-by_key c.args.values.now c.args.i) c.requires

pub returns-clause-old : goal.returns-clause-old
returns-clause-old g c = get-by_key c.args.values.now c.args.i ∙ c.remove.ensures.value

pub returns-clause-removed : goal.returns-clause-removed
returns-clause-removed g c =
    by_key-taken c.args.values.now c.remove.new.self c.args.i c.remove.ensures.updates

pub returns-clause-room : goal.returns-clause-room
returns-clause-room g c = omega (arith, c.remove.ensures.len, c.remove.ensures.capacity)
