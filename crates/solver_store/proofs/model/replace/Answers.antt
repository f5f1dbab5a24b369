use Rattle.std.specs.Prelude.{IsSome}
use Rattle.std.proofs.Common.{arith, subst, ◌∙◌}
use Rattle.solver_store.proofs.SlabLaws.{by_key-replaced, get-by_key}
use Rattle.solver_store.proofs.model.replace.Goals as goal

pub remove-old-requires : goal.remove-old-requires
remove-old-requires g c = subst IsSome (get-by_key c.args.values.now c.args.i) c.requires

pub returns-clause-old : goal.returns-clause-old
returns-clause-old g c = get-by_key c.args.values.now c.args.i ∙ c.remove-old.ensures.value

pub returns-clause-changed : goal.returns-clause-changed
returns-clause-changed g c =
    by_key-replaced c.args.values.now c.remove-old.new.self c.insert_reserved.new.self c.args.i
    c.insert_reserved.result c.args.value c.remove-old.ensures.updates
    c.insert_reserved.ensures.updates (c.insert_reserved.ensures.key
    ∙ c.remove-old.ensures.key_is_next)

pub returns-clause-room : goal.returns-clause-room
returns-clause-room g c =
    omega (
      arith,
      c.remove-old.ensures.len,
      c.remove-old.ensures.capacity,
      c.insert_reserved.ensures.len,
      c.insert_reserved.ensures.capacity,
    )
