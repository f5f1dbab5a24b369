use Rattle.std.proofs.Common.{arith, false, ◌∙◌}
use Rattle.std.proofs.lemmas.List.{length-set}
use Rattle.item_core.specs.Kind.{kind_count}
use Rattle.bridge_set.specs.Bridges.{choice_in}
use Rattle.table_change.specs.ChangedKinds.{is_changed}
use Rattle.table_change.proofs.ChangedSteps.{few_kinds, put_next}
use Rattle.table_change.proofs.changed.changed_kinds.Goals as goal

pub loop-n-preserved : goal.loop-n-preserved
loop-n-preserved c =
    let l = c.loop-n in (
      length-set l.changed l.n c.is_changed.result ∙ l.invariant.0,
      put_next false l.changed l.n c.is_changed.result
          (is_changed (choice_in c.args.choices.now) (choice_in c.args.others.now) kind_count)
          c.kind_numbered.result (omega (arith, l.invariant.0, c.loop-n-test.true))
          c.kind_numbered.ensures c.is_changed.ensures l.invariant.1,
    )

pub returns-clause-each : goal.returns-clause-each
returns-clause-each c = λ kind.
    c.loop-n.invariant.1 kind (omega (arith, few_kinds kind, c.loop-n-test.false))
