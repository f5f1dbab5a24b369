use Rattle.std.proofs.Common.{arith, ◌∙◌}
use Rattle.std.proofs.lemmas.List.{length-set}
use Rattle.bridge_graph.specs.declared.Choice.TheVariants.{Missing}
use Rattle.item_core.specs.Kind.{kind_number}
use Rattle.table_change.proofs.ChangedSteps.{few_kinds, put_next}
use Rattle.table_change.proofs.changed.list_choices.Goals as goal

pub loop-n-preserved : goal.loop-n-preserved
loop-n-preserved g c =
    let l = c.loop-n in (
      length-set l.choices l.n c.choice.result ∙ l.invariant.0,
      put_next Missing l.choices l.n c.choice.result
          (λ kind. (g.R.Rewriter.means c.args.rewriter.now).choice (kind_number kind))
          c.kind_numbered.result (omega (arith, l.invariant.0, c.loop-n-test.true))
          c.kind_numbered.ensures c.choice.ensures l.invariant.1,
    )

pub returns-clause-each : goal.returns-clause-each
returns-clause-each g c = λ kind.
    c.loop-n.invariant.1 kind (omega (arith, few_kinds kind, c.loop-n-test.false))
