use Rattle.std.proofs.Common.{subst, ◌∙◌}
use Rattle.std.specs.Prelude.{All, IsTrue}
use Rattle.std.specs.FinMap as finite
use Rattle.std.proofs.lemmas.List.{take_all}
use Rattle.bridge_plan.proofs.Covers.{one_covered, one_there}
use Rattle.bridge_plan.proofs.functions.make_functions.Goals.{then-is_none+in_ok-function+in-Ok, else-is_none}
use Rattle.bridge_plan.proofs.functions.make_functions.Goals as goal

pub loop-var-preserved : goal.loop-var-preserved
loop-var-preserved c =
    let es = c.args.expressions.now in
    let ts = c.terms-var-items.result.now in
    let l = c.loop-var in
    let t = c.loop-var-item.result in
    elim c.if-is_none.branch [
      | then-is_none+in_ok-function+in-Ok w ↦ one_covered es l.functions c.if-is_none.functions ts
          l.var-index t l.invariant c.loop-var-item.is c.loop-var-test.true
          w.in_ok-function.function w.in_ok-function.ensures (w.functions-is ∙ w.in-Ok.ensures.ok)
      | else-is_none w ↦ one_there es l.functions c.if-is_none.functions ts l.var-index t
          l.invariant c.loop-var-item.is c.loop-var-test.true c.get.result c.is_none.result
          c.get.ensures c.is_none.ensures w.if-is_none.false w.functions-is
    ]

pub returns-clause-each : goal.returns-clause-each
returns-clause-each c =
    let l = c.loop-var in
    subst (All (λ t. IsTrue (finite.contains_key l.functions t.0)))
    (take_all l.var-index c.terms-var-items.result.now c.loop-var-test.false
    ∙ c.terms-var-items.ensures.all) l.invariant.1
