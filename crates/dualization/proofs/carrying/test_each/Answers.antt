use Rattle.std.specs.Prelude.{◌+◌, [], ◌∷◌, drop}
use Rattle.std.proofs.Common.{◌∙◌, ap, sym}
use Rattle.std.proofs.Math.ListN.{drop_of_length-le}
use Rattle.std.proofs.lemmas.List.{drop_more}
use Rattle.dualization.proofs.CarryLemmas.{AllLeft, First, one_left, one_unfit, tested_all, tested_more, tested_unfit}
use Rattle.dualization.proofs.ToldLemmas.{told_variable}
use Rattle.dualization.proofs.carrying.test_each.Goals as goal

pub returns-in-Err-Overflow : goal.returns-in-Err-Overflow
returns-in-Err-Overflow c =
    let model = c.args.model.now.model in
    let duals = c.args.duals.now in
    let vars = c.args.vars.now in
    let i = c.loop-var.var-index in
    let v = c.var-item.result in
    let unfit = rw c.in-Err-Overflow.field-0-is at c.in-Err-Overflow.ensures in
    let split = drop_more vars i v c.loop-var-test.true
    ∙ ap (λ x. x ∷ drop (i + 1) vars) (sym c.var-item.is) in
    told_variable (λ _. AllLeft model duals vars) (λ _. ⊥) (First model duals vars)
    c.at_variable.result v.name c.at_variable.ensures
    (tested_unfit model duals vars (drop i vars) (v ∷ []) (drop (i + 1) vars) split
    c.loop-var.invariant v.name (one_unfit model duals v unfit))

pub loop-var-preserved : goal.loop-var-preserved
loop-var-preserved c =
    let model = c.args.model.now.model in
    let duals = c.args.duals.now in
    let vars = c.args.vars.now in
    let i = c.loop-var.var-index in
    let v = c.var-item.result in
    let split = drop_more vars i v c.loop-var-test.true
    ∙ ap (λ x. x ∷ drop (i + 1) vars) (sym c.var-item.is) in
    tested_more model duals vars (drop i vars) (v ∷ []) (drop (i + 1) vars) split
    (one_left model duals v c.in-Ok.ensures.0) c.loop-var.invariant

pub returns : goal.returns
returns c =
    let vars = c.args.vars.now in
    tested_all c.args.model.now.model c.args.duals.now vars (drop c.loop-var.var-index vars)
    (drop_of_length-le vars c.loop-var-test.false) c.loop-var.invariant
