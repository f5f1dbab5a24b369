use Rattle.std.specs.Prelude.{◌++◌}
use Rattle.std.proofs.Common.{◌∙◌, ap, sym}
use Rattle.user_model.specs.Model.{variables}
use Rattle.certificates.specs.Points.{variables_of}
use Rattle.dualization.proofs.CarryLemmas.{AllLeft, First, tested_all, tested_more, tested_unfit}
use Rattle.dualization.proofs.ToldLemmas.{told_passed}
use Rattle.dualization.proofs.carrying.test_groups.Goals as goal

pub loop-group-preserved : goal.loop-group-preserved
loop-group-preserved c =
    let model = c.args.model.now.model in
    tested_more model c.args.duals.now (variables model) (variables_of c.loop-group.group-iterator)
    c.as_slice.result.now (variables_of c.next.new.self)
    (ap variables_of c.in-Some.ensures.steps
    ∙ ap (λ vs. vs ++ variables_of c.next.new.self) (sym c.as_slice.ensures))
    c.in_ok-test_each.ensures c.loop-group.invariant

pub returns-in_err-test_each : goal.returns-in_err-test_each
returns-in_err-test_each c =
    let model = c.args.model.now.model in
    let duals = c.args.duals.now in
    told_passed c.from_residual.result c.in_err-test_each.field-0.0
    (λ _. AllLeft model duals c.as_slice.result.now) (λ _. AllLeft model duals (variables model))
    (λ _. ⊥) (First model duals c.as_slice.result.now) (λ _. ⊥) (First model duals (variables model))
    c.from_residual.ensures.1 c.in_err-test_each.ensures (λ name h. h)
    (tested_unfit model duals (variables model) (variables_of c.loop-group.group-iterator)
    c.as_slice.result.now (variables_of c.next.new.self)
    (ap variables_of c.in-Some.ensures.steps
    ∙ ap (λ vs. vs ++ variables_of c.next.new.self) (sym c.as_slice.ensures))
    c.loop-group.invariant)

pub returns : goal.returns
returns c =
    let model = c.args.model.now.model in
    tested_all model c.args.duals.now (variables model) (variables_of c.loop-group.group-iterator)
    (ap variables_of c.in-None.ensures.steps.0) c.loop-group.invariant
