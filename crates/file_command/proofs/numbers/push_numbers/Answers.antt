use Rattle.std.proofs.Common.{◌+◌, ◌∷◌, ◌∙◌, ap, arith, drop, sym}
use Rattle.std.proofs.Math.ListN.{drop_of_length-le}
use Rattle.std.proofs.lemmas.List.{drop_more}
use Rattle.file_command.specs.Left.{variables_left}
use Rattle.file_command.proofs.Listed.{no_numbers, no_variables, numbers_more}
use Rattle.file_command.proofs.numbers.push_numbers.Goals as goal

pub loop-number-preserved : goal.loop-number-preserved
loop-number-preserved c =
    let all = c.args.numbers.now in
    let i = c.loop-number.number-index in
    let number = c.number-item.result in
    numbers_more c.args.beginning.now (variables_left c.loop-number.variables)
    (variables_left c.next.new.self) (drop i all) (drop (i + 1) all) c.in-Some.var.now number
    c.loop-number.draft c.push_number.new.draft _ c.loop-number.invariant c.in-Some.ensures.steps
    (drop_more all i number c.loop-number-test.true ∙ ap (λ y. y ∷ drop (i + 1) all)
    (sym c.number-item.is))
    c.in_ok-push_number.ensures

pub returns-in_default : goal.returns-in_default
returns-in_default c =
    no_variables c.args.beginning.now (variables_left c.loop-number.variables)
    (drop c.loop-number.number-index c.args.numbers.now) c.loop-number.draft _
    c.loop-number.invariant c.in_default.ensures.steps.0

pub returns : goal.returns
returns c =
    no_numbers c.args.beginning.now (variables_left c.loop-number.variables)
    (drop c.loop-number.number-index c.args.numbers.now) c.loop-number.draft _
    c.loop-number.invariant (drop_of_length-le c.args.numbers.now (omega arith))
