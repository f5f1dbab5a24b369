use Rattle.std.proofs.Common.{◌+◌, ◌∷◌, ◌∙◌, ap, arith, drop, sym}
use Rattle.std.proofs.Math.ListN.{drop_of_length-le}
use Rattle.std.proofs.lemmas.List.{drop_more}
use Rattle.cert_text.specs.Left.{variables_left}
use Rattle.cert_text.proofs.Printed.{none_zipped, variables_all, variables_more, zipped_with_none}
use Rattle.cert_text.proofs.printing.push_numbers.Goals as goal

pub loop-number-preserved : goal.loop-number-preserved
loop-number-preserved c =
    let all = c.args.numbers.now in
    let i = c.loop-number.number-index in
    let number = c.number-item.result in
    variables_more (variables_left c.loop-number.variables) (variables_left c.next.new.self)
    (drop i all) (drop (i + 1) all) c.in-Some.var.now number
    c.loop-number.text.items c.push_variable.new.text.items c.loop-number.invariant
    c.in-Some.ensures.steps
    (drop_more all i number c.loop-number-test.true ∙ ap (λ y. y ∷ drop (i + 1) all)
    (sym c.number-item.is))
    c.in_ok-push_variable.ensures.value c.in_ok-push_variable.ensures.reads

pub returns-in_default-clause-reads : goal.returns-in_default-clause-reads
returns-in_default-clause-reads c =
    (variables_all (variables_left c.loop-number.variables)
    (drop c.loop-number.number-index c.args.numbers.now) c.loop-number.text.items
    c.loop-number.invariant
    (none_zipped (variables_left c.loop-number.variables)
    (drop c.loop-number.number-index c.args.numbers.now) c.in_default.ensures.steps.0)).1

pub returns-clause-reads : goal.returns-clause-reads
returns-clause-reads c =
    (variables_all (variables_left c.loop-number.variables)
    (drop c.loop-number.number-index c.args.numbers.now) c.loop-number.text.items
    c.loop-number.invariant
    (zipped_with_none (variables_left c.loop-number.variables)
    (drop c.loop-number.number-index c.args.numbers.now) (drop_of_length-le c.args.numbers.now
    (omega arith)))).1

pub returns-in_default-clause-value : goal.returns-in_default-clause-value
returns-in_default-clause-value c =
    (variables_all (variables_left c.loop-number.variables)
    (drop c.loop-number.number-index c.args.numbers.now) c.loop-number.text.items
    c.loop-number.invariant
    (none_zipped (variables_left c.loop-number.variables)
    (drop c.loop-number.number-index c.args.numbers.now) c.in_default.ensures.steps.0)).0

pub returns-clause-value : goal.returns-clause-value
returns-clause-value c =
    (variables_all (variables_left c.loop-number.variables)
    (drop c.loop-number.number-index c.args.numbers.now) c.loop-number.text.items
    c.loop-number.invariant
    (zipped_with_none (variables_left c.loop-number.variables)
    (drop c.loop-number.number-index c.args.numbers.now) (drop_of_length-le c.args.numbers.now
    (omega arith)))).0
