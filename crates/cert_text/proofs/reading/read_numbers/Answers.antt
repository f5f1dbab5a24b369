use Rattle.std.proofs.Common.{Some, ◌∙◌, ap, sym}
use Rattle.cert_text.specs.Left.{variables_left}
use Rattle.cert_text.specs.Reading.{variable_number}
use Rattle.cert_text.proofs.EachLine.{all_read, line_left, missing, more, unread}
use Rattle.cert_text.proofs.reading.read_numbers.Goals as goal

pub returns-in_default : goal.returns-in_default
returns-in_default c =
    missing (variable_number c.args.word.now) c.loop-var.numbers.items
    (variables_left c.loop-var.var-iterator) c.loop-var.lines _ c.loop-var.invariant
    c.in-Some.var.now (variables_left c.next.new.self) c.in-Some.ensures.steps
    c.in_default.ensures.steps.0

pub returns-in_default-2 : goal.returns-in_default-2
returns-in_default-2 c =
    unread (variable_number c.args.word.now) c.loop-var.numbers.items
    (variables_left c.loop-var.var-iterator) c.loop-var.lines _ c.loop-var.invariant
    c.in-Some.var.now (variables_left c.next.new.self) c.in-Some-next.line.now
    c.next-in-loop-var.new.self c.in-Some.ensures.steps c.in-Some-next.ensures.steps
    (sym c.in_ok-number.ensures ∙ c.in_default-2.is)

pub loop-var-preserved : goal.loop-var-preserved
loop-var-preserved c =
    ap (λ made. line_left (variable_number c.args.word.now) made (variables_left c.next.new.self)
    c.next-in-loop-var.new.self) c.in_ok-push.ensures.items
    ∙ more (variable_number c.args.word.now) c.loop-var.numbers.items
    (variables_left c.loop-var.var-iterator) c.loop-var.lines _ c.loop-var.invariant
    c.in-Some.var.now (variables_left c.next.new.self) c.in-Some-next.line.now
    c.next-in-loop-var.new.self c.in-Some-2.number c.in-Some.ensures.steps
    c.in-Some-next.ensures.steps
    (sym c.in_ok-number.ensures ∙ c.in-Some-2.is)

pub returns : goal.returns
returns c =
    ap (λ made. Some (made, c.loop-var.lines)) c.from_vec.ensures
    ∙ all_read (variable_number c.args.word.now) c.loop-var.numbers.items
    (variables_left c.loop-var.var-iterator) c.loop-var.lines _ c.loop-var.invariant
    c.in-None.ensures.steps.0
