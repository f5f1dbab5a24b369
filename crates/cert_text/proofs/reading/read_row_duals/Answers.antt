use Rattle.std.proofs.Common.{Some, ◌∙◌, ap, sym}
use Rattle.cert_text.specs.Reading.{duals_of}
use Rattle.cert_text.proofs.EachLine.{all_read, line_left, missing, more, unread}
use Rattle.cert_text.proofs.reading.read_row_duals.Goals as goal

pub returns-in_default : goal.returns-in_default
returns-in_default c =
    missing duals_of c.loop-row.duals.items c.loop-row.row-iterator c.loop-row.lines _
    c.loop-row.invariant c.in-Some.row.now c.next.new.self c.in-Some.ensures.steps
    c.in_default.ensures.steps.0

pub returns-in_default-2 : goal.returns-in_default-2
returns-in_default-2 c =
    unread duals_of c.loop-row.duals.items c.loop-row.row-iterator c.loop-row.lines _
    c.loop-row.invariant c.in-Some.row.now c.next.new.self c.in-Some-next.line.now
    c.next-in-loop-row.new.self c.in-Some.ensures.steps c.in-Some-next.ensures.steps
    (sym c.in_ok-own.ensures ∙ c.in_default-2.is)

pub loop-row-preserved : goal.loop-row-preserved
loop-row-preserved c =
    ap (λ made. line_left duals_of made c.next.new.self c.next-in-loop-row.new.self)
    c.in_ok-push.ensures.items
    ∙ more duals_of c.loop-row.duals.items c.loop-row.row-iterator c.loop-row.lines _
    c.loop-row.invariant c.in-Some.row.now c.next.new.self c.in-Some-next.line.now
    c.next-in-loop-row.new.self c.in-Some-2.own c.in-Some.ensures.steps
    c.in-Some-next.ensures.steps (sym c.in_ok-own.ensures ∙ c.in-Some-2.is)

pub returns : goal.returns
returns c =
    ap (λ made. Some (made, c.loop-row.lines)) c.from_vec.ensures
    ∙ all_read duals_of c.loop-row.duals.items c.loop-row.row-iterator c.loop-row.lines _
    c.loop-row.invariant c.in-None.ensures.steps.0
