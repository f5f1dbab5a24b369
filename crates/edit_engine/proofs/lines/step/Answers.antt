use Rattle.std.proofs.Common.{◌≡◌, Ok, ap, refl, subst}
use Rattle.std.specs.Prelude.{IfOk}
use Rattle.cache_layer.specs.Cached.{state_of}
use Rattle.edit_engine.proofs.Asking.{asked_by, command_asks, command_sound, unasked_by, unread_asks}
use Rattle.edit_engine.proofs.lines.step.Goals as goal
use Rattle.edit_engine.specs.Script.{group_after, machine_by}
use Rattle.edit_engine.proofs.Grouped.{refused_stays}
use Rattle.report_core.specs.declared.refused.Place.TheVariants.{Line}
use Rattle.report_core.specs.declared.refused.Refused.TheVariants as reason
use Rattle.script_core.specs.Line.{line_said}
use Rattle.io_face.specs.Told.{told_by}
use Rattle.script_core.specs.declared.fault.LineFault.TheVariants.{BadLine, Overflow}
use Rattle.edit_engine.proofs.FewTold.{few_stays}

pub returns-in-Ok-clause-cause : goal.returns-in-Ok-clause-cause
returns-in-Ok-clause-cause g c = λ fault.
    let shelf = told_by (g.H.Shelf.files c.args.shelf.now) (g.H.Shelf.sure c.args.shelf.now) in
    c.obey.ensures.cause
    (asked_by (machine_by (state_of c.args.cache.now) c.args.group.now c.args.pivots shelf)
    (Ok c.in-Ok.command)
    c.obey.result (state_of c.obey.new.cache) c.obey.ensures.step fault) fault

pub returns-in-Ok-clause-unasked : goal.returns-in-Ok-clause-unasked
returns-in-Ok-clause-unasked g c = λ off.
    c.obey.ensures.unasked
    (unasked_by c.args.line.now c.in-Ok.command c.in-Ok.ensures off)

pub returns-in-Ok-clause-sound : goal.returns-in-Ok-clause-sound
returns-in-Ok-clause-sound g c = λ other.
    command_sound _ c.in-Ok.command (λ on. c.obey.ensures.sound on other)
    (λ off. ap g.H.Shelf.faults (c.obey.ensures.unasked off))

pub returns-in-Ok-clause-asks : goal.returns-in-Ok-clause-asks
returns-in-Ok-clause-asks g c =
    command_asks _ _
    (machine_by (state_of c.args.cache.now) c.args.group.now c.args.pivots
    (told_by (g.H.Shelf.files c.args.shelf.now) (g.H.Shelf.sure c.args.shelf.now)))
    c.args.line.now c.in-Ok.command c.obey.result
    c.in-Ok.ensures c.obey.ensures.asks
    (λ off. ap g.H.Shelf.asked (c.obey.ensures.unasked off))

pub returns-in-Err-BadLine-clause-asks : goal.returns-in-Err-BadLine-clause-asks
returns-in-Err-BadLine-clause-asks g c =
    unread_asks (g.H.Shelf.asked c.args.shelf.now)
    (machine_by (state_of c.args.cache.now) c.args.group.now c.args.pivots
    (told_by (g.H.Shelf.files c.args.shelf.now) (g.H.Shelf.sure c.args.shelf.now)))
    c.args.line.now
    BadLine c.refuse.result (rw c.in-Err-BadLine.field-0-is at c.in-Err-BadLine.ensures)

pub returns-in-Err-Overflow-clause-asks : goal.returns-in-Err-Overflow-clause-asks
returns-in-Err-Overflow-clause-asks g c =
    unread_asks (g.H.Shelf.asked c.args.shelf.now)
    (machine_by (state_of c.args.cache.now) c.args.group.now c.args.pivots
    (told_by (g.H.Shelf.files c.args.shelf.now) (g.H.Shelf.sure c.args.shelf.now)))
    c.args.line.now
    Overflow c.refuse-in-Err-Overflow.result
    (rw c.in-Err-Overflow.field-0-is at c.in-Err-Overflow.ensures)

pub returns-in-Err-BadLine-clause-few : goal.returns-in-Err-BadLine-clause-few
returns-in-Err-BadLine-clause-few g c =
    few_stays c.refuse.result c.args.cache.now.lazy c.args.cache.now.lazy refl

pub returns-in-Err-Overflow-clause-few : goal.returns-in-Err-Overflow-clause-few
returns-in-Err-Overflow-clause-few g c =
    few_stays c.refuse-in-Err-Overflow.result c.args.cache.now.lazy c.args.cache.now.lazy refl

pub returns-in-Ok-clause-group : goal.returns-in-Ok-clause-group
returns-in-Ok-clause-group g c =
    subst (λ said. IfOk c.obey.result (λ answer.
    c.obey.new.group ≡ group_after c.args.group.now said answer)) c.in-Ok.ensures
    c.obey.ensures.group

pub returns-in-Err-BadLine-clause-group : goal.returns-in-Err-BadLine-clause-group
returns-in-Err-BadLine-clause-group g c =
    refused_stays c.refuse.result c.args.group.now (line_said c.args.line.now) reason.BadLine
    c.refuse.ensures

pub returns-in-Err-Overflow-clause-group : goal.returns-in-Err-Overflow-clause-group
returns-in-Err-Overflow-clause-group g c =
    refused_stays c.refuse-in-Err-Overflow.result c.args.group.now (line_said c.args.line.now)
    (reason.Overflow Line) c.refuse-in-Err-Overflow.ensures
