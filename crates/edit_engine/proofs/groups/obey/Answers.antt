use Rattle.std.proofs.Common.{List, Ok, Option, ap, subst, sym, ◌∙◌}
use Rattle.std.specs.Prelude.{IfOk, None, OnOk, Some, ◌&&◌, ◌≡◌}
use Rattle.cache_layer.specs.Cached.{state_of}
use Rattle.edit_engine.specs.Lines.{asks_by}
use Rattle.edit_engine.specs.Script.{DoesBy, Makes, group_after, is_printed, machine_by}
use Rattle.edit_engine.proofs.Grouped.{closes, opened, stays_open}
use Rattle.edit_engine.proofs.groups.obey.Goals as goal
use Rattle.io_face.specs.Shelf.{AsksFor}
use Rattle.io_face.specs.Told.{Told, told_by}
use Rattle.user_model.specs.declared.edit.Edit.{Edit}

-- ---- no group is open

pub returns-in-None-clause-step : goal.returns-in-None-clause-step
returns-in-None-clause-step g c =
    let old = state_of c.args.cache.now in
    let told : Told =
    told_by (g.H.Shelf.files c.args.shelf.now) (g.H.Shelf.sure c.args.shelf.now) in
    subst (λ (o : Option (List Edit)). Makes
    (DoesBy o (machine_by old o c.args.pivots told) c.args.command) old c.obey_alone.result
    (state_of c.obey_alone.new.cache)) (sym c.in-None.is) c.obey_alone.ensures.step

pub returns-in-None-clause-group : goal.returns-in-None-clause-group
returns-in-None-clause-group g c =
    let old = state_of c.args.cache.now in
    let told : Told =
    told_by (g.H.Shelf.files c.args.shelf.now) (g.H.Shelf.sure c.args.shelf.now) in
    subst (λ (o : Option (List Edit)). IfOk c.obey_alone.result (λ answer.
    c.open_for.new.group ≡ group_after o (Ok c.args.command) answer)) (sym c.in-None.is)
    (opened (machine_by old None c.args.pivots told) c.args.command c.obey_alone.result old
    (state_of c.obey_alone.new.cache) c.open_for.new.group c.obey_alone.ensures.step
    c.open_for.ensures)

pub returns-in-None-clause-asks : goal.returns-in-None-clause-asks
returns-in-None-clause-asks g c = λ on.
    subst (λ (o : Option (List Edit)). OnOk c.obey_alone.result
    (AsksFor (g.H.Shelf.asked c.args.shelf.now) (g.H.Shelf.asked c.obey_alone.new.shelf)
    (asks_by o (state_of c.args.cache.now) (Ok c.args.command)))) (sym c.in-None.is)
    (c.obey_alone.ensures.asks on)

-- ---- a group is open

pub returns-then-closes-clause-group : goal.returns-then-closes-clause-group
returns-then-closes-clause-group g c =
    subst (λ (o : Option (List Edit)).
    None ≡ group_after o (Ok c.args.command) c.in_ok-answer-in-Some.answer) (sym c.in-Some.is)
    (closes c.in-Some.edits c.args.command c.in_ok-answer-in-Some.answer
    (ap (λ b. b && is_printed c.in_ok-answer-in-Some.answer) (sym c.ends_group-may_close.ensures)
    ∙ sym c.closes.ensures ∙ c.if-closes.true))

pub returns-else-closes-clause-group : goal.returns-else-closes-clause-group
returns-else-closes-clause-group g c =
    subst (λ (o : Option (List Edit)). Some c.obey_in_group.new.edits
    ≡ group_after o (Ok c.args.command) c.in_ok-answer-in-Some.answer) (sym c.in-Some.is)
    (stays_open c.in-Some.edits c.obey_in_group.new.edits c.args.command
    c.in_ok-answer-in-Some.answer c.in_ok-answer-in-Some.ensures.edits
    (ap (λ b. b && is_printed c.in_ok-answer-in-Some.answer) (sym c.ends_group-may_close.ensures)
    ∙ sym c.closes.ensures ∙ c.if-closes.false))
