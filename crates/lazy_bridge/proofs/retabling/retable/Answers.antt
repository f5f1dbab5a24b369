use Rattle.lazy_bridge.proofs.TableSteps.{edit, handed_by, held_by, of_edit, refused, retabled}
use Rattle.lazy_bridge.proofs.retabling.retable.Goals as goal

pub plan_touched-requires : goal.plan_touched-requires
plan_touched-requires g c =
    let table = c.requires.0 in
    let start = c.requires.1 in
    let d = c.in_ok-differing.differing in
    let e = edit c.args.bridges.now table c.args.before.now c.args.solver.now c.args.map.now
    c.args.objective_at.now c.args.model.now.model start c.list_choices-now.result
    c.list_choices-now.ensures.each c.changed_kinds-kinds.result c.changed_kinds-kinds.ensures.each d
    c.in_ok-differing.ensures.before c.in_ok-differing.ensures.after in
    let is = of_edit c.args.bridges.now table c.args.before.now c.args.solver.now c.args.map.now
    c.args.objective_at.now c.args.model.now.model start c.list_choices-now.result
    c.list_choices-now.ensures.each c.changed_kinds-kinds.result c.changed_kinds-kinds.ensures.each d
    c.in_ok-differing.ensures.before c.in_ok-differing.ensures.after
    c.new-reading.result.model c.new-reading.ensures.model in
    (e, is)

pub returns-in_err-planned : goal.returns-in_err-planned
returns-in_err-planned g c = record {
  retabled = λ table start.
      let d = c.in_ok-differing.differing in
      let e = edit c.args.bridges.now table c.args.before.now c.args.solver.now c.args.map.now
      c.args.objective_at.now c.args.model.now.model start c.list_choices-now.result
      c.list_choices-now.ensures.each c.changed_kinds-kinds.result c.changed_kinds-kinds.ensures.each d
      c.in_ok-differing.ensures.before c.in_ok-differing.ensures.after in
      let is = of_edit c.args.bridges.now table c.args.before.now c.args.solver.now c.args.map.now
      c.args.objective_at.now c.args.model.now.model start c.list_choices-now.result
      c.list_choices-now.ensures.each c.changed_kinds-kinds.result c.changed_kinds-kinds.ensures.each d
      c.in_ok-differing.ensures.before c.in_ok-differing.ensures.after
      c.new-reading.result.model c.new-reading.ensures.model in
      let f = c.in_err-planned.field-0.0 in
      handed_by c.args.bridges.now table c.args.before.now c.args.solver.now c.args.map.now
      c.args.objective_at.now c.args.model.now.model start
      c.from_residual-in_err-planned.result f c.plan_touched.new.bridges c.args.solver.now c.args.map.now
      c.args.objective_at.now c.from_residual-in_err-planned.ensures.1
      (refused c.args.bridges.now table c.args.before.now c.args.solver.now c.args.map.now
      c.args.objective_at.now c.args.model.now.model start c.list_choices-now.result
      c.list_choices-now.ensures.each c.changed_kinds-kinds.result c.changed_kinds-kinds.ensures.each d
      c.in_ok-differing.ensures.before c.in_ok-differing.ensures.after
      c.plan_touched.new.bridges f c.plan_touched.ensures.means
      (c.in_err-planned.ensures.made e is));
}

pub change_touched-requires : goal.change_touched-requires
change_touched-requires g c =
    let table = c.requires.0 in
    let start = c.requires.1 in
    let d = c.in_ok-differing.differing in
    let e = edit c.args.bridges.now table c.args.before.now c.args.solver.now c.args.map.now
    c.args.objective_at.now c.args.model.now.model start c.list_choices-now.result
    c.list_choices-now.ensures.each c.changed_kinds-kinds.result c.changed_kinds-kinds.ensures.each d
    c.in_ok-differing.ensures.before c.in_ok-differing.ensures.after in
    let is = of_edit c.args.bridges.now table c.args.before.now c.args.solver.now c.args.map.now
    c.args.objective_at.now c.args.model.now.model start c.list_choices-now.result
    c.list_choices-now.ensures.each c.changed_kinds-kinds.result c.changed_kinds-kinds.ensures.each d
    c.in_ok-differing.ensures.before c.in_ok-differing.ensures.after
    c.new-reading.result.model c.new-reading.ensures.model in
    let held = held_by c.args.bridges.now table c.args.before.now c.args.solver.now c.args.map.now
    c.args.objective_at.now c.args.model.now.model start c.list_choices-now.result
    c.list_choices-now.ensures.each c.changed_kinds-kinds.result c.changed_kinds-kinds.ensures.each d
    c.in_ok-differing.ensures.before c.in_ok-differing.ensures.after
    c.plan_touched.new.bridges c.plan_touched.ensures.means in
    (e, held, c.in_ok-planned.ensures.made e is)

pub returns : goal.returns
returns g c = record {
  retabled = λ table start.
      let d = c.in_ok-differing.differing in
      let e = edit c.args.bridges.now table c.args.before.now c.args.solver.now c.args.map.now
      c.args.objective_at.now c.args.model.now.model start c.list_choices-now.result
      c.list_choices-now.ensures.each c.changed_kinds-kinds.result c.changed_kinds-kinds.ensures.each d
      c.in_ok-differing.ensures.before c.in_ok-differing.ensures.after in
      let is = of_edit c.args.bridges.now table c.args.before.now c.args.solver.now c.args.map.now
      c.args.objective_at.now c.args.model.now.model start c.list_choices-now.result
      c.list_choices-now.ensures.each c.changed_kinds-kinds.result c.changed_kinds-kinds.ensures.each d
      c.in_ok-differing.ensures.before c.in_ok-differing.ensures.after
      c.new-reading.result.model c.new-reading.ensures.model in
      let held = held_by c.args.bridges.now table c.args.before.now c.args.solver.now c.args.map.now
      c.args.objective_at.now c.args.model.now.model start c.list_choices-now.result
      c.list_choices-now.ensures.each c.changed_kinds-kinds.result c.changed_kinds-kinds.ensures.each d
      c.in_ok-differing.ensures.before c.in_ok-differing.ensures.after
      c.plan_touched.new.bridges c.plan_touched.ensures.means in
      let planned = c.in_ok-planned.planned in
      let made = c.in_ok-planned.ensures.made e is in
      retabled c.args.bridges.now table c.args.before.now c.args.solver.now c.args.map.now
      c.args.objective_at.now c.args.model.now.model start c.list_choices-now.result
      c.list_choices-now.ensures.each c.changed_kinds-kinds.result c.changed_kinds-kinds.ensures.each d
      c.in_ok-differing.ensures.before c.in_ok-differing.ensures.after
      planned.standing planned.found.items planned.plan made c.plan_touched.new.bridges
      c.change_touched.new.bridges c.change_touched.new.solver c.change_touched.new.map
      c.change_touched.new.objective_at c.in_ok-changed.changed c.plan_touched.ensures.means
      c.change_touched.ensures.setting c.in_ok-planned.ensures.turns
      (c.in_ok-changed.ensures.changed e held made);
}
