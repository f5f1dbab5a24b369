use Rattle.lazy_bridge.proofs.Composing.{edit, handed_on, held_by, of_edit, pushed, refused}
use Rattle.lazy_bridge.specs.Steps.{parts_of}
use Rattle.lazy_bridge.proofs.pushing.push_touched.Goals as goal

pub find_differing-requires : goal.find_differing-requires
find_differing-requires g c = (c.requires.0, c.requires.1.back)

pub plan_touched-requires : goal.plan_touched-requires
plan_touched-requires g c =
    let model = c.requires.0 in
    let start = c.requires.1 in
    let d = c.in_ok-differing.differing in
    let differs = c.in_ok-differing.ensures.differs model start.back in (
      edit c.args.bridges.now c.args.solver.now c.args.map.now c.args.objective_at.now model
          c.args.undos.now c.args.after.now.model start d differs,
      of_edit c.args.bridges.now c.args.solver.now c.args.map.now c.args.objective_at.now model
          c.args.undos.now c.args.after.now.model start d differs c.find_differing.new.reading.model
          c.find_differing.ensures.model,
    )

pub returns-in_err-planned-clause-pushed : goal.returns-in_err-planned-clause-pushed
returns-in_err-planned-clause-pushed g c = λ model start.
    let d = c.in_ok-differing.differing in
    let differs = c.in_ok-differing.ensures.differs model start.back in
    let f = c.in_err-planned.field-0.0 in
    handed_on (parts_of c.args.bridges.now c.args.solver.now c.args.map.now c.args.objective_at.now
    c.args.after.now.reads) model c.args.undos.now c.args.after.now.model start
    c.from_residual-in_err-planned.result f
    (parts_of c.plan_touched.new.bridges c.args.solver.now c.args.map.now c.args.objective_at.now
    c.plan_touched.new.reading.reads)
    c.from_residual-in_err-planned.ensures.1
    (refused c.args.bridges.now c.args.solver.now c.args.map.now c.args.objective_at.now model
    c.args.undos.now c.args.after.now.model start d differs c.args.after.now.reads
    c.plan_touched.new.bridges c.plan_touched.new.reading.reads f c.plan_touched.ensures.means
    (c.in_err-planned.ensures.made
    (edit c.args.bridges.now c.args.solver.now c.args.map.now c.args.objective_at.now model
    c.args.undos.now c.args.after.now.model start d differs)
    (of_edit c.args.bridges.now c.args.solver.now c.args.map.now c.args.objective_at.now model
    c.args.undos.now c.args.after.now.model start d differs c.find_differing.new.reading.model
    c.find_differing.ensures.model)))

pub change_touched-requires : goal.change_touched-requires
change_touched-requires g c =
    let model = c.requires.0 in
    let start = c.requires.1 in
    let d = c.in_ok-differing.differing in
    let differs = c.in_ok-differing.ensures.differs model start.back in (
      edit c.args.bridges.now c.args.solver.now c.args.map.now c.args.objective_at.now model
          c.args.undos.now c.args.after.now.model start d differs,
      held_by c.args.bridges.now c.args.solver.now c.args.map.now c.args.objective_at.now model
          c.args.undos.now c.args.after.now.model start d differs c.plan_touched.new.bridges
          c.plan_touched.ensures.means,
      c.in_ok-planned.ensures.made
          (edit c.args.bridges.now c.args.solver.now c.args.map.now c.args.objective_at.now model
          c.args.undos.now c.args.after.now.model start d differs)
          (of_edit c.args.bridges.now c.args.solver.now c.args.map.now c.args.objective_at.now model
          c.args.undos.now c.args.after.now.model start d differs c.find_differing.new.reading.model
          c.find_differing.ensures.model),
    )

pub returns-clause-pushed : goal.returns-clause-pushed
returns-clause-pushed g c = λ model start.
    let d = c.in_ok-differing.differing in
    let differs = c.in_ok-differing.ensures.differs model start.back in
    let planned = c.in_ok-planned.planned in
    let e = edit c.args.bridges.now c.args.solver.now c.args.map.now c.args.objective_at.now model
    c.args.undos.now c.args.after.now.model start d differs in
    let made = c.in_ok-planned.ensures.made e
    (of_edit c.args.bridges.now c.args.solver.now c.args.map.now c.args.objective_at.now model
    c.args.undos.now c.args.after.now.model start d differs c.find_differing.new.reading.model
    c.find_differing.ensures.model) in
    pushed c.args.bridges.now c.args.solver.now c.args.map.now c.args.objective_at.now model
    c.args.undos.now c.args.after.now.model start d differs planned.standing planned.found.items
    planned.plan made c.plan_touched.new.bridges c.change_touched.new.bridges
    c.change_touched.new.solver c.change_touched.new.map c.change_touched.new.objective_at
    c.in_ok-changed.changed c.args.after.now.reads c.find_differing.new.reading.reads
    c.plan_touched.new.reading.reads c.plan_touched.ensures.means c.change_touched.ensures.setting
    c.in_ok-planned.ensures.turns c.in_ok-differing.ensures.reads c.in_ok-planned.ensures.reads
    (c.in_ok-changed.ensures.changed e
    (held_by c.args.bridges.now c.args.solver.now c.args.map.now c.args.objective_at.now model
    c.args.undos.now c.args.after.now.model start d differs c.plan_touched.new.bridges
    c.plan_touched.ensures.means) made)
