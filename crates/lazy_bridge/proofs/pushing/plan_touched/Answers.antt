use Rattle.std.proofs.Common.{refl}
use Rattle.bridge_set.specs.Bridges.{means_of}
use Rattle.lazy_bridge.proofs.Planning.{adds_seen, edit_later, fit_seen, groups_can, groups_overflow, groups_planned, groups_refused, handed_made, none_seen, overflow_seen, refusal_seen, trees_of, within_seen}
use Rattle.lazy_bridge.proofs.pushing.plan_touched.Goals as goal

pub returns-in_err-check_found_groups-clause-made :
    goal.returns-in_err-check_found_groups-clause-made
returns-in_err-check_found_groups-clause-made g c = λ e of.
    handed_made e c.from_residual.result c.in_err-check_found_groups.field-0.0
    c.from_residual.ensures.1
    (groups_refused e c.args.bridges.now c.args.map.now c.args.reading.now.model
    c.args.differing.now of
    (Unit {0}) c.in_err-check_found_groups.field-0.0
    (refusal_seen (means_of c.args.bridges.now).choice c.deref.result.now c.args.differing.now.after.groups.items
    c.deref.ensures.value (Unit {0}) c.in_err-check_found_groups.field-0.0
    c.in_err-check_found_groups.ensures))

pub plan_found_groups-requires : goal.plan_found_groups-requires
plan_found_groups-requires g c =
    within_seen (means_of c.args.bridges.now).choice c.deref-2.result.now c.args.differing.now.after.groups.items
    c.deref-2.ensures.value
    (groups_can c.requires.0 c.args.bridges.now c.args.map.now c.args.reading.now.model
    c.args.differing.now c.requires.1
    (none_seen (means_of c.args.bridges.now).choice
    c.deref.result.now c.args.differing.now.after.groups.items c.deref.ensures.value
    c.in_ok-check_found_groups.ensures))

pub returns-in_err-check_all-in-Err-clause-made : goal.returns-in_err-check_all-in-Err-clause-made
returns-in_err-check_all-in-Err-clause-made g c = λ e of.
    handed_made e c.from_residual-in_err-check_all-in-Err.result c.in_err-check_all-in-Err.field-0.0
    c.from_residual-in_err-check_all-in-Err.ensures.1
    (c.in_err-check_all-in-Err.ensures.passed e
    (edit_later e c.args.bridges.now c.plan_found_groups.new.rewriter c.args.map.now
    c.args.reading.now.model c.args.reading.now.model c.args.differing.now
    c.plan_found_groups.ensures.means refl of)
    (trees_of e c.args.bridges.now c.args.map.now c.args.reading.now.model
    c.args.differing.now of
    (none_seen (means_of c.args.bridges.now).choice
    c.deref.result.now c.args.differing.now.after.groups.items c.deref.ensures.value
    c.in_ok-check_found_groups.ensures)))

pub returns-in-Err-clause-made : goal.returns-in-Err-clause-made
returns-in-Err-clause-made g c = λ e of.
    groups_overflow e c.args.bridges.now c.args.map.now c.args.reading.now.model
    c.args.differing.now of
    _ c.in-Err.fault (λ _. Unit {0})
    (overflow_seen (means_of c.args.bridges.now).choice c.deref-2.result.now c.args.differing.now.after.groups.items
    c.deref-2.ensures.value _ c.in-Err.fault _ (λ _. Unit {0}) c.in-Err.ensures.answer)
    (c.in_ok-check_all-in-Err.ensures.passed e
    (edit_later e c.args.bridges.now c.plan_found_groups.new.rewriter c.args.map.now
    c.args.reading.now.model c.args.reading.now.model c.args.differing.now
    c.plan_found_groups.ensures.means refl of)
    (trees_of e c.args.bridges.now c.args.map.now c.args.reading.now.model
    c.args.differing.now of
    (none_seen (means_of c.args.bridges.now).choice
    c.deref.result.now c.args.differing.now.after.groups.items c.deref.ensures.value
    c.in_ok-check_found_groups.ensures)))

pub plan_found-requires : goal.plan_found-requires
plan_found-requires g c = (
  c.requires.0,
  edit_later c.requires.0 c.args.bridges.now c.plan_found_groups.new.rewriter c.args.map.now
      c.args.reading.now.model c.args.reading.now.model c.args.differing.now
      c.plan_found_groups.ensures.means refl c.requires.1,
  (groups_planned c.requires.0 c.args.bridges.now c.args.map.now c.args.reading.now.model
      c.args.differing.now
      c.requires.1 c.in_ok-plan.plan c.plan_found_groups.new.plan c.in-Ok.entries.items
      c.in_ok-standing.standing c.in_ok-plan.ensures.leaves c.in_ok-plan.ensures.nodes
      (none_seen (means_of c.args.bridges.now).choice
      c.deref.result.now c.args.differing.now.after.groups.items c.deref.ensures.value
      c.in_ok-check_found_groups.ensures)
      (fit_seen (means_of c.args.bridges.now).choice c.deref-2.result.now c.args.differing.now.after.groups.items
      c.deref-2.ensures.value c.in-Ok.ensures.answer.0)
      (adds_seen (means_of c.args.bridges.now).choice c.deref-2.result.now c.args.differing.now.after.groups.items
      c.deref-2.ensures.value c.in_ok-plan.plan c.plan_found_groups.new.plan c.in-Ok.entries.items
      c.in-Ok.ensures.answer.1) c.in_ok-standing.ensures),
)

pub returns-in_err-found-clause-made : goal.returns-in_err-found-clause-made
returns-in_err-found-clause-made g c = λ e of.
    handed_made e c.from_residual-in_err-found.result c.in_err-found.field-0.0
    c.from_residual-in_err-found.ensures.1
    (c.in_err-found.ensures.made e
    (edit_later e c.args.bridges.now c.plan_found_groups.new.rewriter c.args.map.now
    c.args.reading.now.model c.args.reading.now.model c.args.differing.now
    c.plan_found_groups.ensures.means refl of)
    (groups_planned e c.args.bridges.now c.args.map.now c.args.reading.now.model
    c.args.differing.now
    of c.in_ok-plan.plan c.plan_found_groups.new.plan c.in-Ok.entries.items
    c.in_ok-standing.standing c.in_ok-plan.ensures.leaves c.in_ok-plan.ensures.nodes
    (none_seen (means_of c.args.bridges.now).choice
    c.deref.result.now c.args.differing.now.after.groups.items c.deref.ensures.value
    c.in_ok-check_found_groups.ensures)
    (fit_seen (means_of c.args.bridges.now).choice c.deref-2.result.now c.args.differing.now.after.groups.items
    c.deref-2.ensures.value c.in-Ok.ensures.answer.0)
    (adds_seen (means_of c.args.bridges.now).choice c.deref-2.result.now c.args.differing.now.after.groups.items
    c.deref-2.ensures.value c.in_ok-plan.plan c.plan_found_groups.new.plan c.in-Ok.entries.items
    c.in-Ok.ensures.answer.1) c.in_ok-standing.ensures))

pub returns-clause-made : goal.returns-clause-made
returns-clause-made g c = λ e of.
    c.in_ok-found.ensures.made e
    (edit_later e c.args.bridges.now c.plan_found_groups.new.rewriter c.args.map.now
    c.args.reading.now.model c.args.reading.now.model c.args.differing.now
    c.plan_found_groups.ensures.means refl of)
    (groups_planned e c.args.bridges.now c.args.map.now c.args.reading.now.model
    c.args.differing.now
    of c.in_ok-plan.plan c.plan_found_groups.new.plan c.in-Ok.entries.items
    c.in_ok-standing.standing c.in_ok-plan.ensures.leaves c.in_ok-plan.ensures.nodes
    (none_seen (means_of c.args.bridges.now).choice
    c.deref.result.now c.args.differing.now.after.groups.items c.deref.ensures.value
    c.in_ok-check_found_groups.ensures)
    (fit_seen (means_of c.args.bridges.now).choice c.deref-2.result.now c.args.differing.now.after.groups.items
    c.deref-2.ensures.value c.in-Ok.ensures.answer.0)
    (adds_seen (means_of c.args.bridges.now).choice c.deref-2.result.now c.args.differing.now.after.groups.items
    c.deref-2.ensures.value c.in_ok-plan.plan c.plan_found_groups.new.plan c.in-Ok.entries.items
    c.in-Ok.ensures.answer.1) c.in_ok-standing.ensures)
