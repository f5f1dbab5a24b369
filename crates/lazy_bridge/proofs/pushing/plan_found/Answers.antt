use Rattle.std.proofs.Common.{Err, None, ◌≡◌, [], map, refl, subst, sym}
use Rattle.std.specs.Prelude.{All}
use Rattle.std.specs.Option.{option_copied}
use Rattle.item_core.specs.Kind.{kind_count}
use Rattle.bridge_set.specs.Bridges.{means_of}
use Rattle.bridge_plan.specs.AddsHeld.{AddsHeld}
use Rattle.bridge_plan.specs.Worked.{IsItemWithinLevels, worked, worked_in}
use Rattle.fresh_bridging.specs.Entries.{put_in}
use Rattle.lazy_bridge.proofs.Planning.{all_planned, handed_found, kinds_outcome_seen, no_kind_seen, others_can, others_overflow, others_refused, others_unfit_seen}
use Rattle.lazy_bridge.specs.Steps.{changing_variables}
use Rattle.model_bridging.specs.Found.{found_others}
use Rattle.model_bridging.specs.ModelHeld.{unfit_put}
use Rattle.touched_items.specs.Results.{found_rows}
use Rattle.lazy_bridge.proofs.pushing.plan_found.Goals as goal

pub returns-in_err-check_found-clause-made : goal.returns-in_err-check_found-clause-made
returns-in_err-check_found-clause-made g c = λ e of groups.
    let found = c.in_ok-found.found in
    handed_found e c.args.standing.now c.args.plan.now (λ v. v.items)
    c.from_residual-in_err-check_found.result c.in_err-check_found.field-0.0
    c.from_residual-in_err-check_found.ensures.1
    (others_refused e c.args.bridges.now c.args.map.now c.args.reading.now.model
    c.args.differing.now of
    (changing_variables c.args.map.now c.args.standing.now c.args.differing.now)
    found.addresses.items (found_rows found) (option_copied found.objective)
    c.in_ok-found.ensures.order c.in_ok-found.ensures.rows c.in_ok-found.ensures.objective
    c.args.standing.now c.args.plan.now groups refl (Unit {0}) c.in_err-check_found.field-0.0
    (kinds_outcome_seen (means_of c.args.bridges.now).choice c.args.map.now c.deref.result.now
    c.args.differing.now.after.groups.items c.deref-2.result.now found.rows.items
    (option_copied found.objective) c.deref.ensures.value c.deref-2.ensures.value (Unit {0})
    (Err c.in_err-check_found.field-0.0) c.in_err-check_found.ensures))

pub plan_found_others-requires : goal.plan_found_others-requires
plan_found_others-requires g c =
    let found = c.in_ok-found.found in
    subst (λ rs. All (λ item. IsItemWithinLevels (means_of c.args.bridges.now).choice kind_count
    (put_in c.in_ok-further.further item))
    (found_others (map (λ r. r.now) rs) (option_copied found.objective)))
    (sym c.deref-3.ensures.value)
    (others_can c.requires.0 c.args.bridges.now c.args.map.now c.args.reading.now.model
    c.args.differing.now c.requires.1
    (changing_variables c.args.map.now c.args.standing.now c.args.differing.now)
    found.addresses.items (found_rows found) (option_copied found.objective)
    c.in_ok-found.ensures.order c.in_ok-found.ensures.rows c.in_ok-found.ensures.objective
    c.args.standing.now c.args.plan.now c.requires.2 refl
    (no_kind_seen (means_of c.args.bridges.now).choice c.args.map.now c.deref.result.now
    c.args.differing.now.after.groups.items c.deref-2.result.now found.rows.items
    (option_copied found.objective) c.deref.ensures.value c.deref-2.ensures.value
    c.in_ok-check_found.ensures)
    c.in_ok-further.further c.in_ok-further.ensures)

pub returns-in_err-plan_found_others-clause-made :
    goal.returns-in_err-plan_found_others-clause-made
returns-in_err-plan_found_others-clause-made g c = λ e of groups.
    let found = c.in_ok-found.found in
    handed_found e c.args.standing.now c.plan_found_others.new.plan (λ v. v.items)
    c.from_residual-in_err-plan_found_others.result c.in_err-plan_found_others.field-0.0
    c.from_residual-in_err-plan_found_others.ensures.1
    (others_overflow e c.args.bridges.now c.args.map.now c.args.reading.now.model
    c.args.differing.now of
    (changing_variables c.args.map.now c.args.standing.now c.args.differing.now)
    found.addresses.items (found_rows found) (option_copied found.objective)
    c.in_ok-found.ensures.order c.in_ok-found.ensures.rows c.in_ok-found.ensures.objective
    c.args.standing.now c.args.plan.now groups refl
    (no_kind_seen (means_of c.args.bridges.now).choice c.args.map.now c.deref.result.now
    c.args.differing.now.after.groups.items c.deref-2.result.now found.rows.items
    (option_copied found.objective) c.deref.ensures.value c.deref-2.ensures.value
    c.in_ok-check_found.ensures)
    c.in_ok-further.further c.in_ok-further.ensures (Unit {0})
    c.in_err-plan_found_others.field-0.0 _
    (others_unfit_seen (means_of c.args.bridges.now).choice c.in_ok-further.further
    c.deref-3.result.now found.rows.items (option_copied found.objective) c.deref-3.ensures.value
    (Unit {0}) c.in_err-plan_found_others.field-0.0 _ (λ _. Unit {0})
    c.in_err-plan_found_others.ensures.answer))

pub returns-clause-made : goal.returns-clause-made
returns-clause-made g c = λ e of groups.
    let found = c.in_ok-found.found in
    all_planned e c.args.bridges.now c.args.map.now c.args.reading.now.model
    c.args.differing.now of
    (changing_variables c.args.map.now c.args.standing.now c.args.differing.now)
    found.addresses.items (found_rows found) (option_copied found.objective)
    c.in_ok-found.ensures.order c.in_ok-found.ensures.rows c.in_ok-found.ensures.objective
    c.args.standing.now c.args.plan.now groups refl
    (no_kind_seen (means_of c.args.bridges.now).choice c.args.map.now c.deref.result.now
    c.args.differing.now.after.groups.items c.deref-2.result.now found.rows.items
    (option_copied found.objective) c.deref.ensures.value c.deref-2.ensures.value
    c.in_ok-check_found.ensures)
    c.in_ok-further.further c.in_ok-further.ensures c.plan_found_others.new.plan
    (subst (λ rs. unfit_put (means_of c.args.bridges.now).choice kind_count c.in_ok-further.further
    (found_others (map (λ r. r.now) rs) (option_copied found.objective)) ≡ None)
    c.deref-3.ensures.value c.in_ok-plan_found_others.ensures.answer.0)
    (subst (λ rs. AddsHeld c.args.plan.now c.plan_found_others.new.plan [] []
    (worked_in (means_of c.args.bridges.now).choice (worked (means_of c.args.bridges.now).choice kind_count)
    c.in_ok-further.further (found_others (map (λ r. r.now) rs) (option_copied found.objective))))
    c.deref-3.ensures.value c.in_ok-plan_found_others.ensures.answer.1)
