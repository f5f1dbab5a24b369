use Rattle.std.proofs.Common.{ap, map, subst, sym, ◌∙◌}
use Rattle.address_map.specs.AddressMap.{AddressMap}
use Rattle.bridge_set.specs.Bridges.{kept_by}
use Rattle.bridge_set.specs.Letting.{without_found}
use Rattle.found_plan.specs.Stood.{old_leaves}
use Rattle.lazy_bridge.proofs.Changing.{changed, free, keepable, named, splice}
use Rattle.leaf_update.specs.Others.{others_among}
use Rattle.leaf_update.specs.Splice.{IsSplice, IsSplicedInto, gone_in}
use Rattle.leaf_model.specs.ReadThrough.{read_through}
use Rattle.lazy_bridge.proofs.pushing.change_touched.Goals as goal

pub change_leaves-requires-clause-named : goal.change_leaves-requires-clause-named
change_leaves-requires-clause-named g c =
    named c.requires.0 c.args.bridges.now c.args.solver.now c.args.map.now c.args.objective_at.now
    c.args.differing.now c.requires.1 c.args.planned.standing c.args.planned.found.items
    c.args.planned.plan c.requires.2

pub change_leaves-requires-clause-splice : goal.change_leaves-requires-clause-splice
change_leaves-requires-clause-splice g c =
    subst (IsSplice (read_through c.args.map.now c.args.solver.now.leaves c.args.objective_at.now)
    (gone_in c.in_ok-gone.gone)) (sym c.deref-5.ensures.value)
    (splice c.requires.0 c.args.bridges.now c.args.solver.now c.args.map.now c.args.objective_at.now
    c.args.differing.now c.requires.1 c.args.planned.standing c.args.planned.found.items
    c.args.planned.plan c.requires.2 (gone_in c.in_ok-gone.gone)
    (c.in_ok-gone.ensures
    ∙ (λ i. others_among (c.in_ok-old_leaves.ensures i) (c.deref-3.ensures.value i))
    ∙ (λ i. others_among (old_leaves c.args.map.now c.args.solver.now.leaves
    c.args.objective_at.now (map (λ x. x.now) (c.deref.ensures.value i))
    (c.deref-2.ensures.value i)) c.args.planned.plan.leaves.items)))

pub keep_each-requires-clause-nodes : goal.keep_each-requires-clause-nodes
keep_each-requires-clause-nodes g c =
    keepable c.requires.0 c.args.bridges.now c.args.solver.now c.args.map.now
    c.args.objective_at.now c.args.differing.now c.requires.1 c.args.planned.standing
    c.args.planned.found.items c.args.planned.plan c.requires.2 _ c.let_found_go.ensures.families

pub keep_each-requires-clause-free : goal.keep_each-requires-clause-free
keep_each-requires-clause-free g c =
    free c.requires.0 c.args.bridges.now c.args.solver.now c.args.map.now c.args.objective_at.now
    c.args.differing.now c.requires.1 c.args.planned.standing c.args.planned.found.items
    c.args.planned.plan c.requires.2 c.let_found_go.new.self.states
    (c.let_found_go.ensures.gone
    ∙ ap (λ ats. map (without_found ats) (kept_by c.args.bridges.now.states))
    c.deref-4.ensures.value)

pub returns-clause-changed : goal.returns-clause-changed
returns-clause-changed g c = λ e held made.
    let into = subst (λ ls. IsSplicedInto c.args.solver.now c.args.map.now c.args.objective_at.now
    (gone_in c.in_ok-gone.gone) ls c.in_ok-changed.changed c.change_leaves.new.solver
    c.change_leaves.new.map c.change_leaves.new.objective_at) c.deref-5.ensures.value
    c.in_ok-changed.ensures.spliced in
    let rest = c.in_ok-changed.ensures.rest in
    changed e c.args.bridges.now c.args.solver.now c.args.map.now c.args.objective_at.now
    c.args.differing.now held c.args.planned.standing c.args.planned.found.items
    c.args.planned.plan made c.let_found_go.new.self.states
    (c.let_found_go.ensures.gone
    ∙ ap (λ ats. map (without_found ats) (kept_by c.args.bridges.now.states))
    c.deref-4.ensures.value) c.keep_each.new.self c.change_leaves.new.solver
    c.change_leaves.new.map c.change_entries.new.map c.change_leaves.new.objective_at
    c.in_ok-changed.changed (gone_in c.in_ok-gone.gone)
    (λ i. record {
      table = (c.keep_each.ensures.table ∙ c.let_found_go.ensures.table) i;
      families = (c.keep_each.ensures.families ∙ c.let_found_go.ensures.families) i;
    })
    c.in_ok-keep_each.ensures.kept
    (c.in_ok-gone.ensures
    ∙ (λ i. others_among (c.in_ok-old_leaves.ensures i) (c.deref-3.ensures.value i))
    ∙ (λ i. others_among (old_leaves c.args.map.now c.args.solver.now.leaves
    c.args.objective_at.now (map (λ x. x.now) (c.deref.ensures.value i))
    (c.deref-2.ensures.value i)) c.args.planned.plan.leaves.items))
    into c.change_entries.ensures.vars c.change_entries.ensures.rows
    (c.in_ok-change_entries.ensures.anew e
    ((λ i. (rest i).0) ∙ ap (λ (m : AddressMap). m.exprs) held.mapped)
    ((λ i. (rest i).1.1) ∙ ap (λ (m : AddressMap). m.kept) held.mapped)
    ((λ i. (rest i).1.0) ∙ ap (λ (m : AddressMap). m.noted) held.mapped) held.differing)
    c.let_found_go.ensures.turns c.in_ok-keep_each.ensures.turns
