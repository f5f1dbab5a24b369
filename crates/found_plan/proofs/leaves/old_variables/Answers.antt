use Rattle.std.proofs.Common.{◌++◌, ap, arith, map, refl, ◌∙◌}
use Rattle.std.specs.Prelude.{flat_map}
use Rattle.address_map.specs.Places.{addresses}
use Rattle.item_leaves.specs.ItemLeaves.{those_of}
use Rattle.found_plan.specs.Stood.{own_leaves}
use Rattle.found_plan.proofs.LoopSteps.{none_left, one_left}
use Rattle.found_plan.proofs.leaves.old_variables.Goals as goal
use Rattle.user_model.specs.declared.group.Group.{Group}

pub loop-group-preserved : goal.loop-group-preserved
loop-group-preserved c =
    let l = c.loop-group in
    let places = c.args.map.now in
    one_left (λ gs. flat_map (λ (g : Group). own_leaves places g.vars) (map (λ g. g.now) gs))
    (λ g. own_leaves places g.now.vars) (λ x xs. refl) c.args.groups.now l.group-index
    c.group-item.result l.had c.list_own.new.list _ c.group-item.is c.loop-group-test.true
    (c.in_ok-list_own.ensures ∙ ap (λ vs. l.had ++ own_leaves places vs) c.as_slice.ensures)
    l.invariant

pub loop-at-init : goal.loop-at-init
loop-at-init c =
    let l = c.loop-group in
    let places = c.args.map.now in
    ap (λ had. had ++ flat_map (λ at. those_of at (addresses places.vars.indices)) c.args.items.now)
    (none_left (λ gs. flat_map (λ (g : Group). own_leaves places g.vars) (map (λ g. g.now) gs))
    c.args.groups.now l.group-index l.had _ refl (omega arith) l.invariant)

pub loop-at-preserved : goal.loop-at-preserved
loop-at-preserved c =
    let l = c.loop-at in
    let ats = addresses c.args.map.now.vars.indices in
    one_left (λ xs. flat_map (λ at. those_of at ats) xs) (λ at. those_of at ats) (λ x xs. refl)
    c.args.items.now l.at-index c.at-item.result l.had c.list_variables.new.list _ c.at-item.is
    c.loop-at-test.true c.in_ok-list_variables.ensures l.invariant

pub returns : goal.returns
returns c =
    let l = c.loop-at in
    let ats = addresses c.args.map.now.vars.indices in
    c.into_vec.ensures
    ∙ none_left (λ xs. flat_map (λ at. those_of at ats) xs) c.args.items.now l.at-index l.had _ refl
    (omega arith) l.invariant
