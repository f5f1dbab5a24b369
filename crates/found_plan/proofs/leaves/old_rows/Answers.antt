use Rattle.std.proofs.Common.{arith, refl, ◌∙◌}
use Rattle.std.specs.Prelude.{flat_map}
use Rattle.address_map.specs.Places.{addresses}
use Rattle.item_leaves.specs.ItemLeaves.{those_of}
use Rattle.found_plan.proofs.LoopSteps.{none_left, one_left}
use Rattle.found_plan.proofs.leaves.old_rows.Goals as goal

pub loop-at-preserved : goal.loop-at-preserved
loop-at-preserved c =
    let l = c.loop-at in
    let ats = addresses c.args.map.now.rows.indices in
    one_left (λ xs. flat_map (λ at. those_of at ats) xs) (λ at. those_of at ats) (λ x xs. refl)
    c.args.items.now l.at-index c.at-item.result l.had c.list_rows.new.list _ c.at-item.is
    c.loop-at-test.true c.in_ok-list_rows.ensures l.invariant

pub returns : goal.returns
returns c =
    let l = c.loop-at in
    let ats = addresses c.args.map.now.rows.indices in
    c.into_vec.ensures
    ∙ none_left (λ xs. flat_map (λ at. those_of at ats) xs) c.args.items.now l.at-index l.had _ refl
    (omega arith) l.invariant
