use Rattle.mof_values.specs.WalkLaws.{each_all, each_fault, each_more}
use Rattle.mof_file.proofs.items.add_each.Goals as goal

pub returns-in-Err : goal.returns-in-Err
returns-in-Err g c = λ not. each_fault _ _ _ _ _ c.loop-place.invariant
    c.index-items-place.result c.index-items-place.is c.loop-place-test.true
    _ _ c.in-Err.ensures c.under_index.ensures not

pub loop-place-preserved : goal.loop-place-preserved
loop-place-preserved g c = each_more _ _ _ _ _ c.loop-place.invariant
    c.index-items-place.result c.index-items-place.is c.loop-place-test.true _ c.in-Ok.ensures

pub returns : goal.returns
returns g c = each_all _ _ _ _ _ c.loop-place.invariant c.loop-place-test.false
