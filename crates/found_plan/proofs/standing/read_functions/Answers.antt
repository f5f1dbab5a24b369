use Rattle.std.proofs.Common.{arith, refl}
use Rattle.std.specs.Prelude.{flat_map}
use Rattle.std.proofs.lemmas.List.{map-append}
use Rattle.found_plan.specs.Read.{named_in, read_entries, read_entry}
use Rattle.found_plan.proofs.LoopSteps.{none_left, one_left}
use Rattle.found_plan.proofs.standing.read_functions.Goals as goal

pub loop-func-preserved : goal.loop-func-preserved
loop-func-preserved c =
    let at = c.loop-func in
    let func = c.func-item.result in
    let places = c.args.map.now in
    one_left (λ fs. read_entries places (flat_map named_in fs))
    (λ f. read_entries places (named_in f))
    (λ x xs. map-append (read_entry places) (named_in x) (flat_map named_in xs))
    c.args.funcs.now at.func-index func at.entries.items c.read_function.new.entries.items _
    c.func-item.is c.loop-func-test.true c.in_ok-read_function.ensures at.invariant

pub returns : goal.returns
returns c =
    let at = c.loop-func in
    none_left (λ fs. read_entries c.args.map.now (flat_map named_in fs)) c.args.funcs.now
    at.func-index at.entries.items _ refl (omega arith) at.invariant
