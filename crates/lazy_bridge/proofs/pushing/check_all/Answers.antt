use Rattle.std.specs.Option.{option_copied}
use Rattle.bridge_set.specs.Bridges.{means_of}
use Rattle.lazy_bridge.proofs.Planning.{all_passed, kinds_outcome_seen, order_seen}
use Rattle.touched_items.specs.Results.{found_rows}
use Rattle.lazy_bridge.proofs.pushing.check_all.Goals as goal

pub returns-clause-passed : goal.returns-clause-passed
returns-clause-passed g c = λ e of none.
    let found = c.in_ok-found.found in
    all_passed e c.args.bridges.now c.args.map.now c.args.reading.now.model
    c.args.differing.now of
    c.in_ok-vars.vars.items found.addresses.items (found_rows found)
    (option_copied found.objective)
    (order_seen c.args.map.now c.args.differing.now c.deref.result.now c.in_ok-vars.vars.items
    found.addresses.items c.deref.ensures.value c.in_ok-found.ensures.addresses)
    c.in_ok-found.ensures.rows c.in_ok-found.ensures.objective c.in_ok-vars.ensures none
    c.check_found.result
    (kinds_outcome_seen (means_of c.args.bridges.now).choice c.args.map.now c.deref-2.result.now
    c.args.differing.now.after.groups.items c.deref-3.result.now found.rows.items
    (option_copied found.objective) c.deref-2.ensures.value c.deref-3.ensures.value (Unit {0})
    c.check_found.result c.check_found.ensures)
