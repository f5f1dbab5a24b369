use Rattle.std.proofs.Common.{arith, map, refl}
use Rattle.std.specs.Prelude.{flat_map}
use Rattle.std.proofs.lemmas.List.{map-append}
use Rattle.found_plan.specs.Read.{named_in_row, read_entries, read_entry}
use Rattle.found_plan.proofs.LoopSteps.{none_left, one_left}
use Rattle.found_plan.proofs.standing.read_rows.Goals as goal
use Rattle.user_model.specs.declared.row.Row.{Row}

pub loop-row-preserved : goal.loop-row-preserved
loop-row-preserved c =
    let at = c.loop-row in
    let row = c.row-item.result in
    let places = c.args.map.now in
    one_left (λ rs. read_entries places (flat_map (λ (r : Row). named_in_row r.func)
    (map (λ r. r.now) rs))) (λ r. read_entries places (named_in_row r.now.func))
    (λ x xs. map-append (read_entry places) (named_in_row x.now.func)
    (flat_map (λ (r : Row). named_in_row r.func) (map (λ r. r.now) xs)))
    c.args.rows.now at.row-index row at.entries.items c.read_row.new.entries.items _
    c.row-item.is c.loop-row-test.true c.in_ok-read_row.ensures at.invariant

pub returns : goal.returns
returns c =
    let at = c.loop-row in
    none_left (λ rs. read_entries c.args.map.now (flat_map (λ (r : Row). named_in_row r.func)
    (map (λ r. r.now) rs))) c.args.rows.now at.row-index at.entries.items _ refl (omega arith)
    at.invariant
