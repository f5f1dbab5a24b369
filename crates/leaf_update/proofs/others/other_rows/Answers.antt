use Rattle.std.proofs.Common.{ℕ, ap}
use Rattle.std.specs.Prelude.{flat_map, map}
use Rattle.address_map.specs.Places.{addresses}
use Rattle.aff_core.specs.Address.{Address}
use Rattle.fresh_bridging.specs.Leaves.{leaf_rows}
use Rattle.leaf_update.specs.Others.{among, others}
use Rattle.leaf_update.specs.Splice.{keys_of}
use Rattle.leaf_update.proofs.OtherSteps.{other_left}
use Rattle.leaf_update.proofs.others.other_rows.Goals as goal

pub loop-entry-preserved : goal.loop-entry-preserved
loop-entry-preserved c =
    let l = c.loop-entry in
    let keys = keys_of (flat_map leaf_rows c.args.leaves.now) in
    let at = c.in-Some.entry.now.0 in
    other_left keys (map (λ (e : Address × ℕ). e.0) l.entry-iterator)
    (map (λ (e : Address × ℕ). e.0) c.next.new.self) at (among c.in_ok-put.put at)
    l.gone.items c.push_other.new.gone.items
    (others keys (addresses c.args.map.now.rows.indices))
    (ap (map (λ (e : Address × ℕ). e.0)) c.in-Some.ensures.steps)
    (ap (λ p. p at) c.in_ok-put.ensures)
    c.in_ok-push_other.ensures.there c.in_ok-push_other.ensures.absent l.invariant
