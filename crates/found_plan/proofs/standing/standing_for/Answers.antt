use Rattle.std.proofs.Common.{◌++◌, ap, arith, map, refl, ◌∙◌}
use Rattle.std.specs.Option.{option_copied}
use Rattle.std.proofs.lemmas.Result.{IfOk-weaker}
use Rattle.fresh_bridging.specs.Entries.{expression_in}
use Rattle.found_plan.specs.Read.{named_by, own_entries, own_entry, read_entries}
use Rattle.found_plan.proofs.LoopSteps.{none_left, one_left}
use Rattle.found_plan.proofs.standing.standing_for.Goals as goal

pub loop-group-preserved : goal.loop-group-preserved
loop-group-preserved c =
    let at = c.loop-group in
    let groups = c.args.groups.now in
    let group = c.group-item.result in
    let standing = c.args.standing.now in
    one_left (λ gs. own_entries standing (map (λ g. g.now) gs))
    (λ g. map (own_entry standing) g.now.vars) (λ x xs. refl) groups at.group-index group
    at.entries.items c.push_own.new.entries.items _ c.group-item.is c.loop-group-test.true
    (c.in_ok-push_own.ensures
    ∙ ap (λ vs. at.entries.items ++ map (own_entry standing) vs) c.as_slice.ensures) at.invariant

pub returns : goal.returns
returns c =
    let at = c.loop-group in
    let standing = c.args.standing.now in
    let named = named_by (map (λ r. r.now) c.args.rows.now) (option_copied c.args.objective) in
    IfOk-weaker c.of.result _ _
    (λ s h. h ∙ ap expression_in (c.in_ok-read_found.ensures
    ∙ ap (λ l. l ++ read_entries c.args.map.now named)
    (none_left (λ gs. own_entries standing (map (λ g. g.now) gs)) c.args.groups.now
    at.group-index at.entries.items _ refl (omega arith) at.invariant))) c.of.ensures
