use Rattle.std.specs.Prelude.{◌≡◌}
use Rattle.std.proofs.Common.{◌∙◌}
use Rattle.dualization.specs.Fitting.{AllBoundsFit, FirstBounds, start_sums}
use Rattle.dualization.proofs.MoveLemmas.{started_all, started_more, started_unfit}
use Rattle.dualization.proofs.ToldLemmas.{told_row}
use Rattle.dualization.proofs.starting.start_sums.Goals as goal

pub returns-in-Err-Overflow : goal.returns-in-Err-Overflow
returns-in-Err-Overflow c =
    let rows = c.args.rows.now.items in
    let r = c.in-Some.row.now in
    let unfit = rw c.in-Err-Overflow.field-0-is at c.in-Err-Overflow.ensures in
    told_row (λ sums. AllBoundsFit rows × (sums ≡ start_sums rows c.args.objective.now))
    (FirstBounds rows) (λ _. ⊥) c.at_row.result r.name c.at_row.ensures
    (started_unfit rows c.loop-row.row-iterator c.next.new.self r c.loop-row.parts.items
    c.in-Some.ensures.steps c.loop-row.invariant unfit)

pub loop-row-preserved : goal.loop-row-preserved
loop-row-preserved c =
    started_more c.args.rows.now.items c.loop-row.row-iterator c.next.new.self c.in-Some.row.now
    c.loop-row.parts.items c.in-Some.ensures.steps c.loop-row.invariant
    c.push_start.new.parts.items c.in-Ok.ensures.0 c.in-Ok.ensures.1

pub returns : goal.returns
returns c =
    let rows = c.args.rows.now.items in
    let all = started_all rows c.loop-row.row-iterator c.loop-row.parts.items
    c.in-None.ensures.steps.0 c.loop-row.invariant in
    (all.0, λ i. record { constant = c.constant_of.ensures i; parts = (c.from_vec.ensures ∙ all.1) i })
