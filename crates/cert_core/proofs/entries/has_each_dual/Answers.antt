use Rattle.std.specs.Prelude.{◌+◌, All, refl, ◌↔◌}
use Rattle.std.proofs.Common.{◌∙◌, drop, subst, sym, true≢false}
use Rattle.std.proofs.lemmas.List.Elements.{All-cons, All-head, All-nil, All-tail}
use Rattle.certificates.specs.Duals.{row_with, rows_with}
use Rattle.cert_core.specs.Checked.{HasEachDual}
use Rattle.cert_core.proofs.Rows.{next_row, rows_done, row_turn}
use Rattle.cert_core.specs.CountedLaws.{counted_all}
use Rattle.cert_core.proofs.entries.has_each_dual.Goals as goal

pub returns-then-len-component_count : goal.returns-then-len-component_count
returns-then-len-component_count c =
    let turn = row_turn c.args.rows.now.items c.loop-i.row-iterator c.next.new.self
    c.args.duals.now c.loop-i.i c.index-duals-i.result c.in-Some.row.now
    c.loop-i.invariant.1 c.in-Some.ensures.steps c.index-duals-i.is in
    let y = c.index-duals-i.result in
    let r = c.in-Some.row.now in
    let next = next_row c.args.duals.now c.args.rows.now.items c.loop-i.i y r c.requires
    turn.duals turn.row turn.within in (
      λ t. absurd (true≢false (sym t)),
      λ all. absurd (c.if-len-component_count.true (c.len.ensures
          ∙ All-head HasEachDual (row_with y r)
          (drop (c.loop-i.i + 1) (rows_with c.args.duals.now c.args.rows.now.items))
          (subst (All HasEachDual) next (c.loop-i.invariant.0.1 all))
          ∙ sym c.component_count.ensures)),
    )

pub loop-i-preserved : goal.loop-i-preserved
loop-i-preserved c =
    let turn = row_turn c.args.rows.now.items c.loop-i.row-iterator c.next.new.self
    c.args.duals.now c.loop-i.i c.index-duals-i.result c.in-Some.row.now
    c.loop-i.invariant.1 c.in-Some.ensures.steps c.index-duals-i.is in
    let y = c.index-duals-i.result in
    let r = c.in-Some.row.now in
    let rest = drop (c.loop-i.i + 1) (rows_with c.args.duals.now c.args.rows.now.items) in
    let next = next_row c.args.duals.now c.args.rows.now.items c.loop-i.i y r c.requires
    turn.duals turn.row turn.within in
    let hs = rows_with c.args.duals.now c.args.rows.now.items in
    let step : All HasEachDual (drop (c.loop-i.i + 1) hs) ↔ All HasEachDual hs =
    let here : HasEachDual (row_with y r) =
    sym c.len.ensures ∙ c.if-len-component_count.false ∙ c.component_count.ensures in (
      λ left. c.loop-i.invariant.0.0
          (subst (All HasEachDual) (sym next) (All-cons HasEachDual (row_with y r) rest here left)),
      λ all. All-tail HasEachDual (row_with y r) rest
          (subst (All HasEachDual) next (c.loop-i.invariant.0.1 all)),
    ) in (step, turn.rest_is)

pub returns : goal.returns
returns c =
    let end = rows_done c.args.duals.now c.args.rows.now.items c.loop-i.i c.requires
    (counted_all c.args.rows.now.items c.loop-i.row-iterator c.loop-i.i
    c.loop-i.invariant.1 c.in-None.ensures.steps.0) in (
      λ _. c.loop-i.invariant.0.0 (subst (All HasEachDual) (sym end) (All-nil HasEachDual)),
      λ _. refl,
    )
