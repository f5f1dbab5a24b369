use Rattle.std.specs.Prelude.{◌+◌, ◌↔◌, IsTrue, All, length, ◌&&◌}
use Rattle.std.proofs.Common.{◌∙◌, ap, drop, refl, subst, sym}
use Rattle.ratio_core.specs.AnsweredLaws.{overflowed}
use Rattle.dual_laws.specs.Held.{DualRow}
use Rattle.set_core.specs.Membership.{Dual, DualFits}
use Rattle.certificates.specs.Duals.{row_with, rows_with}
use Rattle.cert_core.proofs.Rows.{next_row, row_set, row_size, rows_done, row_turn}
use Rattle.cert_core.proofs.Tested.{tested_end, tested_refused, tested_step, TestedAsAll}
use Rattle.cert_core.specs.CountedLaws.{counted_all}
use Rattle.cert_core.proofs.duals.row_duals_hold.Goals as goal

abbrev F : DualRow → Type 0
F h = DualFits h.set h.duals

abbrev P : DualRow → Type 0
P h = Dual h.set h.duals

pub dual_holds-requires : goal.dual_holds-requires
dual_holds-requires c =
    let turn = row_turn c.args.rows.now.items c.loop-i.row-iterator c.next.new.self
    c.args.duals.now c.loop-i.i c.index-duals-i.result c.in-Some.row.now
    c.loop-i.invariant.1 c.in-Some.ensures.steps c.index-duals-i.is in
    ap length c.as_slice.ensures
    ∙ row_size c.args.duals.now c.args.rows.now.items c.loop-i.i c.index-duals-i.result
    c.in-Some.row.now c.requires.entries turn.duals turn.row
    turn.within
    ∙ row_set c.args.rows.now.items c.loop-i.i c.in-Some.row.now c.requires.sets turn.row
    turn.within

pub returns-in_err-holds : goal.returns-in_err-holds
returns-in_err-holds c =
    let turn = row_turn c.args.rows.now.items c.loop-i.row-iterator c.next.new.self
    c.args.duals.now c.loop-i.i c.index-duals-i.result c.in-Some.row.now
    c.loop-i.invariant.1 c.in-Some.ensures.steps c.index-duals-i.is in
    let hs = rows_with c.args.duals.now c.args.rows.now.items in
    let i = c.loop-i.i in
    let h = row_with c.index-duals-i.result c.in-Some.row.now in
    let next = next_row c.args.duals.now c.args.rows.now.items i c.index-duals-i.result
    c.in-Some.row.now c.requires.entries.each turn.duals turn.row
    turn.within in
    overflowed c.from_residual.result _ (All F hs) (λ holds. IsTrue holds ↔ All P hs)
    c.from_residual.ensures.1 refl
    (λ all. c.in_err-holds.ensures
    (subst (DualFits c.in-Some.row.now.set) (sym c.as_slice.ensures)
    (tested_refused F P c.loop-i.all hs (drop i hs) (drop (i + 1) hs) h c.loop-i.invariant.0 next
    all)))

pub loop-i-preserved : goal.loop-i-preserved
loop-i-preserved c =
    let turn = row_turn c.args.rows.now.items c.loop-i.row-iterator c.next.new.self
    c.args.duals.now c.loop-i.i c.index-duals-i.result c.in-Some.row.now
    c.loop-i.invariant.1 c.in-Some.ensures.steps c.index-duals-i.is in
    let hs = rows_with c.args.duals.now c.args.rows.now.items in
    let i = c.loop-i.i in
    let h = row_with c.index-duals-i.result c.in-Some.row.now in
    let next = next_row c.args.duals.now c.args.rows.now.items i c.index-duals-i.result
    c.in-Some.row.now c.requires.entries.each turn.duals turn.row
    turn.within in
    let told = subst (λ v. DualFits c.in-Some.row.now.set v
    × (IsTrue c.in_ok-holds.holds ↔ Dual c.in-Some.row.now.set v)) c.as_slice.ensures
    c.in_ok-holds.ensures in
    let step : TestedAsAll F P (c.loop-i.all && c.in_ok-holds.holds) hs (drop (c.loop-i.i + 1) hs) =
    tested_step F P c.loop-i.all c.in_ok-holds.holds hs (drop i hs) (drop (i + 1) hs) h
    c.loop-i.invariant.0 next told.0 told.1 in (step, turn.rest_is)

pub returns : goal.returns
returns c =
    let hs = rows_with c.args.duals.now c.args.rows.now.items in
    tested_end F P c.loop-i.all hs (drop c.loop-i.i hs) c.loop-i.invariant.0
    (rows_done c.args.duals.now c.args.rows.now.items c.loop-i.i c.requires.entries.each
    (counted_all c.args.rows.now.items c.loop-i.row-iterator c.loop-i.i
    c.loop-i.invariant.1 c.in-None.ensures.steps.0))
