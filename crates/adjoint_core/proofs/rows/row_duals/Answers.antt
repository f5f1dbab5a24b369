use Rattle.std.specs.Prelude.{◌≡◌, ◌+◌, All, drop, length, map}
use Rattle.std.proofs.Common.{◌∙◌, ap, subst, sym}
use Rattle.std.proofs.lemmas.List.{length_push}
use Rattle.cert_core.specs.CountedLaws.{counted_all, counted_next}
use Rattle.adjoint_core.specs.Read.{duals_by}
use Rattle.adjoint_core.specs.Walk.{IsUnfitAmong, RowDualFits, row_dual, row_place}
use Rattle.adjoint_core.proofs.InOrder.{MadeInOrder, made_end, made_refused, made_step, told_on}
use Rattle.adjoint_core.proofs.rows.row_duals.Goals as goal

pub returns-in_err-user_dual : goal.returns-in_err-user_dual
returns-in_err-user_dual g c =
    let states = map g.B.Bridge.state c.args.bridges.now in
    let leaf = duals_by c.args.places.now c.args.y.now in
    let rows = c.args.rows.now.items in
    let made = c.loop-row.duals.items in
    let at = counted_next rows c.loop-row.row-iterator (length made) c.loop-row.invariant.1
    c.next.new.self c.in-Some.row.now c.in-Some.ensures.steps in
    told_on c.from_residual-in_err-user_dual.result c.in_err-user_dual.field-0.0
    (RowDualFits states leaf c.in-Some.row.now) (All (RowDualFits states leaf) rows) _ _
    _ (IsUnfitAmong states leaf rows)
    c.from_residual-in_err-user_dual.ensures.1 c.in_err-user_dual.ensures
    (made_refused (RowDualFits states leaf) row_place (row_dual states leaf) rows
    (length made) made c.loop-row.invariant.0 c.in-Some.row.now at.is at.within)

pub loop-row-preserved : goal.loop-row-preserved
loop-row-preserved g c =
    let states = map g.B.Bridge.state c.args.bridges.now in
    let leaf = duals_by c.args.places.now c.args.y.now in
    let rows = c.args.rows.now.items in
    let made = c.loop-row.duals.items in
    let at = counted_next rows c.loop-row.row-iterator (length made) c.loop-row.invariant.1
    c.next.new.self c.in-Some.row.now c.in-Some.ensures.steps in
    let longer : length c.push.new.self.items ≡ length made + 1 =
    ap length c.in_ok-push.ensures.items ∙ length_push made c.in_ok-user_dual.field-0 in (
      subst (λ j. MadeInOrder (RowDualFits states leaf) row_place (row_dual states leaf) rows j
          c.push.new.self.items) (sym longer)
          (made_step (RowDualFits states leaf) row_place (row_dual states leaf) rows
          (length made) made c.loop-row.invariant.0 c.in-Some.row.now at.is at.within
          c.in_ok-user_dual.field-0 c.push.new.self.items
          c.in_ok-user_dual.ensures.0 c.in_ok-user_dual.ensures.1 c.in_ok-push.ensures.items),
      at.rest_is ∙ ap (λ j. drop j rows) (sym longer),
    )

pub returns : goal.returns
returns g c =
    let states = map g.B.Bridge.state c.args.bridges.now in
    let leaf = duals_by c.args.places.now c.args.y.now in
    let rows = c.args.rows.now.items in
    let made = c.loop-row.duals.items in
    made_end (RowDualFits states leaf) row_place (row_dual states leaf) rows (length made) made
    c.loop-row.invariant.0 (counted_all rows c.loop-row.row-iterator (length made)
    c.loop-row.invariant.1 c.in-None.ensures.steps.0)
