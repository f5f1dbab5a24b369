use Rattle.std.specs.Prelude.{◌+◌, length}
use Rattle.std.proofs.Common.{◌∙◌, ap, drop, sym}
use Rattle.aff_core.specs.FunctionLists.{coefficients}
use Rattle.certificates.specs.Duals.{rows_with}
use Rattle.cert_core.specs.Components.{functions_in}
use Rattle.cert_core.specs.Folds.{adjoint_parts, products}
use Rattle.cert_core.proofs.Adding.{adds_end, adds_passed, adds_refused, adds_step, AddsAsAll}
use Rattle.cert_core.proofs.Rows.{next_parts, row_size, rows_done, row_turn}
use Rattle.cert_core.specs.CountedLaws.{counted_all}
use Rattle.cert_core.proofs.adjoint.add_rows.Goals as goal

pub add_components-requires-clause-duals : goal.add_components-requires-clause-duals
add_components-requires-clause-duals c =
    let turn = row_turn c.args.rows.now.items c.loop-i.row-iterator c.next.new.self
    c.args.duals.now c.loop-i.i c.index-duals-i.result c.in-Some.row.now
    c.loop-i.invariant.1 c.in-Some.ensures.steps c.index-duals-i.is in
    ap length c.as_slice.ensures
    ∙ row_size c.args.duals.now c.args.rows.now.items c.loop-i.i c.index-duals-i.result
    c.in-Some.row.now c.requires.duals turn.duals turn.row turn.within
    ∙ ap length (sym c.components_of.ensures)

pub returns-in_err-add_components : goal.returns-in_err-add_components
returns-in_err-add_components c =
    let turn = row_turn c.args.rows.now.items c.loop-i.row-iterator c.next.new.self
    c.args.duals.now c.loop-i.i c.index-duals-i.result c.in-Some.row.now
    c.loop-i.invariant.1 c.in-Some.ensures.steps c.index-duals-i.is in
    let hs = rows_with c.args.duals.now c.args.rows.now.items in
    let i = c.loop-i.i in
    let next = next_parts c.args.duals.now c.args.rows.now.items i c.index-duals-i.result
    c.in-Some.row.now c.as_slice.result.now (functions_in c.components_of.result)
    c.requires.duals.each turn.duals turn.row turn.within
    c.as_slice.ensures c.components_of.ensures in
    adds_passed c.from_residual.result c.in_err-add_components.field-0.0 c.args.variables.now
    c.args.sums.now c.add_components.new.sums (adjoint_parts hs) c.from_residual.ensures.1
    (adds_refused c.args.variables.now c.args.sums.now (adjoint_parts hs) c.loop-i.sums
    (adjoint_parts (drop i hs))
    (λ v. products c.as_slice.result.now (coefficients (functions_in c.components_of.result) v))
    (adjoint_parts (drop (i + 1) hs)) c.loop-i.invariant.0 next c.in_err-add_components.field-0.0
    c.add_components.new.sums c.add_components.new.sums c.in_err-add_components.ensures)

pub loop-i-preserved : goal.loop-i-preserved
loop-i-preserved c =
    let turn = row_turn c.args.rows.now.items c.loop-i.row-iterator c.next.new.self
    c.args.duals.now c.loop-i.i c.index-duals-i.result c.in-Some.row.now
    c.loop-i.invariant.1 c.in-Some.ensures.steps c.index-duals-i.is in
    let hs = rows_with c.args.duals.now c.args.rows.now.items in
    let i = c.loop-i.i in
    let next = next_parts c.args.duals.now c.args.rows.now.items i c.index-duals-i.result
    c.in-Some.row.now c.as_slice.result.now (functions_in c.components_of.result)
    c.requires.duals.each turn.duals turn.row turn.within
    c.as_slice.ensures c.components_of.ensures in
    let step : AddsAsAll c.args.variables.now c.args.sums.now c.add_components.new.sums
    (adjoint_parts hs) (adjoint_parts (drop (c.loop-i.i + 1) hs)) =
    adds_step c.args.variables.now c.args.sums.now (adjoint_parts hs) c.loop-i.sums
    (adjoint_parts (drop i hs))
    (λ v. products c.as_slice.result.now (coefficients (functions_in c.components_of.result) v))
    (adjoint_parts (drop (i + 1) hs)) c.loop-i.invariant.0 next c.add_components.new.sums
    c.in_ok-add_components.ensures in (step, turn.rest_is)

pub returns : goal.returns
returns c =
    let hs = rows_with c.args.duals.now c.args.rows.now.items in
    let end = rows_done c.args.duals.now c.args.rows.now.items c.loop-i.i c.requires.duals.each
    (counted_all c.args.rows.now.items c.loop-i.row-iterator c.loop-i.i
    c.loop-i.invariant.1 c.in-None.ensures.steps.0) in
    adds_end c.args.variables.now c.args.sums.now (adjoint_parts hs) c.loop-i.sums
    (adjoint_parts (drop c.loop-i.i hs)) c.loop-i.invariant.0 (λ v. ap (λ l. adjoint_parts l v) end)
