use Rattle.std.specs.Prelude.{Err, Ok}
use Rattle.std_form.specs.Answers.{answer_of}
use Rattle.cache_layer.proofs.Optimized.{is_carried, is_stopped, told_here}
use Rattle.cache_layer.proofs.Solved.{handed_on}
use Rattle.cache_layer.specs.Bridging.{state_by}
use Rattle.cache_layer.specs.Outcome.{IsOptimized}
use Rattle.lazy_bridge.specs.ReadableLaws.{readable_here}
use Rattle.cache_layer.proofs.optimize.optimize.Goals as goal

pub returns-in_err-answer-clause-outcome : goal.returns-in_err-answer-clause-outcome
returns-in_err-answer-clause-outcome g c =
    let lazy = c.args.lazy.now in
    let model = c.args.model.now.model in
    let fault = c.in_err-answer.field-0.0 in
    handed_on (IsOptimized (state_by lazy lazy.bridges.table model) c.args.pivots)
    c.from_residual.result fault c.from_residual.ensures.1
    (is_stopped lazy model c.requires c.args.pivots lazy.map fault
    (told_here lazy c.map.result.now c.solver.result.now c.args.pivots (Err fault)
    c.map.ensures.map c.solver.ensures
    (readable_here lazy model c.table-native.ensures.sound c.table-native.ensures.native
    c.requires) c.in_err-answer.ensures))

pub certificate-requires-clause-right : goal.certificate-requires-clause-right
certificate-requires-clause-right g c =
    let lazy = c.args.lazy.now in
    let model = c.args.model.now.model in
    (told_here lazy c.map.result.now c.solver.result.now c.args.pivots
    (Ok c.in_ok-answer.answer) c.map.ensures.map c.solver.ensures
    (readable_here lazy model c.table-native.ensures.sound c.table-native.ensures.native
    c.requires) c.in_ok-answer.ensures).1

pub returns-clause-outcome : goal.returns-clause-outcome
returns-clause-outcome g c =
    let lazy = c.args.lazy.now in
    let model = c.args.model.now.model in
    is_carried lazy model c.requires c.args.pivots (answer_of lazy.map c.in_ok-answer.answer)
    (told_here lazy c.map.result.now c.solver.result.now c.args.pivots
    (Ok c.in_ok-answer.answer) c.map.ensures.map c.solver.ensures
    (readable_here lazy model c.table-native.ensures.sound c.table-native.ensures.native
    c.requires) c.in_ok-answer.ensures).0
    c.certificate.result (c.certificate.ensures.told c.requires)
