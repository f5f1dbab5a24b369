use Rattle.std.specs.Prelude.{Ok, Err}
use Rattle.leaf_model.specs.ReadThrough.{read_through}
use Rattle.cache_layer.proofs.Solved.{answer_listed, form_listed, handed_on, is_read, right_listed, unmade, unread, unsolved}
use Rattle.cache_layer.specs.Faults.{form_fault, read_fault, solve_fault}
use Rattle.cache_layer.specs.Optimizing.{TellsLeaf}
use Rattle.cache_layer.proofs.solving.leaf_answer.Goals as goal

pub returns-in_err-form : goal.returns-in_err-form
returns-in_err-form c = λ at readable.
    let map = c.args.map.now in
    let stored = c.args.solver.now.leaves in
    let fault = c.in_err-form.field-0.0 in
    handed_on (TellsLeaf map (read_through map stored at) c.args.pivots) c.from_residual.result
    (form_fault fault) c.from_residual.ensures.1
    (unmade map (read_through map stored at) c.args.pivots fault
    (form_listed c.in-Ok.listing map stored c.in-Ok.ensures (Err fault)
    c.in_err-form.ensures.told at readable))

pub returns-in_err-answer : goal.returns-in_err-answer
returns-in_err-answer c = λ at readable.
    let map = c.args.map.now in
    let stored = c.args.solver.now.leaves in
    let form = c.in_ok-form.form in
    let fault = c.in_err-answer.field-0.0 in
    handed_on (TellsLeaf map (read_through map stored at) c.args.pivots)
    c.from_residual-in_err-answer.result (solve_fault fault)
    c.from_residual-in_err-answer.ensures.1
    (unsolved map (read_through map stored at) c.args.pivots form fault
    (form_listed c.in-Ok.listing map stored c.in-Ok.ensures (Ok form) c.in_ok-form.ensures.told at
    readable) c.in_err-answer.ensures.outcome)

pub returns-in_err-leaf : goal.returns-in_err-leaf
returns-in_err-leaf c = λ at readable.
    let map = c.args.map.now in
    let stored = c.args.solver.now.leaves in
    let listing = c.in-Ok.listing in
    let is = c.in-Ok.ensures in
    let form = c.in_ok-form.form in
    let answer = c.in_ok-answer.answer in
    let fault = c.in_err-leaf.field-0.0 in
    handed_on (TellsLeaf map (read_through map stored at) c.args.pivots)
    c.from_residual-in_err-leaf.result (read_fault fault) c.from_residual-in_err-leaf.ensures.1
    (unread map (read_through map stored at) c.args.pivots form answer fault
    (form_listed listing map stored is (Ok form) c.in_ok-form.ensures.told at readable)
    c.in_ok-answer.ensures.outcome
    (answer_listed listing map stored is answer (Err fault) c.in_err-leaf.ensures.told at))

pub returns : goal.returns
returns c = λ at readable.
    let map = c.args.map.now in
    let stored = c.args.solver.now.leaves in
    let listing = c.in-Ok.listing in
    let is = c.in-Ok.ensures in
    let form = c.in_ok-form.form in
    let answer = c.in_ok-answer.answer in
    let leaf = c.in_ok-leaf.leaf in
    is_read map (read_through map stored at) c.args.pivots form answer leaf
    (form_listed listing map stored is (Ok form) c.in_ok-form.ensures.told at readable)
    c.in_ok-answer.ensures.outcome
    (answer_listed listing map stored is answer (Ok leaf) c.in_ok-leaf.ensures.told at)
    (right_listed listing map stored is form answer (Ok leaf) c.in_ok-leaf.ensures.right at readable
    c.in_ok-answer.ensures.right)
