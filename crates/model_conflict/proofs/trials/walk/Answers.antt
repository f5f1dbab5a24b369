use Rattle.std.proofs.Common.{◌≡◌, ◌<◌, ◌≤◌, arith, length, subst, sym, Ok}
use Rattle.cache_layer.specs.Cached.{state_of}
use Rattle.model_conflict.proofs.Tried.{count_is, handed_on}
use Rattle.model_conflict.proofs.Walking.{all_tried, at_start, can_try, one_failed, one_more, is_first_row}
use Rattle.model_conflict.proofs.trials.walk.Goals as goal
use Rattle.model_conflict.specs.Walk.{FindsFrom}
use Rattle.model_conflict.specs.declared.found.Found.TheVariants.{Conflict}

pub loop-init : goal.loop-init
loop-init g c =
    at_start (state_of c.args.cache.now) c.args.pivots c.args.duals c.requires.can
    c.none_needed-walked.result c.none_needed-walked.ensures.rows
    c.none_needed-walked.ensures.points c.none_needed-walked.ensures.duals

pub try_first-requires : goal.try_first-requires
try_first-requires g c =
    let start = state_of c.args.cache.now in
    let count : c.len-count.result ≡ length start.model.rows =
    count_is c.args.cache.now.user c.model.result.now c.rows.result.now.items c.len-count.result
    c.len-count.ensures.count c.rows.ensures.value c.model.ensures.value in
    let more : c.loop.counter < length start.model.rows = omega (arith, count, c.loop-test.true) in
    record {
      can = can_try start c.args.pivots c.args.duals c.loop.counter (state_of c.loop.cache)
          c.loop.walked c.loop.invariant more;
      first = is_first_row start c.args.pivots c.args.duals c.loop.counter (state_of c.loop.cache)
          c.loop.walked c.loop.invariant more;
    }

pub loop-preserved : goal.loop-preserved
loop-preserved g c =
    let start = state_of c.args.cache.now in
    let count : c.len-count.result ≡ length start.model.rows =
    count_is c.args.cache.now.user c.model.result.now c.rows.result.now.items c.len-count.result
    c.len-count.ensures.count c.rows.ensures.value c.model.ensures.value in
    let more : c.loop.counter < length start.model.rows = omega (arith, count, c.loop-test.true) in
    one_more start c.args.pivots c.args.duals c.loop.counter (state_of c.loop.cache) c.loop.walked
    c.loop.invariant (state_of c.try_first.new.cache) c.try_first.new.walked
    c.in_ok-try_first.ensures more

pub returns-in_err-try_first-clause-finds : goal.returns-in_err-try_first-clause-finds
returns-in_err-try_first-clause-finds g c =
    let start = state_of c.args.cache.now in
    let count : c.len-count.result ≡ length start.model.rows =
    count_is c.args.cache.now.user c.model.result.now c.rows.result.now.items c.len-count.result
    c.len-count.ensures.count c.rows.ensures.value c.model.ensures.value in
    let more : c.loop.counter < length start.model.rows = omega (arith, count, c.loop-test.true) in
    let why = c.in_err-try_first.field-0.0 in
    handed_on (FindsFrom start c.args.pivots c.args.duals) c.from_residual.result why
    c.from_residual.ensures.1
    (one_failed start c.args.pivots c.args.duals c.loop.counter (state_of c.loop.cache)
    c.loop.walked c.loop.invariant why (state_of c.try_first.new.cache) c.try_first.new.walked
    c.in_err-try_first.ensures more)

pub returns-clause-finds : goal.returns-clause-finds
returns-clause-finds g c =
    let start = state_of c.args.cache.now in
    let count : c.len-count.result ≡ length start.model.rows =
    count_is c.args.cache.now.user c.model.result.now c.rows.result.now.items c.len-count.result
    c.len-count.ensures.count c.rows.ensures.value c.model.ensures.value in
    let all : length start.model.rows ≤ c.loop.counter =
    omega (arith, count, c.loop-test.false) in
    subst (λ d. FindsFrom start c.args.pivots c.args.duals
    (Ok (Conflict c.loop.walked.rows d c.loop.walked.points))) (sym c.certificate_of.ensures)
    (all_tried start c.args.pivots c.args.duals c.loop.counter (state_of c.loop.cache)
    c.loop.walked c.loop.invariant all).0

pub returns-clause-rows : goal.returns-clause-rows
returns-clause-rows g c =
    let start = state_of c.args.cache.now in
    let count : c.len-count.result ≡ length start.model.rows =
    count_is c.args.cache.now.user c.model.result.now c.rows.result.now.items c.len-count.result
    c.len-count.ensures.count c.rows.ensures.value c.model.ensures.value in
    let all : length start.model.rows ≤ c.loop.counter =
    omega (arith, count, c.loop-test.false) in
    (all_tried start c.args.pivots c.args.duals c.loop.counter (state_of c.loop.cache)
    c.loop.walked c.loop.invariant all).1

pub returns-clause-groups : goal.returns-clause-groups
returns-clause-groups g c = c.loop.invariant.groups
