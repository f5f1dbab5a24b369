use Rattle.std.proofs.Common.{arith, drop, ◌∙◌, ◌+◌}
use Rattle.sparse_lists.specs.JoinedLaws.{appended_all, appended_at, appended_end, appended_low, appended_more, appended_none, place_high, place_within}
use Rattle.sparse_lists.proofs.joining.append.Goals as goal

pub loop-term-init : goal.loop-term-init
loop-term-init c =
    appended_none c.args.all.now c.args.list.now c.terms-term-items.result.now
    c.terms-term-items.ensures.terms c.terms-term-items.ensures.numbers

pub put-requires : goal.put-requires
put-requires c =
    place_high c.args.all.now c.args.list.now c.loop-term.all c.term-item.result
    (drop (c.loop-term.term-index + 1) c.terms-term-items.result.now)
    (appended_at c.args.all.now c.args.list.now c.loop-term.all c.terms-term-items.result.now
    c.loop-term.term-index c.term-item.result c.loop-term-test.true c.term-item.is
    c.loop-term.invariant) c.len-start.result c.len-start.ensures

pub loop-term-preserved : goal.loop-term-preserved
loop-term-preserved c =
    appended_more c.args.all.now c.args.list.now c.loop-term.all c.term-item.result
    (drop (c.loop-term.term-index + 1) c.terms-term-items.result.now)
    (appended_at c.args.all.now c.args.list.now c.loop-term.all c.terms-term-items.result.now
    c.loop-term.term-index c.term-item.result c.loop-term-test.true c.term-item.is
    c.loop-term.invariant) c.len-start.result c.len-start.ensures c.put.new.self c.in_ok-put.ensures.ok

pub pad-requires : goal.pad-requires
pad-requires c =
    appended_low c.args.all.now c.args.list.now c.loop-term.all c.len-start.result c.in_ok-end.end
    c.args.len c.len-start.ensures c.in_ok-end.ensures.end c.requires
    (appended_end c.args.all.now c.args.list.now c.loop-term.all c.terms-term-items.result.now
    c.loop-term.term-index c.loop-term-test.false c.loop-term.invariant)

pub returns : goal.returns
returns c =
    c.pad.ensures
    ∙ appended_all c.args.all.now c.args.list.now c.loop-term.all c.len-start.result c.in_ok-end.end
    c.args.len c.len-start.ensures c.in_ok-end.ensures.end c.requires
    (appended_end c.args.all.now c.args.list.now c.loop-term.all c.terms-term-items.result.now
    c.loop-term.term-index c.loop-term-test.false c.loop-term.invariant)

pub overflow_add-start : goal.overflow_add-start
overflow_add-start c =
    let within = place_within c.args.all.now c.args.list.now c.loop-term.all c.term-item.result
    (drop (c.loop-term.term-index + 1) c.terms-term-items.result.now)
    (appended_at c.args.all.now c.args.list.now c.loop-term.all c.terms-term-items.result.now
    c.loop-term.term-index c.term-item.result c.loop-term-test.true c.term-item.is
    c.loop-term.invariant) in
    omega (arith, within, c.requires, c.in_ok-end.ensures.fits)
