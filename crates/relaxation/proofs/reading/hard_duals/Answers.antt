use Rattle.std.proofs.Common.{ap, arith, length, sym, ◌∙◌}
use Rattle.std.specs.Vec.Iter.{into_iter_items}
use Rattle.std.proofs.lemmas.List.{nil_from_length}
use Rattle.relaxed_model.specs.Relaxed.{at_hard_rows}
use Rattle.relaxation.proofs.LoopLemmas.{duals_first, no_duals, rest_all, rest_more}
use Rattle.relaxation.specs.Answers.{own_duals}
use Rattle.relaxation.proofs.reading.hard_duals.Goals as goal

pub loop-own-preserved : goal.loop-own-preserved
loop-own-preserved c =
    let own = c.in-Some.own in
    let row = c.in-Some-next.row.now in
    let ys = into_iter_items c.loop-own.own-iterator in
    let others = into_iter_items c.next.new.self in (
      rest_more c.loop-own.kept.items c.push_hard.new.kept.items (own_duals row own)
          (at_hard_rows c.next-in-loop-own.new.self others) (at_hard_rows c.loop-own.left ys) _
          c.loop-own.invariant.0
          (duals_first c.loop-own.left c.next-in-loop-own.new.self row ys others own
          c.in-Some-next.ensures.steps c.in-Some.ensures.steps.0)
          c.in_ok-push_hard.ensures,
      let was = c.loop-own.invariant.1 in
          let gone = c.in-Some.ensures.steps.1 in
          let short = ap length c.in-Some.ensures.steps.0 in
          omega arith,
    )

pub returns : goal.returns
returns c =
    let ys = into_iter_items c.loop-own.own-iterator in
    c.from_vec-2.ensures
    ∙ rest_all c.loop-own.kept.items (at_hard_rows c.loop-own.left ys) _ c.loop-own.invariant.0
    (no_duals c.loop-own.left ys
    (nil_from_length ys (sym c.loop-own.invariant.1 ∙ c.in-None.ensures.steps.0)))
