use Rattle.std.proofs.Common.{◌+◌, ◌++◌, ◌∷◌, [], drop, ap, ◌∙◌, sym, refl}
use Rattle.map_laws.specs.LoopLaws.{next_item}
use Rattle.leaf_update.proofs.rows.drop_rows.Goals as goal
use Rattle.leaf_update.proofs.PhaseSteps.{drops_one_row, drops_rows_more, next_stands}

pub drop_row-requires-clause-there : goal.drop_row-requires-clause-there
drop_row-requires-clause-there c =
    let l = c.loop-at in
    let gone = c.args.gone.now in
    let next = next_item gone gone l.at-index c.at-item.result refl c.at-item.is
    c.loop-at-test.true in
    next_stands c.args.map.now c.args.solver.now.leaves l.map l.solver.leaves gone
    l.invariant.done.0 (drop (l.at-index + 1) gone) c.at-item.result l.at-index c.requires.named
    c.requires.apart (ap (λ ks. l.invariant.done.0 ++ ks) (sym next) ∙ l.invariant.done.1)
    c.requires.there l.invariant.done.2

pub loop-at-preserved : goal.loop-at-preserved
loop-at-preserved c =
    let l = c.loop-at in
    let gone = c.args.gone.now in
    let at = c.at-item.result in
    let next = next_item gone gone l.at-index at refl c.at-item.is c.loop-at-test.true in
    record {
      done =
          drops_rows_more c.args.map.now l.map c.drop_row.new.map c.args.solver.now.leaves
          l.solver.leaves c.drop_row.new.solver.leaves gone l.invariant.done.0 (at ∷ [])
          (drop (l.at-index + 1) gone) l.at-index 1 c.requires.apart
          (ap (λ ks. l.invariant.done.0 ++ ks) (sym next) ∙ l.invariant.done.1)
          l.invariant.done.2
          (drops_one_row l.map l.solver.leaves at 1 c.drop_row.new.map
          c.drop_row.new.solver.leaves c.drop_row.ensures.dropped);
    }
