use Rattle.std.specs.Prelude.{slice_index}
use Rattle.std.proofs.Common.{arith, length, subst, sym, ◌+◌, ◌<◌, ◌≤◌}
use Rattle.ratio_core.specs.Rational.{Fits}
use Rattle.tableau_core.specs.Row.{AllFit, IsPutAt, cell}
use Rattle.tableau_core.specs.ItemLaws.{item_is}
use Rattle.tableau_core.proofs.RowSteps.{put_here, put_past, set_fits}
use Rattle.tableau_core.proofs.row.put_at.Goals as goal
use Rattle.tableau_core.proofs.row.put_at.Goals.{then-j-row, else-j-row}

pub loop-i-preserved : goal.loop-i-preserved
loop-i-preserved c =
    let places = c.args.places.now in
    let place = slice_index places c.loop-i.i in
    let made = cell c.args.next.now in
    let long = c.loop-i.invariant.put.long in
    elim c.if-j-row.branch [
      | then-j-row w ↦
          let within : place < length c.args.row.now =
          subst (λ n. place < n) long w.if-j-row.true in
          let number = item_is c.args.next.now place w.index-next-j.result
          (subst (λ n. place < n) (sym c.requires.long) within) w.index-next-j.is in
          record {
            put = subst (IsPutAt places (c.loop-i.i + 1) made c.args.row.now) (sym w.row-is)
                (put_here places c.loop-i.i made c.args.row.now c.loop-i.row c.loop-i.invariant.put
                w.index-next-j.result within number);
            all_fit = subst AllFit (sym w.row-is) (set_fits c.loop-i.row place w.index-next-j.result
                c.loop-i.invariant.all_fit w.if-j-row.true
                (subst Fits (sym number) (c.requires.next_fits place)));
          }
      | else-j-row w ↦
          record {
            put = subst (IsPutAt places (c.loop-i.i + 1) made c.args.row.now) (sym w.row-is)
                (put_past places c.loop-i.i made c.args.row.now c.loop-i.row c.loop-i.invariant.put
                (subst (λ n. n ≤ place) long (omega (arith, w.if-j-row.false))));
            all_fit = subst AllFit (sym w.row-is) c.loop-i.invariant.all_fit;
          }
    ]
