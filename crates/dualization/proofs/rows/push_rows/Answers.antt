use Rattle.std.specs.Prelude.{◌+◌, ◌++◌, map}
use Rattle.std.proofs.Common.{◌∙◌, ap, arith, sym}
use Rattle.certificates.specs.Points.{addresses_of}
use Rattle.dual_model.specs.DualOf.{row_for}
use Rattle.dual_model.specs.GroupRowLaws.{own_total}
use Rattle.cert_core.specs.CountedLaws.{counted_next}
use Rattle.dualization.specs.DualEdits.{edit_of_row}
use Rattle.dualization.proofs.LoopLemmas.{rest_more}
use Rattle.dualization.proofs.RowLemmas.{edits_from, next_edits}
use Rattle.dualization.proofs.rows.push_rows.Goals as goal

pub loop-i-preserved : goal.loop-i-preserved
loop-i-preserved c =
    let model = c.args.model.now.model in
    let names = c.args.names.now in
    let g = c.in-Some.group.now in
    let left = c.loop-i.group-iterator in
    let rest = c.next.new.self in
    let i = c.loop-i.i in
    let n = c.loop-i.next in
    let steps = c.in-Some.ensures.steps in
    record {
      whole = rest_more c.loop-i.edits.items c.push_row.new.edits.items
          (map (edit_of_row names) (row_for model 0 (i + 1) n (addresses_of g.vars) g.set))
          (edits_from names model 0 ((i + 1) + 1) (n + c.own_count-next.result) rest)
          (edits_from names model 0 (i + 1) n left) _ c.loop-i.invariant.whole
          (ap (edits_from names model 0 (i + 1) n) steps
          ∙ next_edits names model (i + 1) n g rest
          ∙ ap (λ m. map (edit_of_row names) (row_for model 0 (i + 1) n (addresses_of g.vars) g.set)
          ++ edits_from names model 0 ((i + 1) + 1) (n + m) rest) (sym c.own_count-next.ensures)) c.in_ok-push_row.ensures;
      rest = (counted_next model.groups left i c.loop-i.invariant.rest rest g steps).rest_is;
      size = omega (
        arith,
        c.loop-i.invariant.size,
        ap own_total steps,
        c.own_count-next.ensures,
      );
      low = omega (arith, c.loop-i.invariant.low);
    }
