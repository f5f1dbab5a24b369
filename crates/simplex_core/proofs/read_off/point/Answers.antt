use Rattle.std.proofs.Common.{◌≡◌, ◌<◌, ap, arith, length, slice_index_or, subst, sym, ◌∙◌}
use Rattle.std.proofs.lemmas.List.{length-set}
use Rattle.simplex_form.specs.Board.{point, right_side}
use Rattle.tableau_core.specs.Start.{IsListOf}
use Rattle.simplex_core.proofs.Placing.{next_past, next_placed, point_from}
use Rattle.simplex_core.proofs.read_off.point.Goals as goal
use Rattle.simplex_core.proofs.read_off.point.Goals.{then-column-c, else-column-c}

pub loop-i-preserved : goal.loop-i-preserved
loop-i-preserved g c =
    let i = c.loop-i.i in
    let reals = c.real_count-c.result in
    let j = slice_index_or c.basis.result.now i 0 in
    elim c.if-column-c.branch [
      | then-column-c w ↦ record {
        long = ap (λ v. length v.items) w.x-is ∙ length-set c.loop-i.x.items j w.right.result
            ∙ c.loop-i.invariant.long;
        placed = λ F s k h.
            let row : i < F.rows = omega (arith, h.rows) in
            next_placed F s k reals i j (right_side F s) c.loop-i.x.items c.if-column-c.x.items
            w.right.result (c.loop-i.invariant.placed F s k h) row
            (ap (λ b. slice_index_or b i 0) (c.basis.ensures.columns ∙ h.basis))
            (ap (λ v. v.items) w.x-is) w.if-column-c.true (w.right.ensures ∙ h.rights i row);
      }
      | else-column-c w ↦ record {
        long = ap (λ v. length v.items) w.x-is ∙ c.loop-i.invariant.long;
        placed = λ F s k h.
            next_past F s k reals i j (right_side F s) c.loop-i.x.items c.if-column-c.x.items
            (ap (λ v. v.items) w.x-is) (c.loop-i.invariant.placed F s k h)
            (ap (λ b. slice_index_or b i 0) (c.basis.ensures.columns ∙ h.basis))
            w.if-column-c.false;
      }
    ]

pub returns : goal.returns
returns g c = λ F s k h.
    let rows : c.loop-i.i ≡ F.rows = omega (arith, h.rows) in
    subst (IsListOf F.reals (point F s)) (sym c.from_vec.ensures)
    (point_from F s k c.real_count-c.result c.loop-i.i c.loop-i.x.items (c.real_count-c.ensures
    ∙ h.reals) rows (c.loop-i.invariant.placed F s k h))
