use Rattle.std.proofs.Common.{◌≡◌, ◌<◌, ap, arith, length, slice_index_or, slice_set, ◌∙◌}
use Rattle.std.proofs.lemmas.List.{length-set}
use Rattle.ratio_core.specs.Rational.{neg_ℚ}
use Rattle.simplex_form.specs.Board.{entry}
use Rattle.simplex_laws.specs.AgreementLaws.{real_column}
use Rattle.simplex_core.proofs.Placing.{next_past, next_placed, ray_from}
use Rattle.simplex_core.proofs.read_off.ray.Goals as goal
use Rattle.simplex_core.proofs.read_off.ray.Goals.{then-column-c, else-column-c}

pub loop-i-preserved : goal.loop-i-preserved
loop-i-preserved g c =
    let i = c.loop-i.i in
    let q = c.args.q in
    let reals = c.real_count-c.result in
    let j = slice_index_or c.basis.result.now i 0 in
    elim c.if-column-c.branch [
      | then-column-c w ↦ record {
        long = ap (λ v. length v.items) w.d-is ∙ length-set c.loop-i.d.items j w.neg.result
            ∙ c.loop-i.invariant.long;
        placed = λ F s k h.
            let row : i < F.rows = omega (arith, h.rows) in
            let real : q < F.reals = omega (arith, h.reals) in
            next_placed F s k reals i j (λ i. neg_ℚ (entry F s q i)) c.loop-i.d.items
            c.if-column-c.d.items w.neg.result (c.loop-i.invariant.placed F s k h) row
            (ap (λ b. slice_index_or b i 0) (c.basis.ensures.columns ∙ h.basis))
            (ap (λ v. v.items) w.d-is) w.if-column-c.true (w.neg.ensures
            ∙ ap neg_ℚ (w.entry.ensures ∙ h.entries i q row
            (real_column q F.reals F.rows real)));
      }
      | else-column-c w ↦ record {
        long = ap (λ v. length v.items) w.d-is ∙ c.loop-i.invariant.long;
        placed = λ F s k h.
            next_past F s k reals i j (λ i. neg_ℚ (entry F s q i)) c.loop-i.d.items
            c.if-column-c.d.items (ap (λ v. v.items) w.d-is) (c.loop-i.invariant.placed F s k h)
            (ap (λ b. slice_index_or b i 0) (c.basis.ensures.columns ∙ h.basis))
            w.if-column-c.false;
      }
    ]

pub returns : goal.returns
returns g c = λ F s k h low.
    let rows : c.loop-i.i ≡ F.rows = omega (arith, h.rows) in
    let real : c.args.q < c.real_count-c.result = omega arith in
    ray_from F s k c.real_count-c.result c.loop-i.i c.args.q c.loop-i.d.items c.from_vec.result
    (c.real_count-c.ensures ∙ h.reals) rows real low (c.loop-i.invariant.placed F s k h)
    (c.from_vec.ensures ∙ ap (λ x. slice_set c.loop-i.d.items c.args.q x) c.one.ensures)
