use Rattle.std.proofs.Common.{slice_set, ◌+◌, subst, sym, true≢false, ◌∙◌}
use Rattle.tableau_core.specs.ItemLaws.{item_is}
use Rattle.tableau_core.proofs.RowSteps.{IsNotedTo, noted_here, noted_none, noted_past}
use Rattle.tableau_core.proofs.places.note_places.Goals as goal
use Rattle.tableau_core.proofs.places.note_places.Goals.{then-not-is_zero, else-not-is_zero}

pub loop-j-init : goal.loop-j-init
loop-j-init c = noted_none c.args.row.now c.args.places.now c.requires

pub loop-j-preserved : goal.loop-j-preserved
loop-j-preserved c =
    elim c.if-not-is_zero.branch [
      | then-not-is_zero w ↦
          subst (λ places. IsNotedTo c.args.row.now places c.if-not-is_zero.used (c.loop-j.j + 1))
          (sym w.places-is)
          (subst (λ used. IsNotedTo c.args.row.now (slice_set c.loop-j.places c.loop-j.used
          c.loop-j.j) used (c.loop-j.j + 1)) (sym w.used-is)
          (noted_here c.args.row.now c.loop-j.places c.loop-j.used c.loop-j.j c.loop-j.invariant
          c.loop-j-test.true
          (λ z. true≢false (sym (c.is_zero.ensures.1
          (item_is c.args.row.now c.loop-j.j c.index-row-j.result c.loop-j-test.true
          c.index-row-j.is ∙ z)) ∙ w.if-not-is_zero.true))))
      | else-not-is_zero w ↦
          subst (λ places. IsNotedTo c.args.row.now places c.if-not-is_zero.used (c.loop-j.j + 1))
          (sym w.places-is)
          (subst (λ used. IsNotedTo c.args.row.now c.loop-j.places used (c.loop-j.j + 1))
          (sym w.used-is)
          (noted_past c.args.row.now c.loop-j.places c.loop-j.used c.loop-j.j c.loop-j.invariant
          c.loop-j-test.true
          (sym (item_is c.args.row.now c.loop-j.j c.index-row-j.result c.loop-j-test.true
          c.index-row-j.is) ∙ c.is_zero.ensures.0 w.if-not-is_zero.false)))
    ]
