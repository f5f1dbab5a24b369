use Rattle.std.proofs.Common.{◌≡◌, Bool, false, true, rules, sym, ap, ◌∙◌, append-nil}
use Rattle.std.specs.Prelude.{not}
use Rattle.aff_core.specs.Address.{Address}
use Rattle.fresh_bridging.specs.Entries.{expression_in}
use Rattle.touched_items.specs.HeldExpressions.{stays_as}
use Rattle.touched_items.proofs.Loops.{pushed_if}
use Rattle.touched_items.proofs.changed.changed_variables.Goals as goal
use Rattle.touched_items.proofs.changed.changed_variables.Goals.{then-not-branch+in_ok-push, else-not-branch}

pub loop-var-preserved : goal.loop-var-preserved
loop-var-preserved c =
    let p : Address → Bool =
    λ v. not (stays_as c.args.map.now v (expression_in c.args.standing.now v)) in
    let x = c.var-item.result in
    elim c.if-not-branch.branch [
      | then-not-branch+in_ok-push w ↦
          let off : c.in_ok-stays_as.field-0 ≡ false = search rules in
          rw w.changed-is (pushed_if p c.args.vars.now c.loop-var.var-index x c.var-item.is
          c.loop-var-test.true true (ap not (sym off ∙ c.in_ok-stays_as.ensures))
          c.loop-var.changed.items w.push.new.self.items c.loop-var.invariant
          w.in_ok-push.ensures.items)
      | else-not-branch w ↦
          let on : c.in_ok-stays_as.field-0 ≡ true = search rules in
          rw w.changed-is (pushed_if p c.args.vars.now c.loop-var.var-index x c.var-item.is
          c.loop-var-test.true false (ap not (sym on ∙ c.in_ok-stays_as.ensures))
          c.loop-var.changed.items c.loop-var.changed.items c.loop-var.invariant
          (sym (append-nil c.loop-var.changed.items)))
    ]
