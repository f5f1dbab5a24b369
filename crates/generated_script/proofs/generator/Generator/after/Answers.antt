-- Each turn halves the draws that are left and squares the map.
use Rattle.std.proofs.Common.{◌∙◌, ap}
use Rattle.std.specs.Fn.{iterate}
use Rattle.generated_script.specs.Jump.{mapped}
use Rattle.generated_script.proofs.Jumps.{of_one_draw, squared_even, squared_odd}
use Rattle.generated_script.proofs.generator.Generator.after.Goals as goal
use Rattle.generated_script.proofs.generator.Generator.after.Goals.{then-left-eq1, else-left-eq1}

pub loop-left-init : goal.loop-left-init
loop-left-init c =
    ap (λ m. iterate (mapped m) c.args.draws c.args.self.state) c.one_draw-map.ensures
    ∙ of_one_draw c.args.draws c.args.self.state

pub loop-left-preserved : goal.loop-left-preserved
loop-left-preserved c = elim c.if-left-eq1.branch [
  | then-left-eq1 w ↦ squared_odd c.loop-left.map c.twice-map.result c.loop-left.left
      c.loop-left.state c.if-left-eq1.state c.twice-map.ensures
      (w.state-is ∙ w.apply-state.ensures) w.if-left-eq1.true ∙ c.loop-left.invariant
  | else-left-eq1 w ↦ squared_even c.loop-left.map c.twice-map.result c.loop-left.left
      c.loop-left.state c.if-left-eq1.state c.twice-map.ensures w.state-is w.if-left-eq1.false
      ∙ c.loop-left.invariant
]
