-- One more term.
use Rattle.std.proofs.Common.{◌∙◌, ap}
use Rattle.generated_script.specs.Generator.{step}
use Rattle.generated_script.proofs.Costs.{term_more}
use Rattle.generated_script.proofs.Draws.{after_one_more}
use Rattle.generated_script.proofs.lines.push_objective.Goals as goal

pub loop-place-preserved : goal.loop-place-preserved
loop-place-preserved c = record {
  text = term_more c.push.new.line.items c.loop-place.line.items c.push_to.new.line.items
      c.args.generator.now.state c.loop-place.generator.state c.draw.result c.loop-place.place
      c.loop-place.invariant.text c.loop-place.invariant.moved c.draw.ensures.drawn
      c.in_ok-push_to.ensures;
  moved = c.draw.ensures.moved ∙ ap step c.loop-place.invariant.moved
      ∙ after_one_more c.loop-place.place c.args.generator.now.state;
}
