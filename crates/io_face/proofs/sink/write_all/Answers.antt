-- A write adds the next bytes to those before.
use Rattle.std.proofs.Common.{rules, arith, ◌∙◌}
use Rattle.std.proofs.lemmas.Grind.{common_steps}
use Rattle.io_face.specs.SinkLaws.{Adds-next}
use Rattle.io_face.proofs.sink.write_all.Goals as goal

pub loop-done-preserved : goal.loop-done-preserved
loop-done-preserved g c = record {
  fits = search (rules, common_steps);
  added = Adds-next _ _ _ c.args.text.now c.loop-done.done c.in_ok-done.field-0
      c.loop-done.invariant.added c.in_ok-done.ensures.added;
  count = omega arith;
  sound = c.in_ok-done.ensures.sound ∙ c.loop-done.invariant.sound;
}
