-- The draws of a line lead to the state before the next.
use Rattle.std.proofs.Common.{◌<◌, arith}
use Rattle.generated_script.specs.Parts.{line_count}
use Rattle.generated_script.proofs.Moving.{moves_on}
use Rattle.generated_script.proofs.script.ScriptLines.next_line.Goals as goal

pub invariant_of-self : goal.invariant_of-self
invariant_of-self c =
    let low : c.self.inside.next < line_count c.self.inside.recipe =
    omega (arith, c.self.invariant.0, c.if-self-line_count.false, c.line_count.ensures) in (
      omega (arith, low),
      moves_on c.self.inside.recipe c.self.inside.next c.part_at-part.result
          c.self.inside.generator.state c.push_line.new.generator.state low
          c.part_at-part.ensures.value c.self.invariant.1 c.in_ok-push_line.ensures.moved,
    )
