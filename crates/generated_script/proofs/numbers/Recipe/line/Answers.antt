-- The draws before the line are made at once.
use Rattle.std.proofs.Common.{◌<◌, ap, arith}
use Rattle.generated_script.specs.ScriptNumbers.{ScriptNumbers}
use Rattle.generated_script.specs.Parts.{line_count}
use Rattle.generated_script.proofs.Moving.{line_is, starts_at}
use Rattle.generated_script.proofs.numbers.Recipe.line.Goals as goal

pub returns : goal.returns
returns c =
    let low : c.args.k < line_count c.args.self =
    omega (arith, c.if-line_count-k.false, c.line_count.ensures) in
    line_is c.args.self c.args.k c.part_at-part.result c.after-generator.result.state
    c.new-line.result.items c.push_line.new.line.items c.from_vec.result low
    c.part_at-part.ensures.value
    (starts_at c.args.self c.args.k c.part_at-part.result c.draws_before.result
    c.self.inside.seed c.after-generator.result.state c.part_at-part.ensures.value
    c.draws_before.ensures (ap (λ (n : ScriptNumbers). n.seed) c.self.view_is)
    c.after-generator.ensures)
    c.new-line.ensures.items c.in_ok-push_line.ensures.text c.from_vec.ensures
