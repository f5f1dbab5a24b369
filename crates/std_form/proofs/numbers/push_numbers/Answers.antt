use Rattle.std.proofs.Common.{◌++◌, ◌∙◌, ap}
use Rattle.aff_core.specs.Function.{coefficient}
use Rattle.std_form.specs.Borrowed.{function_in}
use Rattle.std_form.proofs.Pushes.{chunk, chunks, pushed_all}
use Rattle.std_form.proofs.numbers.push_numbers.Goals as goal

pub returns : goal.returns
returns c =
    let number = coefficient (function_in c.args.function.now) in
    pushed_all (chunk c.args.negated number) c.args.variables.now c.loop-i.i-index
    c.args.cells.now.items c.loop-i.cells.items c.loop-i-test.false c.loop-i.invariant
    ∙ ap (λ cells. c.args.cells.now.items ++ cells)
    (chunks c.args.negated number c.args.variables.now)
