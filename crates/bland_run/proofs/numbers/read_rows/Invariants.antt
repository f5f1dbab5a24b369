use Rattle.std.proofs.Common.{◌≡◌}
use Rattle.script_tokens.specs.Each.{each, each_after}
use Rattle.bland_run.specs.Reading.{numbers_in}
use Rattle.bland_run.proofs.numbers.read_rows.Given as goal

abbrev pub invariant-loop-line : goal.invariant-loop-line
invariant-loop-line l =
    each_after numbers_in l.rows.items l.line-iterator ≡ each numbers_in l.fn.lines
