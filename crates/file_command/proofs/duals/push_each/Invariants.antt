use Rattle.std.proofs.Common.{◌≡◌, ◌++◌, drop}
use Rattle.cert_text.specs.Text.{numbers_text}
use Rattle.file_command.proofs.duals.push_each.Given as goal

abbrev pub invariant-loop-number : goal.invariant-loop-number
invariant-loop-number l =
    l.draft ++ numbers_text (drop l.number-index l.numbers) ≡ l.fn.draft ++ numbers_text l.numbers
