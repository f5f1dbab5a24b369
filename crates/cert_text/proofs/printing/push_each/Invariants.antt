use Rattle.std.proofs.Common.{drop}
use Rattle.cert_text.proofs.Printed.{NumbersPrinted}
use Rattle.cert_text.proofs.printing.push_each.Given as goal

abbrev pub invariant-loop-number : goal.invariant-loop-number
invariant-loop-number l =
    NumbersPrinted l.numbers l.fn.text.items (drop l.number-index l.numbers) l.text.items
