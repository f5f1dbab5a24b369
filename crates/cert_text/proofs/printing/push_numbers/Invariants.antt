use Rattle.std.proofs.Common.{drop}
use Rattle.certificates.specs.Points.{variables_of}
use Rattle.cert_text.specs.Left.{variables_left}
use Rattle.cert_text.proofs.Printed.{VariablesPrinted}
use Rattle.cert_text.proofs.printing.push_numbers.Given as goal

abbrev pub invariant-loop-number : goal.invariant-loop-number
invariant-loop-number l =
    VariablesPrinted l.word (variables_of l.groups.items) l.numbers l.fn.text.items
    (variables_left l.variables) (drop l.number-index l.numbers) l.text.items
