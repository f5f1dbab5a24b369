use Rattle.std.proofs.Common.{◌≡◌}
use Rattle.certificates.specs.Points.{variables_of}
use Rattle.cert_text.specs.Left.{variables_left}
use Rattle.cert_text.specs.Reading.{point_of, variable_number}
use Rattle.cert_text.proofs.EachLine.{line_left}
use Rattle.cert_text.proofs.reading.read_numbers.Given as goal

abbrev pub invariant-loop-var : goal.invariant-loop-var
invariant-loop-var l =
    line_left (variable_number l.word) l.numbers.items (variables_left l.var-iterator) l.lines
    ≡ point_of (variables_of l.groups.items) l.word l.fn.lines
