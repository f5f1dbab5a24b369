use Rattle.std.proofs.Common.{arith}
use Rattle.ratio_core.proofs.Printed.{denominator_written, nothing_written}
use Rattle.ratio_core.proofs.text.put_denominator.Goals as goal

pub returns-then-den-eq1-clause-written : goal.returns-then-den-eq1-clause-written
returns-then-den-eq1-clause-written c =
    nothing_written c.args.text.now c.args.den c.told-text c.if-den-eq1.true

pub returns-clause-written : goal.returns-clause-written
returns-clause-written c =
    denominator_written c.args.text.now c.put_digits-slash.new.text c.args.den
    c.put_digits-slash.result
    c.told-text c.put_digits-slash.array_long (omega arith) (omega arith) c.if-den-eq1.false
    c.put_digits-slash.ensures.written
