use Rattle.cert_core.specs.Points.{numbers_in}
use Rattle.cert_core.specs.Readings.{one_of}
use Rattle.cert_core.proofs.Evaluated.{read_variable}
use Rattle.cert_core.proofs.readings.ValueOrSlope.of_variable.Goals as goal

pub returns : goal.returns
returns c =
    read_variable c.plus_terms.result (one_of c.args.self) c.zero.result c.one.result c.args.var.now
    (numbers_in c.args.at.now) c.zero.ensures c.one.ensures c.plus_terms.ensures
