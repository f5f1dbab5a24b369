use Rattle.bland_run.proofs.Shapes.{small_result}
use Rattle.bland_run.proofs.reading.read_lines.Goals as goal

pub returns-clause-small : goal.returns-clause-small
returns-clause-small c =
    small_result c.in-Some-read_size.size c.as_slice.result.now c.form_of.result
    c.in-Some-read_size.ensures.within c.form_of.ensures
