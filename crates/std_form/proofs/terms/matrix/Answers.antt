use Rattle.std.proofs.Common.{map, subst, sym}
use Rattle.std_form.specs.Borrowed.{equation_in}
use Rattle.std_form.specs.Gathered.{AreColumns}
use Rattle.std_form.proofs.terms.matrix.Goals as goal

pub put_rows-requires-clause-columns : goal.put_rows-requires-clause-columns
put_rows-requires-clause-columns c =
    subst (AreColumns (map equation_in c.args.equations.now)) (sym c.deref.ensures.value)
    c.in_ok-columns.ensures.columns
