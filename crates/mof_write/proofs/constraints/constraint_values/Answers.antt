use Rattle.std.proofs.Common.{subst}
use Rattle.std.specs.Prelude.{All}
use Rattle.mof_write.specs.Sayable.{IsSayableRow}
use Rattle.mof_write.proofs.constraints.constraint_values.Goals as goal

pub returns-clause-rows : goal.returns-clause-rows
returns-clause-rows c =
    subst (All IsSayableRow) c.rows.ensures.value c.in_ok-put_rows.ensures.fits
