use Rattle.std.proofs.Common.{◌≡◌}
use Rattle.model_bridging.specs.Kinds.{first_missing, told}
use Rattle.model_bridging.proofs.KindSteps.{row_kinds}
use Rattle.model_bridging.proofs.kinds.check_rows.Given as goal

abbrev pub invariant-loop-row : goal.invariant-loop-row
invariant-loop-row g l =
    let choice = (g.R.Rewriter.means l.rewriter).choice in
    first_missing choice (row_kinds (told l.kept) l.row-iterator)
    ≡ first_missing choice (row_kinds (told l.kept) l.rows.items)
