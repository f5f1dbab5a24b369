use Rattle.std.proofs.Common.{◌≡◌, drop, map}
use Rattle.model_bridging.specs.Kinds.{first_missing, told}
use Rattle.model_bridging.proofs.KindSteps.{row_kinds}
use Rattle.model_bridging.proofs.found.check_found_rows.Given as goal

abbrev pub invariant-loop-row : goal.invariant-loop-row
invariant-loop-row g l =
    let choice = (g.R.Rewriter.means l.rewriter).choice in
    first_missing choice (row_kinds (told l.kept) (map (λ x. x.now) (drop l.row-index l.rows)))
    ≡ first_missing choice (row_kinds (told l.kept) (map (λ x. x.now) l.rows))
