use Rattle.std.specs.Prelude.{◌≡◌}
use Rattle.std.proofs.Common.{◌∙◌, ap}
use Rattle.cert_core.specs.Folds.{AddUp, gap_parts_of}
use Rattle.certificates.specs.Duals.{group_with}
use Rattle.ratio_core.specs.Folds.{sum_from}
use Rattle.adjoint_core.specs.CarriedBack.{group_place}
use Rattle.adjoint_core.specs.Told.{told_at}
use Rattle.adjoint_core.proofs.InOrder.{told_err}
use Rattle.adjoint_core.proofs.gap.with_group.Goals as goal

pub returns-in-Err : goal.returns-in-Err
returns-in-Err c = λ w is.
    let sum = c.args.sum.now in
    let parts = gap_parts_of (group_with w c.args.group.now) in
    told_err c.in-Err.fault (AddUp sum parts) _ (λ q. q ≡ sum_from sum parts)
    (group_place c.args.group.now) c.of_number.result (c.in-Err.ensures w is)
    (c.of_number.ensures ∙ ap (λ p. told_at p c.in-Err.fault) c.root.ensures)
