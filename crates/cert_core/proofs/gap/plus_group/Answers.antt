use Rattle.std.specs.Prelude.{◌≡◌}
use Rattle.std.proofs.Common.{◌∙◌, ap, refl, subst, sym}
use Rattle.ratio_core.specs.Folds.{sum_from}
use Rattle.ratio_core.specs.Rational.{SumFits}
use Rattle.set_core.specs.Membership.{LowFits, low_of}
use Rattle.certificates.specs.Duals.{group_with}
use Rattle.cert_core.specs.Folds.{AddUp, gap_parts_of}
use Rattle.ratio_core.specs.AnsweredLaws.{overflowed}
use Rattle.cert_core.proofs.GroupSteps.{low_alone}
use Rattle.cert_core.proofs.gap.plus_group.Goals as goal

pub returns-in_err-low : goal.returns-in_err-low
unfolding AddUp
returns-in_err-low c = λ w is.
    let parts = gap_parts_of (group_with w c.args.group.now) in
    overflowed c.from_residual.result _ (AddUp c.args.sum.now parts)
    (λ q. q ≡ sum_from c.args.sum.now parts) c.from_residual.ensures.1 refl
    (λ all. c.in_err-low.ensures (subst (LowFits c.args.group.now.set) is all.0))

pub returns-in_err-add : goal.returns-in_err-add
unfolding AddUp
returns-in_err-add c = λ w is.
    let parts = gap_parts_of (group_with w c.args.group.now) in
    overflowed c.from_residual-in_err-add.result _ (AddUp c.args.sum.now parts)
    (λ q. q ≡ sum_from c.args.sum.now parts) c.from_residual-in_err-add.ensures.1 refl
    (λ all. c.in_err-add.ensures.exact (subst (SumFits c.args.sum.now)
    (ap (low_of c.args.group.now.set) is ∙ sym c.in_ok-low.ensures.1) all.1))

pub returns : goal.returns
returns c = λ w is.
    let g = c.args.group.now in
    let alone = low_alone c.args.sum.now w g c.in_ok-low.low
    (subst (LowFits g.set) (sym is) c.in_ok-low.ensures.0)
    (c.in_ok-low.ensures.1 ∙ ap (low_of g.set) (sym is)) c.in_ok-add.ensures.exact.0 in
    (alone.0, c.in_ok-add.ensures.exact.1 ∙ sym alone.1)
