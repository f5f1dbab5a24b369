use Rattle.std.proofs.Common.{sym, subst}
use Rattle.aff_core.specs.FunctionLaws.{filter_nonzero, filter_rises}
use Rattle.aff_core.specs.Rising.{RiseBy}
use Rattle.aff_core.specs.Terms.{HaveNoZero}
use Rattle.aff_core.proofs.affine.AffineFunction.from_terms.Goals as goal

pub of-requires-clause-rising : goal.of-requires-clause-rising
of-requires-clause-rising g c =
    subst (RiseBy g.K.Ord.cmp) (sym c.in_ok-nonzero_terms.ensures)
    (filter_rises c.args.terms.now c.requires)

pub of-requires-clause-nonzero : goal.of-requires-clause-nonzero
of-requires-clause-nonzero g c =
    subst HaveNoZero (sym c.in_ok-nonzero_terms.ensures) (filter_nonzero c.args.terms.now)
