use Rattle.std.proofs.Common.{subst}
use Rattle.fresh_bridging.specs.Entries.{function_in}
use Rattle.ratio_core.specs.Rational.{Fits}
use Rattle.bridge_plan.proofs.NamedLaws.{named_all, named_more}
use Rattle.bridge_plan.proofs.renaming.renamed_terms.Goals as goal

pub loop-var-preserved : goal.loop-var-preserved
loop-var-preserved c =
    let l = c.loop-var in
    named_more (function_in c.args.expressions.now) c.terms-var-items.result.now l.var-index
    c.loop-var-item.result c.in-Some.name l.made.items c.push.new.self.items c.loop-var-item.is
    c.loop-var-test.true c.in-Some.ensures c.num-fits-in-loop-var.ensures.fits
    c.in_ok-push.ensures.items l.invariant

pub returns : goal.returns
returns c =
    let l = c.loop-var in
    named_all (function_in c.args.expressions.now) c.terms-var-items.result.now l.var-index
    c.args.func.now l.made.items c.loop-var-test.false c.terms-var-items.ensures.all
    (subst Fits c.constant.ensures c.num-fits.ensures.fits) l.invariant
