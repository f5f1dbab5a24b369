use Rattle.std.proofs.Common.{subst, ◌∙◌}
use Rattle.std.specs.Prelude.{All}
use Rattle.std.proofs.lemmas.List.{take_all}
use Rattle.fresh_bridging.specs.Entries.{function_in}
use Rattle.ratio_core.specs.Rational.{Fits}
use Rattle.bridge_plan.specs.Stands.{IsNamed}
use Rattle.bridge_plan.proofs.renaming.stays.Goals as goal

pub returns : goal.returns
returns c = λ _. record {
  constant = subst Fits c.constant.ensures c.num-fits.ensures.fits;
  terms =
      subst (All (IsNamed (function_in c.args.expressions.now) (λ v. v)))
      (take_all c.loop-var.var-index c.terms-var-items.result.now c.loop-var-test.false
      ∙ c.terms-var-items.ensures.all) c.loop-var.invariant;
}
