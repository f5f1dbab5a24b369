use Rattle.std.proofs.Common.{ap, ◌∙◌}
use Rattle.std.proofs.lemmas.Result.{IfOk-weaker}
use Rattle.aff_core.proofs.aff.AffDuplicate.copy.Goals as goal

pub returns : goal.returns
returns c =
    IfOk-weaker c.with_constant.result _ _ (λ f e. e
    ∙ ap (λ k. record c.args.self.now { constant = k }) c.constant.ensures) c.with_constant.ensures
