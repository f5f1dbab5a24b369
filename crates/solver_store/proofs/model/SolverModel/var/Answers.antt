use Rattle.std.proofs.Common.{ap, sym, ◌∙◌}
use Rattle.std.specs.FinMap as finite
use Rattle.solver_store.proofs.SlabLaws.{get-by_key}
use Rattle.solver_store.proofs.model.SolverModel.var.Goals as goal

pub returns : goal.returns
returns c =
    c.copied.ensures ∙ c.get.ensures ∙ sym (get-by_key c.self.inside.vars c.args.i)
    ∙ ap (λ s. finite.get s.leaves.vars c.args.i) c.self.view_is
