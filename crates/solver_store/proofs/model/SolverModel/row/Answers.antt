use Rattle.std.proofs.Common.{ap, sym, ◌∙◌}
use Rattle.std.specs.FinMap as finite
use Rattle.solver_store.proofs.SlabLaws.{get-by_key}
use Rattle.solver_store.proofs.model.SolverModel.row.Goals as goal

pub returns : goal.returns
returns c =
    c.get.ensures ∙ sym (get-by_key c.self.inside.rows c.args.i)
    ∙ ap (λ s. finite.get s.leaves.rows c.args.i) c.self.view_is
