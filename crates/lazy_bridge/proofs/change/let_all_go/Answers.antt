use Rattle.std.proofs.Common.{◌≡◌, ap, subst, sym, ◌∙◌}
use Rattle.std.specs.Prelude.{All}
use Rattle.std.specs.FinMap as finite
use Rattle.bridge_set.specs.Bridges.{families_of}
use Rattle.bridge_face.specs.BridgeState.{BridgeState}
use Rattle.bridge_set.specs.Sound.{families_stay}
use Rattle.solver_store.specs.SolverModel.{Leaves}
use Rattle.lazy_bridge.proofs.Empty.{its_calls, names_none, none_kept}
use Rattle.lazy_bridge.proofs.change.let_all_go.Goals as goal

pub returns-clause-empty : goal.returns-clause-empty
returns-clause-empty g c =
    subst (All (λ (s : BridgeState). s.kept ≡ finite.empty)) (sym c.clear.ensures.states)
    (none_kept c.args.bridges.now.states)

pub returns-clause-families : goal.returns-clause-families
returns-clause-families g c =
    ap families_of c.clear.ensures.states ∙ families_stay c.args.bridges.now.states

pub returns-clause-leaves : goal.returns-clause-leaves
returns-clause-leaves g c =
    its_calls c.clear-2.new.self.leaves c.args.solver.now.leaves.calls c.clear-2.ensures.emptied

pub returns-clause-calls : goal.returns-clause-calls
returns-clause-calls g c = ap (λ (l : Leaves). l.calls) c.clear-2.ensures.emptied

pub returns-clause-named : goal.returns-clause-named
returns-clause-named g c =
    names_none c.clear-3.new.self c.clear-2.new.self.leaves
    (its_calls c.clear-2.new.self.leaves c.args.solver.now.leaves.calls c.clear-2.ensures.emptied)
    c.clear-3.ensures.vars c.clear-3.ensures.rows
