use Rattle.std.proofs.Common.{ap, subst, sym, ◌∙◌}
use Rattle.std.specs.Prelude.{IsTrue}
use Rattle.lazy_bridge.specs.Native.{supports_native}
use Rattle.lazy_bridge.specs.Owned.{Owned, setting_in}
use Rattle.lazy_bridge.proofs.lazy.Lazy.clear.Goals as goal

pub invariant_of-self : goal.invariant_of-self
invariant_of-self g c = (
  subst (λ t. IsTrue (supports_native t)) (sym c.let_all_go.ensures.table) c.self.invariant.0,
  c.let_all_go.ensures.named,
)

pub returns-clause-setting : goal.returns-clause-setting
returns-clause-setting g c =
    (λ i. record {
      table = c.let_all_go.ensures.table i;
      families = c.let_all_go.ensures.families i;
    })
    ∙ ap setting_in c.self.view_is

pub returns-clause-calls : goal.returns-clause-calls
returns-clause-calls g c =
    c.let_all_go.ensures.calls ∙ ap (λ (o : Owned). o.solver.leaves.calls) c.self.view_is
