use Rattle.std.specs.Prelude.{IsTrue}
use Rattle.std.proofs.Common.{ap, subst, sym}
use Rattle.aff_core.specs.Address.{root_address}
use Rattle.aff_core.specs.declared.root.Root.TheVariants.{Objective}
use Rattle.bridge_plan.specs.Means.{AreSound}
use Rattle.bridge_set.specs.Bridges.{means_of}
use Rattle.lazy_bridge.specs.Native.{supports_native}
use Rattle.lazy_bridge.specs.Owned.{Owned}
use Rattle.lazy_bridge.proofs.Placing.{placed}
use Rattle.objective_laws.specs.ObjectivePlace.{BridgesLeadTo}
use Rattle.lazy_bridge.proofs.lazy.Lazy.objective_at.Goals as goal

pub returns-clause-place : goal.returns-clause-place
returns-clause-place g c = λ model stands some.
    subst (BridgesLeadTo c.args.self.now.bridges.states (root_address Objective 0))
    (sym (ap (λ (o : Owned). o.objective_at) c.self.view_is))
    (placed c.args.self.now model
    (subst (λ (o : Owned). AreSound (means_of o.bridges)) c.self.view_is c.table-sound.ensures.sound)
    (subst (λ (o : Owned). IsTrue (supports_native o.bridges.table)) c.self.view_is
    c.self.invariant.0)
    stands some)
