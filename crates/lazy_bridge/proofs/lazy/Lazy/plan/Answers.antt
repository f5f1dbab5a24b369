use Rattle.std.proofs.Common.{ap, refl, subst}
use Rattle.std.specs.Prelude.{Ok, Err}
use Rattle.bridge_set.specs.Bridges.{families_of}
use Rattle.bridge_plan.specs.Means.{Means}
use Rattle.lazy_bridge.specs.Owned.{Owned}
use Rattle.lazy_bridge.specs.Pushed.{IsPlannedBy, IsTried}
use Rattle.lazy_bridge.proofs.Rebridging.{can_be_put, no_overflow, refused}
use Rattle.lazy_bridge.proofs.lazy.Lazy.plan.Goals as goal

pub returns-in-Ok-clause-planned : goal.returns-in-Ok-clause-planned
returns-in-Ok-clause-planned g c =
    let was : Owned = record {
      bridges = c.self.inside.bridges;
      solver = c.self.inside.solver;
      map = c.self.inside.map;
      objective_at = c.self.inside.objective_at;
    } in
    let tried : Owned = record {
      bridges = c.plan_model.new.rewriter;
      solver = c.self.inside.solver;
      map = c.self.inside.map;
      objective_at = c.self.inside.objective_at;
    } in
    let same : IsTried was tried = record {
      means = c.plan_model.ensures.means;
      solver = refl;
      map = refl;
      objective_at = refl;
    } in
    subst (λ (o : Owned). IsPlannedBy o c.args.model.now.model (Ok c.in-Ok.planned) tried)
    c.self.view_is (c.in-Ok.ensures.answer, same)

pub returns-in-Ok-clause-puttable : goal.returns-in-Ok-clause-puttable
returns-in-Ok-clause-puttable g c =
    let was : Owned = record {
      bridges = c.self.inside.bridges;
      solver = c.self.inside.solver;
      map = c.self.inside.map;
      objective_at = c.self.inside.objective_at;
    } in
    can_be_put was (families_of c.plan_model.new.rewriter.states) c.args.model.now.model
    c.in-Ok.planned
    c.table-sound.ensures.sound c.self.invariant.0 c.objective-valid.ensures.valid
    c.in-Ok.ensures.answer
    (ap (λ (m : Means). m.setting.families) c.plan_model.ensures.means)

pub returns-in_default-clause-planned : goal.returns-in_default-clause-planned
returns-in_default-clause-planned g c =
    let was : Owned = record {
      bridges = c.self.inside.bridges;
      solver = c.self.inside.solver;
      map = c.self.inside.map;
      objective_at = c.self.inside.objective_at;
    } in
    let tried : Owned = record {
      bridges = c.plan_model.new.rewriter;
      solver = c.self.inside.solver;
      map = c.self.inside.map;
      objective_at = c.self.inside.objective_at;
    } in
    let same : IsTried was tried = record {
      means = c.plan_model.ensures.means;
      solver = refl;
      map = refl;
      objective_at = refl;
    } in
    subst (λ (o : Owned). IsPlannedBy o c.args.model.now.model (Err c.in-Err.fault) tried)
    c.self.view_is
    (refused was tried c.args.model.now.model c.in-Err.fault c.in_default.not-Memory
    c.in-Err.ensures.answer same)

pub returns-in_default-clause-small : goal.returns-in_default-clause-small
returns-in_default-clause-small g c =
    let was : Owned = record {
      bridges = c.self.inside.bridges;
      solver = c.self.inside.solver;
      map = c.self.inside.map;
      objective_at = c.self.inside.objective_at;
    } in
    no_overflow was c.args.model.now.model c.in-Err.fault (Err c.in-Err.fault) refl
    c.table-sound.ensures.sound
    c.objective-valid.ensures.valid c.in-Err.ensures.answer
