use Rattle.std.proofs.Common.{◌≡◌, Err, Ok, ap, arith, refl, subst, sym, true}
use Rattle.bridge_set.specs.Bridges.{setting_of}
use Rattle.fresh_bridging.specs.TheRules.{Setting}
use Rattle.item_core.specs.declared.table.Table.{Table}
use Rattle.lazy_bridge.specs.Few.{ChangesFew}
use Rattle.lazy_bridge.specs.Native.{supports_native}
use Rattle.lazy_bridge.specs.Owned.{Owned, setting_in}
use Rattle.lazy_bridge.specs.Pushed.{IsBridgedBy}
use Rattle.lazy_bridge.specs.Tables.{IsRetabledFrom, IsTableStart}
use Rattle.lazy_bridge.proofs.Composing.{same_setting}
use Rattle.lazy_bridge.proofs.Rebridging.{no_overflow}
use Rattle.lazy_bridge.proofs.TableSteps.{is_bridged, is_few, is_planned, is_refused, is_retabled, memory_keeps, refused_true, stays_true}
use Rattle.lazy_bridge.proofs.lazy.Lazy.rebridge.Goals as goal

pub retable-requires : goal.retable-requires
retable-requires g c =
    let was : Owned = record {
      bridges = c.self.inside.bridges;
      solver = c.self.inside.solver;
      map = c.self.inside.map;
      objective_at = c.self.inside.objective_at;
    } in
    let from = subst (λ (o : Owned). (t : Table) × IsTableStart o.bridges t c.args.before.now o.solver
    o.map o.objective_at c.args.model.now.model) (sym c.self.view_is) c.requires in
    (from.0, from.1)

pub returns-in-Ok-clause-bridged : goal.returns-in-Ok-clause-bridged
returns-in-Ok-clause-bridged g c =
    let was : Owned = record {
      bridges = c.self.inside.bridges;
      solver = c.self.inside.solver;
      map = c.self.inside.map;
      objective_at = c.self.inside.objective_at;
    } in
    let new : Owned = record {
      bridges = c.retable.new.bridges;
      solver = c.retable.new.solver;
      map = c.retable.new.map;
      objective_at = c.retable.new.objective_at;
    } in
    let from = subst (λ (o : Owned). (t : Table) × IsTableStart o.bridges t c.args.before.now o.solver
    o.map o.objective_at c.args.model.now.model) (sym c.self.view_is) c.requires in
    subst (λ (o : Owned). IsBridgedBy o o.bridges.table c.args.model.now.model (Ok c.capped.result) new)
    c.self.view_is
    (is_bridged was c.args.model.now.model from.0 c.args.before.now from.1 c.in-Ok.changed new
    (c.in-Ok.ensures.retabled from.0 from.1) c.capped.result c.capped.ensures)

pub returns-in-Ok-clause-few : goal.returns-in-Ok-clause-few
returns-in-Ok-clause-few g c =
    let was : Owned = record {
      bridges = c.self.inside.bridges;
      solver = c.self.inside.solver;
      map = c.self.inside.map;
      objective_at = c.self.inside.objective_at;
    } in
    let new : Owned = record {
      bridges = c.retable.new.bridges;
      solver = c.retable.new.solver;
      map = c.retable.new.map;
      objective_at = c.retable.new.objective_at;
    } in
    let from = subst (λ (o : Owned). (t : Table) × IsTableStart o.bridges t c.args.before.now o.solver
    o.map o.objective_at c.args.model.now.model) (sym c.self.view_is) c.requires in
    subst (λ (o : Owned). ChangesFew o c.capped.result new) c.self.view_is
    (is_few was c.args.model.now.model from.0 c.args.before.now from.1 c.in-Ok.changed new
    (c.in-Ok.ensures.retabled from.0 from.1) c.capped.result c.capped.ensures
    (omega (arith, c.calls-few.ensures, c.calls-few.type_inv)))

pub returns-in-Ok-clause-touched : goal.returns-in-Ok-clause-touched
returns-in-Ok-clause-touched g c =
    let was : Owned = record {
      bridges = c.self.inside.bridges;
      solver = c.self.inside.solver;
      map = c.self.inside.map;
      objective_at = c.self.inside.objective_at;
    } in
    let new : Owned = record {
      bridges = c.retable.new.bridges;
      solver = c.retable.new.solver;
      map = c.retable.new.map;
      objective_at = c.retable.new.objective_at;
    } in
    subst (λ (o : Owned). (t : Table)
    → (start : IsTableStart o.bridges t c.args.before.now o.solver o.map o.objective_at c.args.model.now.model)
    → IsRetabledFrom o t c.args.before.now c.args.model.now.model start new) c.self.view_is
    (λ t start. is_retabled was c.args.model.now.model t c.args.before.now start c.in-Ok.changed new
    (c.in-Ok.ensures.retabled t start))

pub returns-in_default-clause-bridged : goal.returns-in_default-clause-bridged
returns-in_default-clause-bridged g c =
    let was : Owned = record {
      bridges = c.self.inside.bridges;
      solver = c.self.inside.solver;
      map = c.self.inside.map;
      objective_at = c.self.inside.objective_at;
    } in
    let new : Owned = record {
      bridges = c.retable.new.bridges;
      solver = c.retable.new.solver;
      map = c.retable.new.map;
      objective_at = c.retable.new.objective_at;
    } in
    let from = subst (λ (o : Owned). (t : Table) × IsTableStart o.bridges t c.args.before.now o.solver
    o.map o.objective_at c.args.model.now.model) (sym c.self.view_is) c.requires in
    subst (λ (o : Owned). IsBridgedBy o o.bridges.table c.args.model.now.model (Err c.in-Err.fault) new)
    c.self.view_is
    (is_refused was c.args.model.now.model from.0 c.args.before.now from.1 c.in-Err.fault new c.in_default.not-Memory
    (c.in-Err.ensures.retabled from.0 from.1))

pub returns-in_default-clause-small : goal.returns-in_default-clause-small
returns-in_default-clause-small g c =
    let was : Owned = record {
      bridges = c.self.inside.bridges;
      solver = c.self.inside.solver;
      map = c.self.inside.map;
      objective_at = c.self.inside.objective_at;
    } in
    let new : Owned = record {
      bridges = c.retable.new.bridges;
      solver = c.retable.new.solver;
      map = c.retable.new.map;
      objective_at = c.retable.new.objective_at;
    } in
    let from = subst (λ (o : Owned). (t : Table) × IsTableStart o.bridges t c.args.before.now o.solver
    o.map o.objective_at c.args.model.now.model) (sym c.self.view_is) c.requires in
    no_overflow was c.args.model.now.model c.in-Err.fault (Err c.in-Err.fault) refl
    c.table-sound.ensures.sound from.1.holds.held.valid
    (is_planned was c.args.model.now.model from.0 c.args.before.now from.1 c.in-Err.fault new c.in_default.not-Memory
    (c.in-Err.ensures.retabled from.0 from.1))

pub invariant_of-self : goal.invariant_of-self
invariant_of-self g c =
    let was : Owned = record {
      bridges = c.self.inside.bridges;
      solver = c.self.inside.solver;
      map = c.self.inside.map;
      objective_at = c.self.inside.objective_at;
    } in
    let new : Owned = record {
      bridges = c.retable.new.bridges;
      solver = c.retable.new.solver;
      map = c.retable.new.map;
      objective_at = c.retable.new.objective_at;
    } in
    let from = subst (λ (o : Owned). (t : Table) × IsTableStart o.bridges t c.args.before.now o.solver
    o.map o.objective_at c.args.model.now.model) (sym c.self.view_is) c.requires in
    stays_true was c.args.model.now.model from.0 c.args.before.now from.1 c.in-Ok.changed new
    (c.in-Ok.ensures.retabled from.0 from.1) c.self.invariant.0

pub invariant_of-self-in-Err : goal.invariant_of-self-in-Err
invariant_of-self-in-Err g c =
    let was : Owned = record {
      bridges = c.self.inside.bridges;
      solver = c.self.inside.solver;
      map = c.self.inside.map;
      objective_at = c.self.inside.objective_at;
    } in
    let new : Owned = record {
      bridges = c.retable.new.bridges;
      solver = c.retable.new.solver;
      map = c.retable.new.map;
      objective_at = c.retable.new.objective_at;
    } in
    let from = subst (λ (o : Owned). (t : Table) × IsTableStart o.bridges t c.args.before.now o.solver
    o.map o.objective_at c.args.model.now.model) (sym c.self.view_is) c.requires in
    refused_true was c.args.model.now.model from.0 c.args.before.now from.1 c.in-Err.fault new c.in_default.not-Memory
    (c.in-Err.ensures.retabled from.0 from.1) c.self.invariant.0 c.self.invariant.1

pub invariant_of-self-in-Memory : goal.invariant_of-self-in-Memory
invariant_of-self-in-Memory g c =
    let was : Owned = record {
      bridges = c.self.inside.bridges;
      solver = c.self.inside.solver;
      map = c.self.inside.map;
      objective_at = c.self.inside.objective_at;
    } in
    let new : Owned = record {
      bridges = c.retable.new.bridges;
      solver = c.retable.new.solver;
      map = c.retable.new.map;
      objective_at = c.retable.new.objective_at;
    } in
    let from = subst (λ (o : Owned). (t : Table) × IsTableStart o.bridges t c.args.before.now o.solver
    o.map o.objective_at c.args.model.now.model) (sym c.self.view_is) c.requires in
    let gone = c.let_all_go.ensures in
    let setting = same_setting was.bridges new.bridges c.let_all_go.new.bridges
    (memory_keeps was c.args.model.now.model from.0 c.args.before.now from.1 c.in-Err.fault c.in-Memory.is new
    (c.in-Err.ensures.retabled from.0 from.1)) gone.families gone.table in (
      subst (λ t. supports_native t ≡ true) (sym (ap (λ (s : Setting). s.table) setting))
          c.self.invariant.0,
      gone.named,
    )

pub returns-in-Memory-clause-bridged : goal.returns-in-Memory-clause-bridged
returns-in-Memory-clause-bridged g c =
    let was : Owned = record {
      bridges = c.self.inside.bridges;
      solver = c.self.inside.solver;
      map = c.self.inside.map;
      objective_at = c.self.inside.objective_at;
    } in
    let new : Owned = record {
      bridges = c.retable.new.bridges;
      solver = c.retable.new.solver;
      map = c.retable.new.map;
      objective_at = c.retable.new.objective_at;
    } in
    let from = subst (λ (o : Owned). (t : Table) × IsTableStart o.bridges t c.args.before.now o.solver
    o.map o.objective_at c.args.model.now.model) (sym c.self.view_is) c.requires in
    let gone = c.let_all_go.ensures in
    let setting = same_setting was.bridges new.bridges c.let_all_go.new.bridges
    (memory_keeps was c.args.model.now.model from.0 c.args.before.now from.1 c.in-Err.fault c.in-Memory.is new
    (c.in-Err.ensures.retabled from.0 from.1)) gone.families gone.table in (
      record {
        leaves = gone.leaves;
        vars = gone.vars;
        rows = gone.rows;
        exprs = gone.exprs;
        noted = gone.noted;
        marks = gone.marks;
        kept = gone.empty;
      },
      subst (λ (o : Owned). setting_of c.let_all_go.new.bridges ≡ setting_in o) c.self.view_is setting,
    )
