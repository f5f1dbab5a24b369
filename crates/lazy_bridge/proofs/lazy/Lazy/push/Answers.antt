use Rattle.std.proofs.Common.{◌≡◌, Err, Ok, ap, arith, refl, subst, sym, true}
use Rattle.lazy_bridge.specs.Few.{CanPush, ChangesFew, IsPushedByFew}
use Rattle.bridge_set.specs.Bridges.{setting_of}
use Rattle.fresh_bridging.specs.TheRules.{Setting}
use Rattle.lazy_bridge.specs.Native.{supports_native}
use Rattle.lazy_bridge.specs.Owned.{Owned, setting_in}
use Rattle.lazy_bridge.specs.Pushed.{IsBridgedBy}
use Rattle.lazy_bridge.proofs.Composing.{is_bridged, is_few, is_kept_true, is_planned, is_pushed_true, is_refused, is_touched, memory_setting, same_setting, started}
use Rattle.lazy_bridge.proofs.Rebridging.{no_overflow}
use Rattle.lazy_bridge.proofs.lazy.Lazy.push.Goals as goal

pub push_touched-requires : goal.push_touched-requires
push_touched-requires g c =
    let was : Owned = record {
      bridges = c.self.inside.bridges;
      solver = c.self.inside.solver;
      map = c.self.inside.map;
      objective_at = c.self.inside.objective_at;
    } in
    let can = subst (λ (o : Owned). CanPush o c.args.undos.now c.args.after.now.model)
    (sym c.self.view_is) c.requires in (
      can.model,
      started was c.args.undos.now c.args.after.now.model c.table-sound.ensures.sound
          c.table-sound.ensures.once c.self.invariant.0 can,
    )

pub returns-in-Ok-clause-bridged : goal.returns-in-Ok-clause-bridged
returns-in-Ok-clause-bridged g c =
    let was : Owned = record {
      bridges = c.self.inside.bridges;
      solver = c.self.inside.solver;
      map = c.self.inside.map;
      objective_at = c.self.inside.objective_at;
    } in
    let new : Owned = record {
      bridges = c.push_touched.new.bridges;
      solver = c.push_touched.new.solver;
      map = c.push_touched.new.map;
      objective_at = c.push_touched.new.objective_at;
    } in
    let can = subst (λ (o : Owned). CanPush o c.args.undos.now c.args.after.now.model)
    (sym c.self.view_is) c.requires in
    let start = started was c.args.undos.now c.args.after.now.model c.table-sound.ensures.sound
    c.table-sound.ensures.once c.self.invariant.0 can in
    subst (λ (o : Owned). IsBridgedBy o o.bridges.table c.args.after.now.model (Ok c.capped.result) new)
    c.self.view_is
    (is_bridged was c.args.undos.now c.args.after.now.model c.table-sound.ensures.sound
    c.table-sound.ensures.once c.self.invariant.0 can
    c.in-Ok.changed c.args.after.now.reads new c.push_touched.new.after.reads
    (c.in-Ok.ensures.pushed can.model start) c.capped.result c.capped.ensures)

pub returns-in-Ok-clause-few : goal.returns-in-Ok-clause-few
returns-in-Ok-clause-few g c =
    let was : Owned = record {
      bridges = c.self.inside.bridges;
      solver = c.self.inside.solver;
      map = c.self.inside.map;
      objective_at = c.self.inside.objective_at;
    } in
    let new : Owned = record {
      bridges = c.push_touched.new.bridges;
      solver = c.push_touched.new.solver;
      map = c.push_touched.new.map;
      objective_at = c.push_touched.new.objective_at;
    } in
    let can = subst (λ (o : Owned). CanPush o c.args.undos.now c.args.after.now.model)
    (sym c.self.view_is) c.requires in
    let start = started was c.args.undos.now c.args.after.now.model c.table-sound.ensures.sound
    c.table-sound.ensures.once c.self.invariant.0 can in
    subst (λ (o : Owned). ChangesFew o c.capped.result new) c.self.view_is
    (is_few was c.args.undos.now c.args.after.now.model c.table-sound.ensures.sound
    c.table-sound.ensures.once c.self.invariant.0 can
    c.in-Ok.changed c.args.after.now.reads new c.push_touched.new.after.reads
    (c.in-Ok.ensures.pushed can.model start) c.capped.result c.capped.ensures
    (omega (arith, c.calls-few.ensures, c.calls-few.type_inv)))

pub returns-in-Ok-clause-touched : goal.returns-in-Ok-clause-touched
returns-in-Ok-clause-touched g c =
    let was : Owned = record {
      bridges = c.self.inside.bridges;
      solver = c.self.inside.solver;
      map = c.self.inside.map;
      objective_at = c.self.inside.objective_at;
    } in
    let new : Owned = record {
      bridges = c.push_touched.new.bridges;
      solver = c.push_touched.new.solver;
      map = c.push_touched.new.map;
      objective_at = c.push_touched.new.objective_at;
    } in
    let can = subst (λ (o : Owned). CanPush o c.args.undos.now c.args.after.now.model)
    (sym c.self.view_is) c.requires in
    let start = started was c.args.undos.now c.args.after.now.model c.table-sound.ensures.sound
    c.table-sound.ensures.once c.self.invariant.0 can in
    subst (λ (o : Owned). IsPushedByFew o c.args.undos.now c.args.after.now.model
    c.args.after.now.reads new c.push_touched.new.after.reads) c.self.view_is
    (is_touched was c.args.undos.now c.args.after.now.model c.table-sound.ensures.sound
    c.table-sound.ensures.once c.self.invariant.0 can
    c.in-Ok.changed c.args.after.now.reads new c.push_touched.new.after.reads
    (c.in-Ok.ensures.pushed can.model start))

pub returns-in_default-clause-bridged : goal.returns-in_default-clause-bridged
returns-in_default-clause-bridged g c =
    let was : Owned = record {
      bridges = c.self.inside.bridges;
      solver = c.self.inside.solver;
      map = c.self.inside.map;
      objective_at = c.self.inside.objective_at;
    } in
    let new : Owned = record {
      bridges = c.push_touched.new.bridges;
      solver = c.push_touched.new.solver;
      map = c.push_touched.new.map;
      objective_at = c.push_touched.new.objective_at;
    } in
    let can = subst (λ (o : Owned). CanPush o c.args.undos.now c.args.after.now.model)
    (sym c.self.view_is) c.requires in
    let start = started was c.args.undos.now c.args.after.now.model c.table-sound.ensures.sound
    c.table-sound.ensures.once c.self.invariant.0 can in
    subst (λ (o : Owned). IsBridgedBy o o.bridges.table c.args.after.now.model (Err c.in-Err.fault) new)
    c.self.view_is
    (is_refused was c.args.undos.now c.args.after.now.model c.table-sound.ensures.sound
    c.table-sound.ensures.once c.self.invariant.0 can
    c.in-Err.fault c.args.after.now.reads new c.push_touched.new.after.reads c.in_default.not-Memory
    (c.in-Err.ensures.pushed can.model start))

pub returns-in_default-clause-small : goal.returns-in_default-clause-small
returns-in_default-clause-small g c =
    let was : Owned = record {
      bridges = c.self.inside.bridges;
      solver = c.self.inside.solver;
      map = c.self.inside.map;
      objective_at = c.self.inside.objective_at;
    } in
    let new : Owned = record {
      bridges = c.push_touched.new.bridges;
      solver = c.push_touched.new.solver;
      map = c.push_touched.new.map;
      objective_at = c.push_touched.new.objective_at;
    } in
    let can = subst (λ (o : Owned). CanPush o c.args.undos.now c.args.after.now.model)
    (sym c.self.view_is) c.requires in
    let start = started was c.args.undos.now c.args.after.now.model c.table-sound.ensures.sound
    c.table-sound.ensures.once c.self.invariant.0 can in
    no_overflow was c.args.after.now.model c.in-Err.fault (Err c.in-Err.fault) refl
    c.table-sound.ensures.sound can.valid
    (is_planned was c.args.undos.now c.args.after.now.model c.table-sound.ensures.sound
    c.table-sound.ensures.once c.self.invariant.0 can
    c.in-Err.fault c.args.after.now.reads new c.push_touched.new.after.reads c.in_default.not-Memory
    (c.in-Err.ensures.pushed can.model start))

pub invariant_of-self : goal.invariant_of-self
invariant_of-self g c =
    let was : Owned = record {
      bridges = c.self.inside.bridges;
      solver = c.self.inside.solver;
      map = c.self.inside.map;
      objective_at = c.self.inside.objective_at;
    } in
    let new : Owned = record {
      bridges = c.push_touched.new.bridges;
      solver = c.push_touched.new.solver;
      map = c.push_touched.new.map;
      objective_at = c.push_touched.new.objective_at;
    } in
    let can = subst (λ (o : Owned). CanPush o c.args.undos.now c.args.after.now.model)
    (sym c.self.view_is) c.requires in
    let start = started was c.args.undos.now c.args.after.now.model c.table-sound.ensures.sound
    c.table-sound.ensures.once c.self.invariant.0 can in
    is_pushed_true was c.args.undos.now c.args.after.now.model c.table-sound.ensures.sound
    c.table-sound.ensures.once c.self.invariant.0 can
    c.in-Ok.changed c.args.after.now.reads new c.push_touched.new.after.reads
    (c.in-Ok.ensures.pushed can.model start)

pub invariant_of-self-in-Err : goal.invariant_of-self-in-Err
invariant_of-self-in-Err g c =
    let was : Owned = record {
      bridges = c.self.inside.bridges;
      solver = c.self.inside.solver;
      map = c.self.inside.map;
      objective_at = c.self.inside.objective_at;
    } in
    let new : Owned = record {
      bridges = c.push_touched.new.bridges;
      solver = c.push_touched.new.solver;
      map = c.push_touched.new.map;
      objective_at = c.push_touched.new.objective_at;
    } in
    let can = subst (λ (o : Owned). CanPush o c.args.undos.now c.args.after.now.model)
    (sym c.self.view_is) c.requires in
    let start = started was c.args.undos.now c.args.after.now.model c.table-sound.ensures.sound
    c.table-sound.ensures.once c.self.invariant.0 can in
    is_kept_true was c.args.undos.now c.args.after.now.model c.table-sound.ensures.sound
    c.table-sound.ensures.once c.self.invariant.0 can
    c.in-Err.fault c.args.after.now.reads new c.push_touched.new.after.reads
    c.in_default.not-Memory (c.in-Err.ensures.pushed can.model start) c.self.invariant.1

pub invariant_of-self-in-Memory : goal.invariant_of-self-in-Memory
invariant_of-self-in-Memory g c =
    let was : Owned = record {
      bridges = c.self.inside.bridges;
      solver = c.self.inside.solver;
      map = c.self.inside.map;
      objective_at = c.self.inside.objective_at;
    } in
    let new : Owned = record {
      bridges = c.push_touched.new.bridges;
      solver = c.push_touched.new.solver;
      map = c.push_touched.new.map;
      objective_at = c.push_touched.new.objective_at;
    } in
    let can = subst (λ (o : Owned). CanPush o c.args.undos.now c.args.after.now.model)
    (sym c.self.view_is) c.requires in
    let start = started was c.args.undos.now c.args.after.now.model c.table-sound.ensures.sound
    c.table-sound.ensures.once c.self.invariant.0 can in
    let gone = c.let_all_go.ensures in
    let setting = same_setting was.bridges new.bridges c.let_all_go.new.bridges
    (memory_setting was c.args.undos.now c.args.after.now.model c.table-sound.ensures.sound
    c.table-sound.ensures.once c.self.invariant.0 can
    c.in-Err.fault c.in-Memory.is c.args.after.now.reads new c.push_touched.new.after.reads
    (c.in-Err.ensures.pushed can.model start)) gone.families gone.table in (
      subst (λ t. supports_native t ≡ true) (sym (ap (λ (s : Setting). s.table) setting))
          c.self.invariant.0,
      gone.named,
    )

pub returns-in-Memory-clause-bridged : goal.returns-in-Memory-clause-bridged
returns-in-Memory-clause-bridged g c =
    let was : Owned = record {
      bridges = c.self.inside.bridges;
      solver = c.self.inside.solver;
      map = c.self.inside.map;
      objective_at = c.self.inside.objective_at;
    } in
    let new : Owned = record {
      bridges = c.push_touched.new.bridges;
      solver = c.push_touched.new.solver;
      map = c.push_touched.new.map;
      objective_at = c.push_touched.new.objective_at;
    } in
    let can = subst (λ (o : Owned). CanPush o c.args.undos.now c.args.after.now.model)
    (sym c.self.view_is) c.requires in
    let start = started was c.args.undos.now c.args.after.now.model c.table-sound.ensures.sound
    c.table-sound.ensures.once c.self.invariant.0 can in
    let gone = c.let_all_go.ensures in
    let setting = same_setting was.bridges new.bridges c.let_all_go.new.bridges
    (memory_setting was c.args.undos.now c.args.after.now.model c.table-sound.ensures.sound
    c.table-sound.ensures.once c.self.invariant.0 can
    c.in-Err.fault c.in-Memory.is c.args.after.now.reads new c.push_touched.new.after.reads
    (c.in-Err.ensures.pushed can.model start)) gone.families gone.table in (
      record {
        leaves = gone.leaves;
        vars = gone.vars;
        rows = gone.rows;
        exprs = gone.exprs;
        noted = gone.noted;
        marks = gone.marks;
        kept = gone.empty;
      },
      subst (λ (o : Owned). setting_of c.let_all_go.new.bridges ≡ setting_in o) c.self.view_is setting,
    )
