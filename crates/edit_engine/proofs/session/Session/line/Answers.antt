use Rattle.std.proofs.Common.{refl, subst}
use Rattle.edit_engine.specs.Held.{SessionValue, KeepsRefused, machine_of}
use Rattle.edit_engine.specs.Lines.{line_asks}
use Rattle.edit_engine.specs.Script.{Answered}
use Rattle.edit_engine.proofs.Asking.{asks_or, fault_made, sound_or}
use Rattle.edit_engine.proofs.Steps.{answered_or}
use Rattle.edit_engine.proofs.Untouched.{untouched_or}
use Rattle.edit_engine.proofs.session.Session.line.Goals as goal
use Rattle.io_face.specs.Shelf.{AsksFor}
use Rattle.io_face.specs.Told.{Told, told_by}
use Rattle.edit_engine.proofs.FewTold.{few_or}
use Rattle.edit_engine.specs.Counts.{TakesFew}

pub returns-clause-step : goal.returns-clause-step
returns-clause-step g c =
    let told : Told =
    told_by (g.H.Shelf.files c.args.shelf.now) (g.H.Shelf.sure c.args.shelf.now) in
    let before : SessionValue = record {
      cache = c.self.inside.cache;
      group = c.self.inside.group;
      pivots = c.self.inside.pivots;
    } in
    let after : SessionValue = record {
      cache = c.step-made.new.cache;
      group = c.step-made.new.group;
      pivots = c.self.inside.pivots;
    } in
    subst (λ (h : SessionValue). Answered (machine_of h told) c.args.line.now c.unwrap_or.result
    (machine_of after told)) c.self.view_is
    (answered_or (machine_of before told) (machine_of after told) c.args.line.now
    c.step-made.result c.unwrap_or.result c.unwrap_or.ensures c.step-made.ensures.step refl
    c.step-made.ensures.group)

pub returns-clause-untouched : goal.returns-clause-untouched
returns-clause-untouched g c =
    subst (λ (h : SessionValue). KeepsRefused c.unwrap_or.result h.cache c.step-made.new.cache)
    c.self.view_is
    (untouched_or c.self.inside.cache c.step-made.new.cache c.step-made.result c.unwrap_or.result
    c.unwrap_or.ensures c.step-made.ensures.untouched)

pub returns-clause-cause : goal.returns-clause-cause
returns-clause-cause g c = λ fault.
    c.step-made.ensures.cause
    (fault_made c.step-made.result c.unwrap_or.result c.unwrap_or.ensures fault)

pub returns-clause-sound : goal.returns-clause-sound
returns-clause-sound g c = λ other.
    sound_or c.step-made.result c.unwrap_or.result _ c.unwrap_or.ensures other
    c.step-made.ensures.sound

pub returns-clause-asks : goal.returns-clause-asks
returns-clause-asks g c = λ other.
    let old = g.H.Shelf.asked c.args.shelf.now in
    let new = g.H.Shelf.asked c.step-made.new.shelf in
    let told : Told =
    told_by (g.H.Shelf.files c.args.shelf.now) (g.H.Shelf.sure c.args.shelf.now) in
    let before : SessionValue = record {
      cache = c.self.inside.cache;
      group = c.self.inside.group;
      pivots = c.self.inside.pivots;
    } in
    subst (λ (h : SessionValue). AsksFor old new (line_asks (machine_of h told) c.args.line.now))
    c.self.view_is
    (asks_or c.step-made.result c.unwrap_or.result
    (AsksFor old new (line_asks (machine_of before told) c.args.line.now))
    c.unwrap_or.ensures other c.step-made.ensures.asks)

pub returns-clause-few : goal.returns-clause-few
returns-clause-few g c =
    subst (λ (h : SessionValue). TakesFew c.unwrap_or.result h.cache.lazy c.step-made.new.cache.lazy)
    c.self.view_is
    (few_or c.self.inside.cache.lazy c.step-made.new.cache.lazy c.step-made.result
    c.unwrap_or.result c.unwrap_or.ensures c.step-made.ensures.few)
