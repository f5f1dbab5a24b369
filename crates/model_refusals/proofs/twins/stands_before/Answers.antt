use Rattle.std.proofs.Common.{arith, take, sym, ◌∙◌}
use Rattle.std.specs.Str.{bytes_eq}
use Rattle.map_laws.specs.LoopLaws.{any_found, any_more}
use Rattle.map_laws.specs.PlaceLaws.{none_past, taken_at}
use Rattle.model_refusals.proofs.twins.stands_before.Goals.{in-Some+else-eq, in_default}
use Rattle.model_refusals.proofs.twins.stands_before.Goals as goal

pub returns-then-eq : goal.returns-then-eq
returns-then-eq c =
    let at = taken_at c.args.end c.loop-place.place c.in-Some.other.now c.args.names.now
    (omega arith) (sym c.in-Some.ensures) in
    any_found (bytes_eq c.args.name.now) (take c.args.end c.args.names.now) c.loop-place.place
    c.in-Some.other.now c.loop-place.invariant at (sym c.eq.ensures ∙ c.if-eq.true)

pub loop-place-preserved : goal.loop-place-preserved
loop-place-preserved c =
    elim c.match-get.branch [
      | in-Some+else-eq w ↦
          let at = taken_at c.args.end c.loop-place.place w.in-Some.other.now c.args.names.now
          (omega arith) (sym w.in-Some.ensures) in
          any_more (bytes_eq c.args.name.now) (take c.args.end c.args.names.now) c.loop-place.place
          w.in-Some.other.now c.loop-place.invariant at (sym w.eq.ensures ∙ w.if-eq.false)
      | in_default w ↦ absurd (none_past c.loop-place.place c.args.names.now
          (sym w.in_default.ensures) (omega arith))
    ]
