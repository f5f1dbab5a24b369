use Rattle.std.proofs.Common.{ap, map, subst}
use Rattle.std.specs.List.{list_any}
use Rattle.std.specs.Option.{option_copied}
use Rattle.lazy_bridge.specs.Mentioned.{NotesPairs, row_names}
use Rattle.lazy_bridge.proofs.Noting.{noted_if, with_objective, without_objective}
use Rattle.lazy_bridge.proofs.mentions.note_contents.Goals as goal

pub returns-in-None-clause-noted : goal.returns-in-None-clause-noted
returns-in-None-clause-noted c =
    without_objective c.args.contents.now c.args.noted c.args.map.now.noted
    c.note_found.new.map.noted
    (subst (λ rs. NotesPairs (λ var at. list_any (λ row. row_names row var at) (map (λ r. r.now) rs))
    c.args.noted c.args.map.now.noted c.note_found.new.map.noted) c.deref.ensures.value
    c.in_ok-note_found.ensures.noted)
    (ap option_copied c.in-None.is)

pub returns-in-Some-clause-noted : goal.returns-in-Some-clause-noted
returns-in-Some-clause-noted c =
    noted_if c.note_objective.result
    (with_objective c.args.contents.now c.args.noted c.args.map.now.noted
    c.note_found.new.map.noted
    (subst (λ rs. NotesPairs (λ var at. list_any (λ row. row_names row var at) (map (λ r. r.now) rs))
    c.args.noted c.args.map.now.noted c.note_found.new.map.noted) c.deref.ensures.value
    c.in_ok-note_found.ensures.noted)
    c.in-Some.objective.now
    (ap option_copied c.in-Some.is) c.note_objective.new.map.noted)
    c.note_objective.ensures.noted
