use Rattle.std.proofs.Common.{None, Some, [], ◌∷◌, ◌<◌, ◌∙◌, ap, arith, length, sym}
use Rattle.std.proofs.lemmas.List.{length-append, append-nil}
use Rattle.numbered_list.specs.Listed.{present}
use Rattle.numbered_list.specs.ListedLaws.{last_present}
use Rattle.numbered_list.proofs.items.NumberedItemsDoubleEndedIterator.next_back.Goals as goal

pub returns-in-Some-content-clause-steps : goal.returns-in-Some-content-clause-steps
returns-in-Some-content-clause-steps g c =
    sym c.self.view_is ∙ (sym c.loop-last.invariant
    ∙ last_present c.loop-last.self-inside.places.now c.in-Some.others.now
    c.in-Some.last.now (Some c.in-Some-content.item) c.in-Some.ensures.cases.0 c.in-Some-content.is)

pub returns-in-Some-content-clause-goes : goal.returns-in-Some-content-clause-goes
returns-in-Some-content-clause-goes g c =
    let longer : length (present c.in-Some.others.now) < length c.args.self.now =
    omega (
      arith,
      ap length (returns-in-Some-content-clause-steps g c),
      length-append (present c.in-Some.others.now) (c.in-Some-content.item ∷ []),
    ) in
    record {
      on = λ _. (tt, tt, longer);
      keeps = tt;
      rests = λ _. tt;
    }

pub loop-last-preserved : goal.loop-last-preserved
loop-last-preserved g c =
    sym (last_present c.loop-last.self-inside.places.now c.in-Some.others.now c.in-Some.last.now
    None c.in-Some.ensures.cases.0 c.in_default-content.is ∙ append-nil (present
    c.in-Some.others.now)) ∙ c.loop-last.invariant
