use Rattle.std.specs.Prelude.{◌≡◌, slice_get}
use Rattle.std.proofs.Common.{sym, ap, ◌∙◌}
use Rattle.std.specs.List.{remove}
use Rattle.std.specs.FinMap as finite
use Rattle.aff_core.specs.Address.{address_total, exact_addresses}
use Rattle.map_laws.specs.SumLaws.{taken_in_vain}
use Rattle.item_map.proofs.GapLaws.{entries_kept, made_map, made_rise, second_at}
use Rattle.item_map.proofs.ordered.Ordered.take.Goals as goal
use Rattle.item_map.proofs.ordered.Ordered.take.Goals.{After-take}

taken : (g : _) (c : After-take g) → c.take.new.self
    ≡ finite.entries (finite.remove c.args.self.now c.args.at.now)
taken g c =
    let mine : c.self.inside.entries ≡ finite.entries c.args.self.now =
    sym (entries_kept c.self.inside.entries c.self.invariant) ∙ ap finite.entries c.self.view_is in
    c.take.ensures.taken ∙ ap (λ es. remove es c.in-Ok.n) mine ∙ sym c.in-Ok.ensures.others

pub invariant_of-self : goal.invariant_of-self
invariant_of-self g c = made_rise (finite.remove c.args.self.now c.args.at.now) _
    (taken g (goal.at.invariant_of-self g c).After-take)

pub returns-in-Ok-clause-value : goal.returns-in-Ok-clause-value
returns-in-Ok-clause-value g c =
    let mine : c.self.inside.entries ≡ finite.entries c.args.self.now =
    sym (entries_kept c.self.inside.entries c.self.invariant) ∙ ap finite.entries c.self.view_is in
    second_at (finite.entries c.args.self.now) c.in-Ok.n (λ room. room.value.item) c.take.result
    (finite.get c.args.self.now c.args.at.now)
    (c.take.ensures.item ∙ ap (λ es. slice_get es c.in-Ok.n) mine) c.in-Ok.ensures.in_range
    c.in-Ok.ensures.found

pub returns-in-Ok-clause-taken : goal.returns-in-Ok-clause-taken
returns-in-Ok-clause-taken g c = made_map (finite.remove c.args.self.now c.args.at.now) _
    (taken g (goal.at.returns-in-Ok-clause-taken g c).After-take)

pub returns-in-Err-clause-taken : goal.returns-in-Err-clause-taken
returns-in-Err-clause-taken g c =
    sym (taken_in_vain address_total exact_addresses c.args.self.now c.args.at.now
    c.in-Err.ensures.absent)
