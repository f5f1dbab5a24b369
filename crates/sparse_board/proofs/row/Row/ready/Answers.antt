use Rattle.std.proofs.Common.{FitsSigned, ap, refl, rules, subst, sym, w64, ◌∙◌}
use Rattle.std.proofs.lemmas.Int.{to_z-of_z}
use Rattle.sparse_board.specs.Mixed.{IsLeft, number_left}
use Rattle.sparse_board.proofs.MixedSteps.{in_place_prepared, ready_beside, ready_in_place, settled_beside, settled_still}
use Rattle.sparse_board.proofs.row.Row.ready.Goals as goal

pub ready-self-requires-clause-planned : goal.ready-self-requires-clause-planned
ready-self-requires-clause-planned c =
    in_place_prepared c.args.q c.args.step.now c.args.self.now
    (sym c.is_in_place.ensures ∙ c.if-is_in_place.true) c.requires

pub returns-then-is_in_place : goal.returns-then-is_in_place
returns-then-is_in_place c =
    let step = c.args.step.now.narrow.row in
    let left_fits : FitsSigned w64 c.ready-self.result = search rules in
    let left_is = to_z-of_z w64 c.ready-self.result left_fits in
    ready_in_place c.args.q c.args.step.now c.args.self.now _
    (sym c.is_in_place.ensures ∙ c.if-is_in_place.true) c.ready-self.ensures.width
    (subst (IsLeft step c.ready-self.new.self) (sym left_is) c.ready-self.ensures.left)
    (λ j b. ap (λ l. number_left step c.ready-self.new.self l j) left_is
    ∙ c.ready-self.ensures.numbers j b)

pub returns-then-self : goal.returns-then-self
returns-then-self c =
    ready_beside c.args.q c.args.step.now c.args.self.now _ refl
    (settled_beside c.args.q c.args.step.now c.args.self.now c.take.new.self
    (sym c.is_in_place.ensures ∙ c.if-is_in_place.false) c.if-self.true c.requires
    c.take.ensures.width c.take.ensures.numbers)

pub returns-else-self : goal.returns-else-self
returns-else-self c =
    ready_beside c.args.q c.args.step.now c.args.self.now _ refl
    (settled_still c.args.q c.args.step.now c.args.self.now
    (sym c.is_in_place.ensures ∙ c.if-is_in_place.false) c.if-self.false c.requires)
