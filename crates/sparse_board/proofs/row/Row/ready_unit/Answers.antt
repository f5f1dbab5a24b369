use Rattle.std.proofs.Common.{◌&&◌, not, FitsSigned, ap, ap₂, rules, subst, sym, w64, ◌∙◌}
use Rattle.std.proofs.lemmas.Int.{to_z-of_z}
use Rattle.sparse_board.specs.Mixed.{IsLeft, number_left}
use Rattle.sparse_board.proofs.MixedSteps.{ready_in_place}
use Rattle.sparse_board.proofs.row.Row.ready_unit.Goals as goal

pub ready-self-requires-clause-planned : goal.ready-self-requires-clause-planned
ready-self-requires-clause-planned c = c.unit_plan-plan.ensures

pub returns : goal.returns
returns c =
    let step = c.args.step.now.narrow.row in
    let left_fits : FitsSigned w64 c.ready-self.result = search rules in
    let left_is = to_z-of_z w64 c.ready-self.result left_fits in
    ready_in_place c.args.q c.args.step.now c.args.self.now _
    (ap₂ (λ a b. not a && b) c.requires.narrow c.requires.step_narrow) c.ready-self.ensures.width
    (subst (IsLeft step c.ready-self.new.self) (sym left_is) c.ready-self.ensures.left)
    (λ j b. ap (λ l. number_left step c.ready-self.new.self l j) left_is
    ∙ c.ready-self.ensures.numbers j b)
