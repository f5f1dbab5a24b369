use Rattle.std.proofs.Common.{◌≡◌, None, FitsSigned, pos, refl, rules, subst, sym, w64, ◌∙◌}
use Rattle.std.proofs.lemmas.Int.{to_z-of_z}
use Rattle.whole_rows.specs.Rows.{CanLower, IsNarrowReady}
use Rattle.sparse_board.proofs.MixedSteps.{left_none, planned_beside, planned_by, ready_numbers}
use Rattle.sparse_board.proofs.mixed_row.MixedRow.ready.Goals as goal

pub ready-requires : goal.ready-requires
ready-requires c = (
  c.args.q,
  planned_by c.args.q c.args.step.now.row c.args.self.now c.args.plan c.in-Some.plan
      c.args.room.now c.in-Some.is c.requires.planned,
)

pub returns-in-Some-clause-left : goal.returns-in-Some-clause-left
returns-in-Some-clause-left c = λ _. (
  c.requires.narrow,
  let by_fits : FitsSigned w64 c.ready.result = search rules in
      subst (CanLower c.args.step.now.row c.ready.new.self)
      (sym (to_z-of_z w64 c.ready.result by_fits))
      (c.ready.ensures.ready c.args.q (planned_by c.args.q c.args.step.now.row c.args.self.now
      c.args.plan c.in-Some.plan c.args.room.now c.in-Some.is c.requires.planned)).left,
)

pub returns-in-Some-clause-numbers : goal.returns-in-Some-clause-numbers
returns-in-Some-clause-numbers c = λ j b.
    let row = c.args.self.now in
    let by_fits : FitsSigned w64 c.ready.result = search rules in
    ready_numbers c.args.q c.args.step.now.row row row.is_wide row.wide c.ready.new.self _
    c.requires.narrow c.requires.narrow
    (subst (IsNarrowReady c.args.q c.args.step.now.row row.narrow c.ready.new.self)
    (sym (to_z-of_z w64 c.ready.result by_fits))
    (c.ready.ensures.ready c.args.q (planned_by c.args.q c.args.step.now.row row c.args.plan
    c.in-Some.plan c.args.room.now c.in-Some.is c.requires.planned))) j b

pub widen-requires-clause-room : goal.widen-requires-clause-room
widen-requires-clause-room c =
    let is : c.args.plan ≡ None = search rules in
    planned_beside c.args.q c.args.step.now.row c.args.self.now c.args.plan c.args.room.now is
    c.requires.planned

pub returns-clause-numbers : goal.returns-clause-numbers
returns-clause-numbers c = λ j b.
    left_none c.args.step.now.row c.widen.new.self (pos 0) refl j ∙ c.widen.ensures.numbers j b
