use Rattle.std.proofs.Common.{FitsSigned, rules, subst, sym, w64}
use Rattle.std.proofs.lemmas.Int.{to_z-of_z}
use Rattle.whole_rows.specs.Rows.{IsNarrowReady}
use Rattle.whole_rows.proofs.PlanSteps.{by_long, by_short}
use Rattle.whole_rows.proofs.narrow_row.NarrowRow.ready.Goals as goal

pub bring_over-requires-clause-planned : goal.bring_over-requires-clause-planned
bring_over-requires-clause-planned c =
    (c.requires.0, by_short _ _ _ _ c.in-Short.plan c.in-Short.is c.requires.1)

pub lower_long-requires-clause-planned : goal.lower_long-requires-clause-planned
lower_long-requires-clause-planned c =
    (c.requires.0, by_long _ _ _ _ c.in-Long.plan c.in-Long.is c.requires.1)

pub returns-in-Short-clause-ready : goal.returns-in-Short-clause-ready
returns-in-Short-clause-ready c = λ q planned.
    let step = c.args.step.now.row in
    let by_fits : FitsSigned w64 c.in-Short.plan.by = search rules in
    subst (IsNarrowReady q step c.args.self.now c.bring_over.new.self)
    (sym (to_z-of_z w64 c.in-Short.plan.by by_fits))
    (c.bring_over.ensures.ready q
    (by_short q step c.args.self.now c.args.plan c.in-Short.plan c.in-Short.is planned))

pub returns-in-Long-clause-ready : goal.returns-in-Long-clause-ready
returns-in-Long-clause-ready c = λ q planned.
    c.lower_long.ensures.ready q
    (by_long q c.args.step.now.row c.args.self.now c.args.plan c.in-Long.plan c.in-Long.is planned)
