use Rattle.std.specs.Prelude.{map}
use Rattle.std.proofs.Common.{subst, sym}
use Rattle.equality_form.specs.ReadBack.{infeasible, optimal, unbounded}
use Rattle.solver_store.specs.declared.answer.LeafAnswer.{LeafAnswer}
use Rattle.std_form.specs.Answers.{answer_of}
use Rattle.tree_laws.specs.Certificate.{infeasible_duals, optimal_duals}
use Rattle.adjoint_core.specs.CanCarry.{CanCarry}
use Rattle.adjoint_core.specs.CarriedBack.{CarriesAnswerBack}
use Rattle.adjoint_core.specs.Read.{duals_by, numbers_by}
use Rattle.adjoint_core.proofs.CarriedOver.{good_if_ok, infeasible_told, optimal_told, unbounded_told}
use Rattle.adjoint_core.proofs.RowDuals.{rows_carried}
use Rattle.adjoint_core.proofs.carrying.carry_back.Goals as goal

pub optimal-requires : goal.optimal-requires
optimal-requires g c =
    let states = map g.B.Bridge.state c.args.bridges.now in
    let places = c.args.map.now in
    let m = c.args.model.now.model in
    let y = duals_by places c.in-Optimal.y in
    let now = optimal (numbers_by places c.in-Optimal.x) y in
    let can : CanCarry states places m now =
    subst (λ (a : LeafAnswer). CanCarry states places m (answer_of places a)) c.in-Optimal.is
    c.requires in
    (rows_carried states places m now can c.objective-valid.ensures.valid
    (optimal_duals can.bridging y) can.duals).within

pub infeasible-requires : goal.infeasible-requires
infeasible-requires g c =
    let states = map g.B.Bridge.state c.args.bridges.now in
    let places = c.args.map.now in
    let m = c.args.model.now.model in
    let y = duals_by places c.in-Infeasible.y in
    let now = infeasible y in
    let can : CanCarry states places m now =
    subst (λ (a : LeafAnswer). CanCarry states places m (answer_of places a)) c.in-Infeasible.is
    c.requires in
    (rows_carried states places m now can c.objective-valid.ensures.valid
    (infeasible_duals can.bridging y) can.duals).within

pub returns-in-Optimal-clause-carried : goal.returns-in-Optimal-clause-carried
returns-in-Optimal-clause-carried g c =
    let states = map g.B.Bridge.state c.args.bridges.now in
    let places = c.args.map.now in
    let m = c.args.model.now.model in
    let r = c.optimal.result in
    let x = numbers_by places c.in-Optimal.x in
    let y = duals_by places c.in-Optimal.y in
    subst (λ (a : LeafAnswer). (can : CanCarry states places m (answer_of places a))
    → CarriesAnswerBack can.bridging (answer_of places a) r) (sym c.in-Optimal.is)
    (λ can. optimal_told states places m (optimal x y) can c.objective-valid.ensures.valid y
    can.duals x r c.optimal.ensures)

pub returns-in-Optimal-clause-right : goal.returns-in-Optimal-clause-right
returns-in-Optimal-clause-right g c can right =
    good_if_ok (map g.B.Bridge.state c.args.bridges.now) c.args.map.now c.args.model.now.model
    (answer_of c.args.map.now c.args.a.now) can c.objective-valid.ensures.valid c.optimal.result
    (returns-in-Optimal-clause-carried g c can) right

pub returns-in-Infeasible-clause-carried : goal.returns-in-Infeasible-clause-carried
returns-in-Infeasible-clause-carried g c =
    let states = map g.B.Bridge.state c.args.bridges.now in
    let places = c.args.map.now in
    let m = c.args.model.now.model in
    let r = c.infeasible.result in
    let y = duals_by places c.in-Infeasible.y in
    subst (λ (a : LeafAnswer). (can : CanCarry states places m (answer_of places a))
    → CarriesAnswerBack can.bridging (answer_of places a) r) (sym c.in-Infeasible.is)
    (λ can. infeasible_told states places m (infeasible y) can c.objective-valid.ensures.valid y
    can.duals r c.infeasible.ensures)

pub returns-in-Infeasible-clause-right : goal.returns-in-Infeasible-clause-right
returns-in-Infeasible-clause-right g c can right =
    good_if_ok (map g.B.Bridge.state c.args.bridges.now) c.args.map.now c.args.model.now.model
    (answer_of c.args.map.now c.args.a.now) can c.objective-valid.ensures.valid c.infeasible.result
    (returns-in-Infeasible-clause-carried g c can) right

pub returns-in-Unbounded-clause-carried : goal.returns-in-Unbounded-clause-carried
returns-in-Unbounded-clause-carried g c =
    let states = map g.B.Bridge.state c.args.bridges.now in
    let places = c.args.map.now in
    let m = c.args.model.now.model in
    let r = c.unbounded.result in
    let x = numbers_by places c.in-Unbounded.x in
    let d = numbers_by places c.in-Unbounded.d in
    subst (λ (a : LeafAnswer). (can : CanCarry states places m (answer_of places a))
    → CarriesAnswerBack can.bridging (answer_of places a) r) (sym c.in-Unbounded.is)
    (λ can. unbounded_told states places m (unbounded x d) can c.objective-valid.ensures.valid x d
    r c.unbounded.ensures)

pub returns-in-Unbounded-clause-right : goal.returns-in-Unbounded-clause-right
returns-in-Unbounded-clause-right g c can right =
    good_if_ok (map g.B.Bridge.state c.args.bridges.now) c.args.map.now c.args.model.now.model
    (answer_of c.args.map.now c.args.a.now) can c.objective-valid.ensures.valid c.unbounded.result
    (returns-in-Unbounded-clause-carried g c can) right
