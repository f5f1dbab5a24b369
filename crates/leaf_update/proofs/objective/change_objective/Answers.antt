use Rattle.std.proofs.Common.{refl, List, length, arith, ◌≡◌, sym, subst}
use Rattle.std.proofs.lemmas.Bool.Decides.{nat_tests}
use Rattle.leaf_model.specs.ReadThrough.{read_through}
use Rattle.aff_core.specs.Address.{Address}
use Rattle.item_core.specs.declared.item.Body.{Body}
use Rattle.leaf_update.proofs.objective.change_objective.Goals as goal
use Rattle.leaf_update.proofs.ObjectiveSteps.{empty_list, objective_changes, objective_dropped, objective_stays, some_list}
use Rattle.leaf_update.specs.Objective.{CanChange, ChangesObjective}

pub returns-then-is_empty-clause-changed : goal.returns-then-is_empty-clause-changed
returns-then-is_empty-clause-changed c =
    let m = c.args.map.now in
    let s = c.args.solver.now.leaves in
    let zero : length c.args.gone.now ≡ 0 = grind (arith, nat_tests, c.if-is_empty.ensures) in
    subst (λ (p : List Address × List (Address × Body)). ChangesObjective m s c.args.at.now p.0 p.1 0
    s c.args.at.now)
    (λ i. (sym (empty_list c.args.gone.now zero) i, sym (c.in_default.ensures.none refl) i))
    (objective_stays m s c.requires.named c.args.at.now)

pub returns-in_default-clause-changed : goal.returns-in_default-clause-changed
returns-in_default-clause-changed c =
    let m = c.args.map.now in
    let s = c.args.solver.now.leaves in
    let none = c.in_default.ensures.none refl in
    let some : ¬ (length c.args.gone.now ≡ 0) =
    λ e. absurd (grind (arith, nat_tests, c.if-is_empty.ensures, e)) in
    subst (λ es. ChangesObjective m s c.args.at.now c.args.gone.now es 1
    c.set_objective.new.self.leaves c.args.at.now) (sym none)
    (objective_dropped m s c.requires.named c.args.at.now
    (omega (arith, c.calls-few.ensures, c.calls-few.type_inv)) c.set_objective.new.self.leaves
    c.args.gone.now (some_list c.args.gone.now some)
    (subst (CanChange (read_through m s c.args.at.now).objective c.args.gone.now) none
    c.requires.can) c.set_objective.ensures.set)

pub returns-clause-changed : goal.returns-clause-changed
returns-clause-changed c =
    let m = c.args.map.now in
    let s = c.args.solver.now.leaves in
    let leaf = c.in-Some.leaf.now in
    subst (λ es. ChangesObjective m s c.args.at.now c.args.gone.now es c.in_ok-changed.changed
    c.set_objective-2.new.solver.leaves c.set_objective-2.new.at)
    (sym c.in-Some.ensures.all)
    (objective_changes m s c.requires.named c.args.at.now c.args.gone.now leaf.at leaf.body
    c.in_ok-changed.changed c.set_objective-2.new.solver.leaves c.set_objective-2.new.at
    (subst (CanChange (read_through m s c.args.at.now).objective c.args.gone.now)
    c.in-Some.ensures.all c.requires.can) c.in_ok-changed.ensures.set)
