use Rattle.std.specs.Prelude.{◌&&◌, ◌↔◌, IsTrue, All, Ok, take}
use Rattle.std.proofs.Common.{◌∙◌, ap, drop, subst, sym}
use Rattle.ratio_core.specs.Rational.{Rational}
use Rattle.ratio_core.specs.AnsweredLaws.{passed_on}
use Rattle.aff_core.specs.Address.{Address}
use Rattle.aff_core.specs.FunctionLists.{evaluations}
use Rattle.set_core.specs.Membership.{In, MembershipFits}
use Rattle.set_core.specs.Mirrored.{multiplied}
use Rattle.user_model.specs.declared.group.Group.{Group}
use Rattle.certificates.specs.Points.{addresses_of, functions_of_group}
use Rattle.cert_core.specs.Holding.{FunctionsHold}
use Rattle.cert_core.specs.Readings.{one_of}
use Rattle.cert_core.specs.declared.readings.ValueOrSlope.{ValueOrSlope}
use Rattle.cert_core.proofs.Evaluated.{variables_in_set, variables_membership}
use Rattle.cert_core.proofs.GroupSteps.{GroupsTested, groups_end, groups_fit, groups_step}
use Rattle.cert_core.proofs.points.groups_hold.Goals as goal

abbrev F : ValueOrSlope → (Address → Rational) → Group → Type 0
F k x g = MembershipFits g.set (evaluations (one_of k) (functions_of_group g) x)

abbrev P : ValueOrSlope → (Address → Rational) → Group → Type 0
P k x g = FunctionsHold (one_of k) g.set (functions_of_group g) x

pub returns-in_err-holds : goal.returns-in_err-holds
returns-in_err-holds c = λ x is.
    let gs = c.args.groups.now.items in
    let g = c.in-Some.group.now in
    let next = c.in-Some.ensures.steps in
    let front = c.split_at.ensures.front ∙ ap (λ n. take n c.loop-group.left.now) c.len.ensures in
    let k = c.args.reading in
    passed_on c.from_residual.result c.in_err-holds.field-0.0
    (MembershipFits g.set c.split_at.result.0.now) (All (F k x) gs)
    (λ holds. IsTrue holds ↔ All (P k x) gs)
    (λ holds. IsTrue holds ↔ In (multiplied (one_of k) g.set) c.split_at.result.0.now)
    c.from_residual.ensures.1 c.in_err-holds.ensures (λ all.
    let owed = groups_fit (F k) (P k) c.loop-group.all gs c.loop-group.group-iterator c.next.new.self
    c.args.numbers.now c.loop-group.left.now g c.loop-group.invariant next x is all in
    variables_membership (one_of k) g.set (addresses_of g.vars) x c.split_at.result.0.now
    (front ∙ owed.0) owed.1)

pub loop-group-preserved : goal.loop-group-preserved
loop-group-preserved c =
    let gs = c.args.groups.now.items in
    let g = c.in-Some.group.now in
    let next = c.in-Some.ensures.steps in
    let front = c.split_at.ensures.front ∙ ap (λ n. take n c.loop-group.left.now) c.len.ensures in
    let back = c.split_at.ensures.back ∙ ap (λ n. drop n c.loop-group.left.now) c.len.ensures in
    let k = c.args.reading in
    subst (GroupsTested (F k) (P k) (c.loop-group.all && c.in_ok-holds.holds) gs c.next.new.self
    c.args.numbers.now) (sym back)
    (groups_step (F k) (P k) c.loop-group.all gs c.loop-group.group-iterator c.next.new.self c.args.numbers.now
    c.loop-group.left.now g c.loop-group.invariant next c.in_ok-holds.holds
    (λ x own. variables_in_set (Ok c.in_ok-holds.holds) (one_of k) g.set (addresses_of g.vars) x
    c.split_at.result.0.now (front ∙ own) c.in_ok-holds.ensures))

pub returns : goal.returns
returns c = λ x is.
    let gs = c.args.groups.now.items in
    let k = c.args.reading in
    groups_end (F k) (P k) c.loop-group.all gs c.loop-group.group-iterator
    c.args.numbers.now c.loop-group.left.now c.loop-group.invariant
    c.in-None.ensures.steps.0 x is
