use Rattle.std.specs.Prelude.{◌&&◌, ◌↔◌, IsTrue, All, map, take}
use Rattle.std.proofs.Common.{◌∙◌, ap, drop, refl, subst, sym}
use Rattle.ratio_core.specs.Rational.{Rational}
use Rattle.ratio_core.specs.AnsweredLaws.{overflowed}
use Rattle.aff_core.specs.Address.{Address}
use Rattle.set_core.specs.Membership.{Dual, DualFits}
use Rattle.user_model.specs.declared.group.Group.{Group}
use Rattle.certificates.specs.Duals.{group_with, groups_with}
use Rattle.certificates.specs.Points.{addresses_of}
use Rattle.cert_core.proofs.GroupSteps.{GroupsTested, groups_end, groups_fit, groups_step}
use Rattle.std.proofs.lemmas.List.Elements.{All-map}
use Rattle.map_laws.specs.EachLaws.{all_from_map}
use Rattle.cert_core.proofs.duals.group_duals_hold.Goals as goal

abbrev F : (Address → Rational) → Group → Type 0
F x g = DualFits g.set (map x (addresses_of g.vars))

abbrev P : (Address → Rational) → Group → Type 0
P x g = Dual g.set (map x (addresses_of g.vars))

pub returns-in_err-holds : goal.returns-in_err-holds
returns-in_err-holds c = λ x is.
    let gs = c.args.groups.now.items in
    let g = c.in-Some.group.now in
    let next = c.in-Some.ensures.steps in
    let front = c.split_at.ensures.front ∙ ap (λ n. take n c.loop-group.left.now) c.len.ensures in
    overflowed c.from_residual.result _ (All (λ h. DualFits h.set h.duals) (groups_with x gs))
    (λ holds. IsTrue holds ↔ All (λ h. Dual h.set h.duals) (groups_with x gs))
    c.from_residual.ensures.1 refl
    (λ all.
    let owed = groups_fit F P c.loop-group.all gs c.loop-group.group-iterator c.next.new.self c.args.duals.now
    c.loop-group.left.now g c.loop-group.invariant next x is
    (all_from_map (λ h. DualFits h.set h.duals) (group_with x) gs all) in
    c.in_err-holds.ensures (subst (DualFits g.set) (sym (front ∙ owed.0)) owed.1))

pub loop-group-preserved : goal.loop-group-preserved
loop-group-preserved c =
    let gs = c.args.groups.now.items in
    let g = c.in-Some.group.now in
    let next = c.in-Some.ensures.steps in
    let front = c.split_at.ensures.front ∙ ap (λ n. take n c.loop-group.left.now) c.len.ensures in
    let back = c.split_at.ensures.back ∙ ap (λ n. drop n c.loop-group.left.now) c.len.ensures in
    subst (GroupsTested F P (c.loop-group.all && c.in_ok-holds.holds) gs c.next.new.self
    c.args.duals.now) (sym back)
    (groups_step F P c.loop-group.all gs c.loop-group.group-iterator c.next.new.self c.args.duals.now
    c.loop-group.left.now g c.loop-group.invariant next c.in_ok-holds.holds
    (λ x own. subst (λ v. DualFits g.set v × (IsTrue c.in_ok-holds.holds ↔ Dual g.set v))
    (front ∙ own) c.in_ok-holds.ensures))

pub returns : goal.returns
returns c = λ x is.
    let gs = c.args.groups.now.items in
    let all = groups_end F P c.loop-group.all gs c.loop-group.group-iterator
    c.args.duals.now c.loop-group.left.now c.loop-group.invariant
    c.in-None.ensures.steps.0 x is in (
      All-map (λ h. DualFits h.set h.duals) (group_with x) gs all.0,
      (
        λ t. All-map (λ h. Dual h.set h.duals) (group_with x) gs (all.1.0 t),
        λ k. all.1.1 (all_from_map (λ h. Dual h.set h.duals) (group_with x) gs k),
      ),
    )
