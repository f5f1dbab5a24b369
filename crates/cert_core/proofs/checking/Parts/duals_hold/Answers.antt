use Rattle.std.specs.Prelude.{◌++◌, ◌↔◌, All, IsTrue}
use Rattle.ratio_core.specs.AnsweredLaws.{passed_on}
use Rattle.aff_core.specs.Points.{spread}
use Rattle.dual_laws.specs.Held.{DualRow}
use Rattle.set_core.specs.Membership.{Dual, DualFits}
use Rattle.certificates.specs.Duals.{groups_with, rows_with}
use Rattle.certificates.specs.Points.{all_addresses}
use Rattle.cert_core.proofs.Assembled.{numbers_of_model}
use Rattle.map_laws.specs.EachLaws.{all_first, all_second}
use Rattle.cert_core.proofs.Tested.{all_two, appended_tell, iff_trans}
use Rattle.cert_core.proofs.checking.Parts.duals_hold.Goals as goal

abbrev F : DualRow → Type 0
F h = DualFits h.set h.duals

abbrev P : DualRow → Type 0
P h = Dual h.set h.duals

pub returns-in_err-rows : goal.returns-in_err-rows
returns-in_err-rows c = λ next.
    let groups = c.args.self.now.groups.now.items in
    let w = spread (all_addresses groups) c.args.duals.now.vars.now in
    let front = rows_with c.args.duals.now.rows.now c.args.self.now.rows.now.items in
    let back = groups_with w groups in
    passed_on c.from_residual.result c.in_err-rows.field-0.0 (All F front) (All F (front ++ back))
    (λ holds. IsTrue holds ↔ All P (front ++ back)) (λ holds. IsTrue holds ↔ All P front)
    c.from_residual.ensures.1 c.in_err-rows.ensures (all_first F front back)

pub returns-in_err-groups : goal.returns-in_err-groups
returns-in_err-groups c = λ next.
    let groups = c.args.self.now.groups.now.items in
    let w = spread (all_addresses groups) c.args.duals.now.vars.now in
    let w_is = numbers_of_model groups c.args.self.now.rows.now.items c.args.self.now.variables
    c.args.duals.now.vars.now c.requires.ready c.requires.vars in
    let front = rows_with c.args.duals.now.rows.now c.args.self.now.rows.now.items in
    let back = groups_with w groups in
    passed_on c.from_residual-in_err-groups.result c.in_err-groups.field-0.0 (All F back)
    (All F (front ++ back)) (λ holds. IsTrue holds ↔ All P (front ++ back))
    (λ holds. IsTrue holds ↔ All P back) c.from_residual-in_err-groups.ensures.1
    (c.in_err-groups.ensures w w_is) (all_second F front back)

pub returns : goal.returns
returns c = λ next.
    let groups = c.args.self.now.groups.now.items in
    let w = spread (all_addresses groups) c.args.duals.now.vars.now in
    let w_is = numbers_of_model groups c.args.self.now.rows.now.items c.args.self.now.variables
    c.args.duals.now.vars.now c.requires.ready c.requires.vars in
    let a = c.in_ok-rows.rows in
    let b = c.in_ok-groups.groups in
    appended_tell F P (rows_with c.args.duals.now.rows.now c.args.self.now.rows.now.items)
    (groups_with w groups) a b c.all_true.result c.in_ok-rows.ensures
    (c.in_ok-groups.ensures w w_is)
    (iff_trans _ _ _ c.all_true.ensures (all_two a b))
