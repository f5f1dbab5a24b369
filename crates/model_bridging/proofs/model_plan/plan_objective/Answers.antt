use Rattle.std.proofs.Common.{◌≡◌, ap, ap₂, refl}
use Rattle.std.specs.Prelude.{IsTrue}
use Rattle.ratio_core.specs.AnsweredLaws.{passed_on}
use Rattle.item_core.specs.declared.item.Body.TheVariants.{AffineObj, PlainObj}
use Rattle.item_core.specs.declared.item.Item.{Item}
use Rattle.fresh_bridging.specs.Entries.{put_in, put_in_body, put_in_fits}
use Rattle.fresh_bridging.specs.ModelImage.{objective_item, objective_items}
use Rattle.model_bridging.proofs.Others.{objective_answered, objective_needs, objective_none, objective_ready}
use Rattle.model_bridging.proofs.model_plan.plan_objective.Goals as goal

pub returns-in-Feasibility-clause-answer : goal.returns-in-Feasibility-clause-answer
returns-in-Feasibility-clause-answer g c =
    objective_none (g.R.Rewriter.means c.args.rewriter.now).choice c.args.standing.now
    c.args.objective.now c.args.plan.now (ap objective_items c.in-Feasibility.is)

pub plan_further-requires : goal.plan_further-requires
unfolding put_in_body
plan_further-requires g c =
    let inner = c.args.standing.now in
    let item = objective_item (PlainObj c.in-Plain.sense c.in-Plain.var) in
    let made : Item = record { at = c.root-at.result; body = c.in_ok-body-in-Plain.body } in
    let is : made ≡ put_in inner item =
    ap₂ (λ a b. record { at = a; body = b }) c.root-at.ensures c.in_ok-body-in-Plain.ensures in
    objective_ready (g.R.Rewriter.means c.args.rewriter.now).choice inner c.args.objective.now
    c.args.plan.now item (ap objective_items c.in-Plain.is) made is c.requires

pub returns-in_ok-body-in-Plain-clause-answer : goal.returns-in_ok-body-in-Plain-clause-answer
unfolding put_in_body
returns-in_ok-body-in-Plain-clause-answer g c =
    let inner = c.args.standing.now in
    let item = objective_item (PlainObj c.in-Plain.sense c.in-Plain.var) in
    let made : Item = record { at = c.root-at.result; body = c.in_ok-body-in-Plain.body } in
    let is : made ≡ put_in inner item =
    ap₂ (λ a b. record { at = a; body = b }) c.root-at.ensures c.in_ok-body-in-Plain.ensures in
    objective_answered (g.R.Rewriter.means c.args.rewriter.now).choice inner c.args.objective.now
    c.args.plan.now item (ap objective_items c.in-Plain.is) c.plan_further.new.plan
    c.plan_further.result made refl is c.plan_further.ensures.answer

pub plan_further-requires-in-Affine : goal.plan_further-requires-in-Affine
unfolding put_in_body
plan_further-requires-in-Affine g c =
    let inner = c.args.standing.now in
    let item = objective_item (AffineObj c.in-Affine.sense c.in-Affine.func) in
    let made : Item = record { at = c.root-at.result; body = c.in_ok-body-in-Affine.body } in
    let is : made ≡ put_in inner item =
    ap₂ (λ a b. record { at = a; body = b }) c.root-at.ensures
    c.in_ok-body-in-Affine.ensures.answer.1 in
    objective_ready (g.R.Rewriter.means c.args.rewriter.now).choice inner c.args.objective.now
    c.args.plan.now item (ap objective_items c.in-Affine.is) made is c.requires

pub returns-in_err-body-in-Affine-clause-answer : goal.returns-in_err-body-in-Affine-clause-answer
returns-in_err-body-in-Affine-clause-answer g c =
    let inner = c.args.standing.now in
    let item = objective_item (AffineObj c.in-Affine.sense c.in-Affine.func) in
    passed_on c.from_residual-in_err-body-in-Affine.result c.in_err-body-in-Affine.field-0.0
    (IsTrue (put_in_fits inner item)) _ _ _ c.from_residual-in_err-body-in-Affine.ensures.1
    c.in_err-body-in-Affine.ensures.answer
    (objective_needs (g.R.Rewriter.means c.args.rewriter.now).choice inner c.args.objective.now
    c.args.plan.now item (ap objective_items c.in-Affine.is))

pub returns-in_ok-body-in-Affine-clause-answer : goal.returns-in_ok-body-in-Affine-clause-answer
unfolding put_in_body
returns-in_ok-body-in-Affine-clause-answer g c =
    let inner = c.args.standing.now in
    let item = objective_item (AffineObj c.in-Affine.sense c.in-Affine.func) in
    let made : Item = record { at = c.root-at.result; body = c.in_ok-body-in-Affine.body } in
    let is : made ≡ put_in inner item =
    ap₂ (λ a b. record { at = a; body = b }) c.root-at.ensures
    c.in_ok-body-in-Affine.ensures.answer.1 in
    objective_answered (g.R.Rewriter.means c.args.rewriter.now).choice inner c.args.objective.now
    c.args.plan.now item (ap objective_items c.in-Affine.is) c.plan_further-in-Affine.new.plan
    c.plan_further-in-Affine.result made c.in_ok-body-in-Affine.ensures.answer.0 is
    c.plan_further-in-Affine.ensures.answer
