use Rattle.std.proofs.Common.{◌≡◌, ap₂}
use Rattle.std.specs.Prelude.{IsTrue}
use Rattle.ratio_core.specs.AnsweredLaws.{passed_on}
use Rattle.item_core.specs.declared.item.Item.{Item}
use Rattle.item_core.specs.Kind.{kind_count}
use Rattle.fresh_bridging.specs.Entries.{put_in, put_in_fits}
use Rattle.fresh_bridging.specs.ModelImage.{row_item}
use Rattle.fresh_bridging.specs.TableLaws.{and_first}
use Rattle.bridge_plan.specs.Worked.{worked}
use Rattle.model_bridging.proofs.InOrder.{child_answered}
use Rattle.model_bridging.proofs.model_plan.plan_row.Goals as goal

pub returns-in_err-body-clause-answer : goal.returns-in_err-body-clause-answer
returns-in_err-body-clause-answer g c =
    let choice = (g.R.Rewriter.means c.args.rewriter.now).choice in
    let inner = c.args.standing.now in
    let item = row_item c.args.row.now in
    passed_on c.from_residual.result c.in_err-body.field-0.0 (IsTrue (put_in_fits inner item)) _ _ _
    c.from_residual.ensures.1 c.in_err-body.ensures.answer
    (λ t. and_first (put_in_fits inner item) (worked choice kind_count (put_in inner item)).fits t)

pub returns-clause-answer : goal.returns-clause-answer
returns-clause-answer g c =
    let choice = (g.R.Rewriter.means c.args.rewriter.now).choice in
    let inner = c.args.standing.now in
    let item = row_item c.args.row.now in
    let made : Item = record { at = c.root-at.result; body = c.in_ok-body.body } in
    let is : made ≡ put_in inner item =
    ap₂ (λ a b. record { at = a; body = b }) c.root-at.ensures c.in_ok-body.ensures.answer.1 in
    child_answered choice inner item c.args.plan.now c.plan_further.new.plan c.plan_further.result
    made c.in_ok-body.ensures.answer.0 is c.plan_further.ensures.answer
