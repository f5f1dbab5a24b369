use Rattle.std.proofs.Common.{sym, ap, ap₂, subst, ◌∙◌, ◌≡◌, length, All}
use Rattle.std.proofs.lemmas.Result.{IfOk-weaker}
use Rattle.aff_core.specs.Address.{child_of}
use Rattle.item_core.specs.Item.{functions_of, set_of}
use Rattle.item_core.specs.declared.item.Body.TheVariants.{AffineVec}
use Rattle.set_core.specs.declared.set.Set.TheVariants.{Zeros}
use Rattle.bridge_face.specs.BackOf.{size}
use Rattle.bridge_face.specs.ComponentLaws.{length-components, variables}
use Rattle.bridge_face.specs.GroupAndRowLaws.{group_and_row, group_and_row_made}
use Rattle.bridge_face.specs.ImageOf.{differences, inner, vector_slack}
use Rattle.bridge_face.specs.Law.{Miss}
use Rattle.bridges_slack.specs.VectorSlackLaws.{absent}
use Rattle.bridges_slack.proofs.vector_slack.VectorSlackRuleGroupRule.image.Goals as goal

pub rest-requires-clause-cone : goal.rest-requires-clause-cone
rest-requires-clause-cone c = c.requires.suits.cone

pub rest-requires-clause-count : goal.rest-requires-clause-count
rest-requires-clause-count c =
    sym (ap length (c.as_slice.ensures ∙ c.in_ok-vars.ensures)
    ∙ length-components (child_of c.args.item.now.at 0) c.component_count-count.result
    ∙ c.component_count-count.ensures)

pub rest-requires-clause-absent : goal.rest-requires-clause-absent
rest-requires-clause-absent c =
    subst (All (λ v. Miss (functions_of c.args.item.now.body) v))
    (sym (c.as_slice.ensures ∙ c.in_ok-vars.ensures
    ∙ ap (inner c.args.item.now) c.component_count-count.ensures))
    (absent c.args.item.now c.requires.valid c.requires.suits.cone)

pub returns : goal.returns
returns c =
    let vars_are = c.in_ok-vars.ensures ∙ ap (inner c.args.item.now)
    c.component_count-count.ensures in
    IfOk-weaker c.group_row_image.result (λ image. image ≡ group_and_row c.args.item.now
    c.child_group-group.result c.new.result c.in_ok-row.row)
    (λ image. image ≡ vector_slack c.args.item.now)
    (λ image e. group_and_row_made c.args.item.now c.in_ok-set.set (set_of c.args.item.now.body)
    c.in_ok-vars.vars (inner c.args.item.now (size c.args.item.now)) c.child_group-group.result
    c.new.result _ c.in_ok-row.row _ image
    c.in_ok-set.ensures vars_are c.new.ensures
    (c.in_ok-row.ensures
    ∙ ap₂ (λ vs n. AffineVec (differences (functions_of c.args.item.now.body) (variables vs))
    (Zeros n))
    (c.as_slice.ensures ∙ vars_are) c.component_count-count.ensures)
    c.child_group-group.ensures e)
    c.group_row_image.ensures
