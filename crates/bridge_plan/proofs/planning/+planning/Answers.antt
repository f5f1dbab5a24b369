use Rattle.std.proofs.Common.{◌≡◌, ◌-◌, length, ap, sym, subst, ◌∙◌, arith, rules}
use Rattle.std.specs.Prelude.{IsTrue}
use Rattle.std.specs.Vec.Iter.{into_iter_items}
use Rattle.std.proofs.lemmas.List.{nil_from_length}
use Rattle.bridge_graph.specs.declared.Choice.TheVariants.{By}
use Rattle.ratio_core.specs.AnsweredLaws.{passed_on}
use Rattle.item_core.specs.Kind.{kind_number}
use Rattle.item_core.specs.KindOf.{kind_of_body}
use Rattle.fresh_bridging.specs.Entries.{put_in_fits}
use Rattle.bridge_face.specs.declared.kept_item.KeptItem.{KeptItem}
use Rattle.bridge_plan.specs.AddsHeld.{kept_of}
use Rattle.bridge_plan.specs.declared.plan.Plan.{Plan}
use Rattle.bridge_plan.specs.Worked.{worked, worked_in}
use Rattle.bridge_plan.specs.InTurn.{EachSoFar, InSoFar, each_end, each_needs, each_start, each_step, in_end, in_needs_made, in_needs_put, in_start, in_step}
use Rattle.bridge_plan.proofs.ItemCases.{planned_by, planned_natively}
use Rattle.bridge_plan.proofs.NodeSteps.{needs_further, node_answered, node_read, others_ready, pushed_node, stands_alike}
use Rattle.bridge_plan.proofs.Opened.{never_missing, opened, some_level}
use Rattle.bridge_plan.proofs.planning.+planning.Goals as goal

pub plan_each-loop-group-init : goal.plan_each-loop-group-init
plan_each-loop-group-init g t c =
    let first = g.R.Rewriter.means c.args.rewriter.now in
    let gives = c.into_iter-group-iterator.ensures.into_iter_gives in
    let all : into_iter_items c.into_iter-group-iterator.result ≡ c.args.groups =
    gives.0 ∙ c.into_vec-group-items.ensures in (
      subst (λ l. EachSoFar first c.args.levels c.args.groups l c.args.plan.now c.args.plan.now
          c.args.entries.now.items c.args.entries.now.items first) (sym all)
          (each_start first c.args.levels c.args.groups c.args.plan.now
          c.args.entries.now.items c.requires),
      search rules,
      tt,
      tt,
      omega arith,
    )

pub plan_each-loop-group-preserved : goal.plan_each-loop-group-preserved
plan_each-loop-group-preserved g t c =
    let first = g.R.Rewriter.means c.args.rewriter.now in
    let at = c.loop-group in
    let rest = into_iter_items c.next.new.self in
    let said = c.in_ok-plan_item.ensures.answer in (
      each_step first c.args.levels c.args.groups (into_iter_items at.group-iterator) rest
          c.in-Some.group c.args.plan.now at.plan c.args.entries.now.items at.entries.items
          (g.R.Rewriter.means at.rewriter) at.invariant.0 c.in-Some.ensures.steps.0
          c.plan_item.new.plan c.plan_item.new.entries.items
          (g.R.Rewriter.means c.plan_item.new.rewriter) said.0 said.1 c.plan_item.ensures.means,
      let was = at.invariant.1 in
          let gone = c.in-Some.ensures.steps.1 in
          let short = ap length c.in-Some.ensures.steps.0 in
          omega arith,
      tt,
      tt,
      omega (arith, at.invariant.4, c.in_ok-plan_item.ensures.turns),
    )

pub plan_each-returns-in_err-plan_item-clause-answer : goal.plan_each-returns-in_err-plan_item-clause-answer
plan_each-returns-in_err-plan_item-clause-answer g t c =
    let first = g.R.Rewriter.means c.args.rewriter.now in
    let at = c.loop-group in
    let rest = into_iter_items c.next.new.self in
    let means = g.R.Rewriter.means at.rewriter in
    passed_on c.from_residual.result c.in_err-plan_item.field-0.0
    (IsTrue (worked means.choice c.args.levels c.in-Some.group).fits) _ _ _
    c.from_residual.ensures.1 c.in_err-plan_item.ensures.answer
    (each_needs first c.args.levels c.args.groups (into_iter_items at.group-iterator) rest
    c.in-Some.group c.args.plan.now at.plan c.args.entries.now.items at.entries.items means
    at.invariant.0 c.in-Some.ensures.steps.0)

pub plan_each-returns-clause-answer : goal.plan_each-returns-clause-answer
plan_each-returns-clause-answer g t c =
    let first = g.R.Rewriter.means c.args.rewriter.now in
    let at = c.loop-group in
    each_end first c.args.levels c.args.groups (into_iter_items at.group-iterator) c.args.plan.now
    at.plan c.args.entries.now.items at.entries.items (g.R.Rewriter.means at.rewriter)
    at.invariant.0 (nil_from_length _ (sym at.invariant.1 ∙ c.in-None.ensures.steps.0))

pub plan_in-loop-item-init : goal.plan_in-loop-item-init
plan_in-loop-item-init g t c =
    let first = g.R.Rewriter.means c.args.rewriter.now in
    let inner = c.args.standing.now in
    let gives = c.into_iter-item-iterator.ensures.into_iter_gives in (
      subst (λ l. InSoFar first c.args.levels inner c.args.items.items l c.args.plan.now
          c.args.plan.now first inner) (sym gives.0)
          (in_start first c.args.levels inner c.args.items.items c.args.plan.now c.requires),
      search rules,
      tt,
      tt,
      omega arith,
    )

pub plan_in-returns-in_err-made-clause-answer : goal.plan_in-returns-in_err-made-clause-answer
plan_in-returns-in_err-made-clause-answer g t c =
    let first = g.R.Rewriter.means c.args.rewriter.now in
    let at = c.loop-item in
    passed_on c.from_residual.result c.in_err-made.field-0.0
    (IsTrue (put_in_fits at.standing c.in-Some.item)) _ _ _ c.from_residual.ensures.1
    c.in_err-made.ensures.answer
    (in_needs_put first c.args.levels c.args.standing.now c.args.items.items
    (into_iter_items at.item-iterator) (into_iter_items c.next.new.self) c.in-Some.item
    c.args.plan.now at.plan (g.R.Rewriter.means at.rewriter) at.standing at.invariant.0
    c.in-Some.ensures.steps.0)

pub plan_in-returns-in_err-plan_item-clause-answer : goal.plan_in-returns-in_err-plan_item-clause-answer
plan_in-returns-in_err-plan_item-clause-answer g t c =
    let first = g.R.Rewriter.means c.args.rewriter.now in
    let at = c.loop-item in
    let means = g.R.Rewriter.means at.rewriter in
    let made = c.in_ok-made.made in
    passed_on c.from_residual-in_err-plan_item.result c.in_err-plan_item.field-0.0
    (IsTrue (worked means.choice c.args.levels made).fits) _ _ _
    c.from_residual-in_err-plan_item.ensures.1 c.in_err-plan_item.ensures.answer
    (in_needs_made first c.args.levels c.args.standing.now c.args.items.items
    (into_iter_items at.item-iterator) (into_iter_items c.next.new.self) c.in-Some.item
    c.args.plan.now at.plan means at.standing at.invariant.0 c.in-Some.ensures.steps.0 made
    c.in_ok-made.ensures.answer.1)

pub plan_in-loop-item-preserved : goal.plan_in-loop-item-preserved
plan_in-loop-item-preserved g t c =
    let first = g.R.Rewriter.means c.args.rewriter.now in
    let at = c.loop-item in
    let means = g.R.Rewriter.means at.rewriter in
    let inner = c.args.standing.now in
    let rest = into_iter_items c.next.new.self in
    let later = g.R.Rewriter.means c.plan_item.new.rewriter in
    let said = c.in_ok-plan_item.ensures.answer in (
      subst (InSoFar first c.args.levels inner c.args.items.items rest c.args.plan.now
          c.plan_item.new.plan later) (sym c.put_in.ensures.same)
          (in_step first c.args.levels inner c.args.items.items (into_iter_items at.item-iterator)
          rest c.in-Some.item c.args.plan.now at.plan means at.standing at.invariant.0
          c.in-Some.ensures.steps.0
          c.in_ok-made.made c.in_ok-made.ensures.answer.1 c.in_ok-made.ensures.answer.0
          c.plan_item.new.plan later c.new-none.result.items c.plan_item.new.entries.items
          said.0 said.1 c.plan_item.ensures.means),
      let was = at.invariant.1 in
          let gone = c.in-Some.ensures.steps.1 in
          let short = ap length c.in-Some.ensures.steps.0 in
          omega arith,
      tt,
      tt,
      omega (arith, at.invariant.4, c.in_ok-plan_item.ensures.turns),
    )

pub plan_in-returns-clause-answer : goal.plan_in-returns-clause-answer
plan_in-returns-clause-answer g t c =
    let first = g.R.Rewriter.means c.args.rewriter.now in
    let at = c.loop-item in
    in_end first c.args.levels c.args.standing.now c.args.items.items
    (into_iter_items at.item-iterator) c.args.plan.now at.plan (g.R.Rewriter.means at.rewriter)
    at.standing at.invariant.0 (nil_from_length _ (sym at.invariant.1
    ∙ c.in-None.ensures.steps.0))

pub plan_item-plan_node-requires : goal.plan_item-plan_node-requires
plan_item-plan_node-requires g t c =
    let choice = (g.R.Rewriter.means c.args.rewriter.now).choice in
    let item = c.args.item in
    let by : choice (kind_number (kind_of_body item.body)) ≡ By c.in-By.edge =
    sym (c.choice.ensures ∙ ap (λ k. choice (kind_number k)) c.kind_of.ensures) ∙ c.in-By.is in
    let some = some_level choice item c.args.levels c.requires in
    let splits = opened choice item c.args.levels c.in-By.edge c.requires by in
    search (rules, arith)

pub plan_item-unreachable-requires : goal.plan_item-unreachable-requires
plan_item-unreachable-requires g t c =
    let choice = (g.R.Rewriter.means c.args.rewriter.now).choice in
    let item = c.args.item in
    never_missing choice item c.args.levels c.requires
    (sym (c.choice.ensures ∙ ap (λ k. choice (kind_number k)) c.kind_of.ensures)
    ∙ c.in-Missing.is)

pub plan_item-returns-in_ok-plan_native-in-Native-clause-answer : goal.plan_item-returns-in_ok-plan_native-in-Native-clause-answer
plan_item-returns-in_ok-plan_native-in-Native-clause-answer g t c =
    let choice = (g.R.Rewriter.means c.args.rewriter.now).choice in
    let item = c.args.item in
    let native = sym (c.choice.ensures ∙ ap (λ k. choice (kind_number k)) c.kind_of.ensures)
    ∙ c.in-Native.is in
    let done = c.in_ok-plan_native-in-Native.ensures in
    planned_natively choice c.args.levels item c.requires c.args.plan.now c.plan_native.new.plan
    c.args.entries.now.items c.plan_native.new.entries.items native done.leaves
    done.nodes done.entries

pub plan_item-returns-in-By-clause-answer : goal.plan_item-returns-in-By-clause-answer
plan_item-returns-in-By-clause-answer g t c =
    let choice = (g.R.Rewriter.means c.args.rewriter.now).choice in
    let item = c.args.item in
    let by = sym (c.choice.ensures ∙ ap (λ k. choice (kind_number k)) c.kind_of.ensures)
    ∙ c.in-By.is in
    planned_by choice c.args.levels item c.requires c.args.plan.now c.plan_node.new.plan
    c.args.entries.now.items c.plan_node.new.entries.items c.in-By.edge by c.plan_node.result
    c.plan_node.ensures.answer

pub plan_node-plan_in-requires : goal.plan_node-plan_in-requires
plan_node-plan_in-requires g t c =
    let first = g.R.Rewriter.means c.args.rewriter.now in
    let n = c.args.levels - 1 in
    let image = c.in-Ok.image in
    let is = c.in-Ok.ensures.answer.1 in
    let one_same = c.image.ensures.means in
    let two_same = c.plan_each.ensures.means ∙ one_same in
    let one : Plan = record { leaves = c.args.plan.now.leaves; nodes = c.push.new.self } in
    let alike = stands_alike first n c.args.edge c.args.item image is
    (g.R.Rewriter.means c.image.new.self) one_same one c.plan_each.new.plan
    c.new-inner.result.items c.plan_each.new.entries.items c.in_ok-standing.standing
    c.new-inner.ensures.items c.in_ok-plan_each.ensures.answer c.in_ok-standing.ensures in
    let within = others_ready first n c.args.edge c.args.item
    (g.R.Rewriter.means c.plan_each.new.rewriter) two_same image is c.in_ok-others.others.items
    c.in_ok-others.ensures c.in_ok-standing.standing c.requires.splits alike in
    λ κs h. (omega (arith, c.decreases, c.requires.some), (h, within))

pub plan_node-returns-in_err-plan_in-clause-answer : goal.plan_node-returns-in_err-plan_in-clause-answer
plan_node-returns-in_err-plan_in-clause-answer g t c =
    let first = g.R.Rewriter.means c.args.rewriter.now in
    let n = c.args.levels - 1 in
    let image = c.in-Ok.image in
    let is = c.in-Ok.ensures.answer.1 in
    let one_same = c.image.ensures.means in
    let two_means = g.R.Rewriter.means c.plan_each.new.rewriter in
    let two_same = c.plan_each.ensures.means ∙ one_same in
    let one : Plan = record { leaves = c.args.plan.now.leaves; nodes = c.push.new.self } in
    passed_on c.from_residual-in_err-plan_in.result c.in_err-plan_in.field-0.0
    (IsTrue (worked_in two_means.choice (worked two_means.choice n) c.in_ok-standing.standing
    c.in_ok-others.others.items).fits) _ _ _ c.from_residual-in_err-plan_in.ensures.1
    c.in_err-plan_in.ensures.answer
    (needs_further first n c.args.edge c.args.item image is (g.R.Rewriter.means c.image.new.self)
    one_same one c.plan_each.new.plan c.new-inner.result.items c.plan_each.new.entries.items
    c.in_ok-standing.standing c.new-inner.ensures.items c.in_ok-plan_each.ensures.answer
    c.in_ok-standing.ensures two_means two_same c.in_ok-others.others.items
    c.in_ok-others.ensures)

pub plan_node-returns-clause-answer : goal.plan_node-returns-clause-answer
plan_node-returns-clause-answer g t c =
    let first = g.R.Rewriter.means c.args.rewriter.now in
    let n = c.args.levels - 1 in
    let edge = c.args.edge in
    let item = c.args.item in
    let plan = c.args.plan.now in
    let image = c.in-Ok.image in
    let is = c.in-Ok.ensures.answer.1 in
    let one_means = g.R.Rewriter.means c.image.new.self in
    let one_same = c.image.ensures.means in
    let two_means = g.R.Rewriter.means c.plan_each.new.rewriter in
    let two_same = c.plan_each.ensures.means ∙ one_same in
    let one : Plan = record { leaves = plan.leaves; nodes = c.push.new.self } in
    let two = c.plan_each.new.plan in
    let three = c.plan_in.new.plan in
    let groups = c.in_ok-plan_each.ensures.answer in
    let further = c.in_ok-plan_in.ensures.answer in
    let pushed = pushed_node plan.nodes.items c.push.new.self.items c.edge_of.result edge item
    c.in_ok-push.ensures.items c.edge_of.ensures in
    let read = node_read plan.nodes.items one.nodes.items two.nodes.items three.nodes.items
    (kept_of (edge, item)) c.index.result.now _ _ c.len-place.result pushed groups.1.nodes
    further.1.nodes (c.len-place.ensures ∙ plan.nodes.ok.0) c.index.ensures in
    node_answered first n edge item image is one_means one_same one two c.new-inner.result.items
    c.plan_each.new.entries.items c.in_ok-standing.standing c.new-inner.ensures.items groups
    c.in_ok-standing.ensures two_means two_same c.in_ok-others.others.items
    c.in_ok-others.ensures
    plan three c.args.entries.now.items c.outer_entries.new.entries.items
    c.in-Ok.ensures.answer.0 (λ i. plan.leaves.items) pushed further
    c.outer_entries.result c.plan_in.new.standing c.index.result.now.item.body c.as_slice.result.now
    c.plan_in.ensures.same (ap (λ (k : KeptItem). k.item.body) read) c.as_slice.ensures
    c.outer_entries.ensures.answer
