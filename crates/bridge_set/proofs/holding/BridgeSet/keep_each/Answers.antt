use Rattle.std.proofs.Common.{arith, rules, map, sym, ap, subst, length, ◌∙◌}
use Rattle.std.specs.Vec.Iter.{into_iter_items}
use Rattle.std.proofs.lemmas.List.{nil_from_length}
use Rattle.bridge_set.specs.Bridges.{kept_by}
use Rattle.bridge_set.specs.Adding.{with_each}
use Rattle.bridge_set.proofs.AddingSteps.{AddedSoFar, added_free, added_more, added_own, added_start, with_nothing}
use Rattle.bridge_set.proofs.holding.BridgeSet.keep_each.Goals as goal

pub loop-node-init : goal.loop-node-init
loop-node-init g c =
    let gives = c.into_iter-node-iterator.ensures.into_iter_gives in (
      subst (AddedSoFar c.args.self.now c.args.self.now c.args.nodes.items) (sym gives.0)
          (added_start c.args.self.now c.args.nodes.items c.requires.nodes c.requires.free),
      search rules,
      tt,
      tt,
    )

pub keep-requires-clause-own : goal.keep-requires-clause-own
keep-requires-clause-own g c =
    added_own c.args.self.now c.args.nodes.items c.loop-node.self
    (into_iter_items c.loop-node.node-iterator) (into_iter_items c.next.new.self)
    c.in-Some.node c.in-Some.ensures.steps.0 c.loop-node.invariant.0

pub keep-requires-clause-free : goal.keep-requires-clause-free
keep-requires-clause-free g c =
    added_free c.args.self.now c.args.nodes.items c.loop-node.self
    (into_iter_items c.loop-node.node-iterator) (into_iter_items c.next.new.self)
    c.in-Some.node c.in-Some.ensures.steps.0 c.loop-node.invariant.0

pub loop-node-preserved : goal.loop-node-preserved
loop-node-preserved g c =
    let at = c.loop-node in
    let w = c.in_ok-keep.ensures in (
      added_more c.args.self.now at.self c.keep.new.self c.args.nodes.items
          (into_iter_items at.node-iterator) (into_iter_items c.next.new.self) c.in-Some.node
          c.in-Some.ensures.steps.0 at.invariant.0 w.ok w.families w.table w.choices w.turns,
      let was = at.invariant.1 in
          let gone = c.in-Some.ensures.steps.1 in
          let short = ap length c.in-Some.ensures.steps.0 in
          omega arith,
      tt,
      tt,
    )

pub returns-clause-kept : goal.returns-clause-kept
returns-clause-kept g c =
    let now = kept_by c.loop-node.self.states in
    sym (with_nothing now)
    ∙ sym (ap (λ ns. map (with_each ns) now)
    (nil_from_length (into_iter_items c.loop-node.node-iterator)
    (sym c.loop-node.invariant.1 ∙ c.in-None.ensures.steps.0)))
    ∙ c.loop-node.invariant.0.kept
