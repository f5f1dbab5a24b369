use Rattle.std.proofs.Common.{ap, arith, length, ◌≡◌, ◌∙◌, ◌+◌}
use Rattle.std.proofs.lemmas.List.{length_push}
use Rattle.sparse_lists.specs.Across.{list_at}
use Rattle.sparse_lists.specs.AcrossLaws.{empty_more}
use Rattle.sparse_lists.proofs.across.none.Goals as goal

pub loop-init : goal.loop-init
loop-init c = record {
  count = ap length c.in_ok-lists.ensures.items;
  empty = λ b. ap (λ l. list_at l b) c.in_ok-lists.ensures.items;
}

pub loop-preserved : goal.loop-preserved
loop-preserved c = record {
  count = ap length c.in_ok-push.ensures.items
      ∙ length_push c.loop.lists.items c.new-list.result
      ∙ ap (λ n. n + 1) c.loop.invariant.count;
  empty = λ b. ap (λ l. list_at l b) c.in_ok-push.ensures.items
      ∙ empty_more c.loop.lists.items c.new-list.result c.loop.invariant.empty c.new-list.ensures b;
}

pub returns-clause-count : goal.returns-clause-count
returns-clause-count c =
    let all : c.loop.counter ≡ c.args.count =
    omega (arith, c.loop.auto.counter-end, c.loop-test.false) in
    c.loop.invariant.count ∙ all

pub returns-clause-empty : goal.returns-clause-empty
returns-clause-empty c = c.loop.invariant.empty
