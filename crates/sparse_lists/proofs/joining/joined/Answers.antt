use Rattle.std.proofs.Common.{ap, sym, take, ◌++◌, ◌∙◌}
use Rattle.std.specs.Prelude.{flat_map}
use Rattle.std.proofs.lemmas.List.{take_all}
use Rattle.sparse_lists.specs.Across.{padded}
use Rattle.sparse_lists.specs.JoinedLaws.{flat_map_more}
use Rattle.sparse_lists.proofs.joining.joined.Goals as goal

pub loop-list-init : goal.loop-list-init
loop-list-init c = c.new-all.ensures

pub loop-list-preserved : goal.loop-list-preserved
loop-list-preserved c =
    c.in_ok-append.ensures
    ∙ ap (λ l. l ++ padded c.args.len c.list-item.result) c.loop-list.invariant
    ∙ ap (λ l. flat_map (padded c.args.len) (take c.loop-list.list-index c.args.lists.now)
    ++ padded c.args.len l) c.list-item.is
    ∙ sym (flat_map_more (padded c.args.len) c.args.lists.now c.loop-list.list-index
    c.list-item.result c.loop-list-test.true)

pub returns : goal.returns
returns c =
    c.loop-list.invariant
    ∙ ap (flat_map (padded c.args.len)) (take_all c.loop-list.list-index c.args.lists.now
    c.loop-list-test.false)
