use Rattle.std.proofs.Common.{◌∙◌, ◌++◌, ◌∷◌, [], ap, decimal}
use Rattle.std.proofs.lemmas.List.{at_drop_more, at_drop_all}
use Rattle.bridged_report.specs.Addresses.{position_text}
use Rattle.bridged_report.proofs.Pushes.{pushed_more, pushed_all, pushed_after}
use Rattle.bridged_report.proofs.addresses.push_positions.Goals as goal

pub loop-position-preserved : goal.loop-position-preserved
loop-position-preserved c =
    pushed_more position_text c.loop-position.draft _ _ _ c.loop-position.invariant
    (at_drop_more (λ ps. ps) c.args.positions.now c.loop-position.position-index 0
    c.loop-position-test.true)
    (c.in_ok-push_number.ensures ∙ pushed_after c.loop-position.draft (46 ∷ [])
    (decimal c.from.result) c.in_ok-push.ensures
    ∙ ap (λ p. c.loop-position.draft ++ 46 ∷ decimal p) c.from.ensures)

pub returns : goal.returns
returns c =
    pushed_all position_text c.loop-position.draft c.loop-position.invariant
    (at_drop_all (λ ps. ps) c.args.positions.now c.loop-position.position-index
    c.loop-position-test.false)
