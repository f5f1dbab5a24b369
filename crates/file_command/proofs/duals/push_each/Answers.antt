use Rattle.std.proofs.Common.{◌+◌, ◌++◌, ◌∷◌, ◌∙◌, ap, drop, sym}
use Rattle.std.proofs.lemmas.List.{drop_more}
use Rattle.ratio_core.specs.Text.{text_of}
use Rattle.file_command.proofs.Listed.{each_more}
use Rattle.file_command.proofs.duals.push_each.Goals as goal

pub loop-number-preserved : goal.loop-number-preserved
loop-number-preserved c =
    let all = c.args.numbers.now in
    let i = c.loop-number.number-index in
    let number = c.number-item.result in
    each_more (drop i all) (drop (i + 1) all) number c.loop-number.draft
    c.push_ratio.new.self _ c.loop-number.invariant
    (drop_more all i number c.loop-number-test.true ∙ ap (λ y. y ∷ drop (i + 1) all)
    (sym c.number-item.is))
    (c.in_ok-push_ratio.ensures ∙ ap (λ t. t ++ text_of number) c.in_ok-push.ensures)
