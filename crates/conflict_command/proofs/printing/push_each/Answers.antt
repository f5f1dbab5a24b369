use Rattle.std.proofs.Common.{◌+◌, ◌∷◌, ◌∙◌, ap, codes, drop, sym}
use Rattle.std.proofs.Math.ListN.{drop_of_length-le}
use Rattle.std.proofs.lemmas.List.{drop_more}
use Rattle.conflict_command.proofs.Printed.{lines_all, lines_more}
use Rattle.conflict_command.proofs.printing.push_each.Goals as goal
use Rattle.conflict_command.specs.Text.{named_line}

pub loop-name-preserved : goal.loop-name-preserved
loop-name-preserved c =
    let all = c.args.rows.now in
    let i = c.loop-name.name-index in
    let name = c.name-item.result in
    lines_more (named_line (codes "row ")) (drop i all) (drop (i + 1) all) name c.loop-name.draft
    c.push_named.new.draft _ c.loop-name.invariant
    (drop_more all i name c.loop-name-test.true ∙ ap (λ y. y ∷ drop (i + 1) all)
    (sym c.name-item.is))
    c.in_ok-push_named.ensures

pub returns : goal.returns
returns c =
    lines_all (named_line (codes "row ")) (drop c.loop-name.name-index c.args.rows.now)
    c.loop-name.draft _ c.loop-name.invariant
    (drop_of_length-le c.args.rows.now c.loop-name-test.false)
