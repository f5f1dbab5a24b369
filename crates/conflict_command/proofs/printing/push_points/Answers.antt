use Rattle.std.proofs.Common.{◌+◌, ◌∷◌, ◌∙◌, ap, arith, drop, sym}
use Rattle.std.proofs.Math.ListN.{drop_of_length-le}
use Rattle.std.proofs.lemmas.List.{drop_more}
use Rattle.std.specs.List.{zip}
use Rattle.certificates.specs.Points.{variables_of}
use Rattle.conflict_command.proofs.Printed.{lines_all, lines_more, none_zipped, zipped_more, zipped_with_none}
use Rattle.conflict_command.proofs.printing.push_points.Goals as goal
use Rattle.conflict_command.specs.Text.{without_text}

pub loop-i-preserved : goal.loop-i-preserved
loop-i-preserved c =
    let i = c.loop-i.i in
    let rows = c.args.rows.now in
    let points = c.args.points.now in
    let name = c.index-rows-i.result in
    let x = c.index-points-i.result in
    lines_more (without_text (variables_of c.args.model.now.model.groups))
    (zip (drop i rows) (drop i points)) (zip (drop (i + 1) rows) (drop (i + 1) points)) (name, x)
    c.loop-i.draft c.push_without.new.draft _ c.loop-i.invariant
    (zipped_more (drop i rows) (drop i points) name x (drop (i + 1) rows) (drop (i + 1) points)
    (drop_more rows i name c.loop-i-test.true ∙ ap (λ y. y ∷ drop (i + 1) rows) (sym c.index-rows-i.is))
    (drop_more points i x (omega arith) ∙ ap (λ y. y ∷ drop (i + 1) points)
    (sym c.index-points-i.is)))
    c.in_ok-push_without.ensures

pub returns-then-i-points : goal.returns-then-i-points
returns-then-i-points c =
    let rows = drop c.loop-i.i c.args.rows.now in
    let points = drop c.loop-i.i c.args.points.now in
    lines_all (without_text (variables_of c.args.model.now.model.groups)) (zip rows points)
    c.loop-i.draft _ c.loop-i.invariant
    (zipped_with_none rows points (drop_of_length-le c.args.points.now (omega arith)))

pub returns : goal.returns
returns c =
    let rows = drop c.loop-i.i c.args.rows.now in
    let points = drop c.loop-i.i c.args.points.now in
    lines_all (without_text (variables_of c.args.model.now.model.groups)) (zip rows points)
    c.loop-i.draft _ c.loop-i.invariant
    (none_zipped rows points (drop_of_length-le c.args.rows.now c.loop-i-test.false))
