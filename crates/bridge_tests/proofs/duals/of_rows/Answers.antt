use Rattle.std.proofs.Common.{◌∷◌, ◌++◌, [], ap, ap₂, arith, length, map, sym, take, ◌∙◌}
use Rattle.std.proofs.lemmas.List.{map-append, take_all, take_more}
use Rattle.bridge_face.specs.BackOf.{size}
use Rattle.bridge_tests.proofs.duals.of_rows.Goals as goal

pub loop-row-preserved : goal.loop-row-preserved
loop-row-preserved c =
    let row = c.row-item.result in
    let so_far = take c.loop-row.row-index c.args.rows.now in
    ap (map length) c.in_ok-push.ensures.items
    ∙ map-append length c.loop-row.duals.items (c.in_ok-numbers.field-0 ∷ [])
    ∙ ap₂ (λ ns n. ns ++ n ∷ []) c.loop-row.invariant (c.in_ok-numbers.ensures
    ∙ c.function_count-count.ensures)
    ∙ sym (ap (map size) (take_more c.args.rows.now c.loop-row.row-index row c.loop-row-test.true
    ∙ ap (λ x. so_far ++ x ∷ []) (sym c.row-item.is))
    ∙ map-append size so_far (row ∷ []))

pub returns : goal.returns
returns c =
    c.loop-row.invariant ∙ ap (map size) (take_all c.loop-row.row-index c.args.rows.now
    (omega arith))
