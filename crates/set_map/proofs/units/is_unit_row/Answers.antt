use Rattle.std.proofs.Common.{◌≡◌, arith, length, sym, true≢false, ◌∙◌}
use Rattle.set_map.proofs.MatrixSteps.{number_failed, number_more, other_from_test, same_from_test}
use Rattle.set_map.proofs.units.is_unit_row.Goals as goal

pub returns-then-ne : goal.returns-then-ne
returns-then-ne c =
    let long : length c.args.row.now ≡ c.args.size = omega (arith, c.if-row-size.false) in (
      λ t. absurd (true≢false (sym t)),
      λ same. absurd (number_failed c.args.row.now c.args.size c.args.i c.requires long c.loop-j.j
          c.index-row-j.result c.index-row-j.is c.loop-j-test.true
          (λ e. other_from_test c.index-row-j.result c.unit_number.result c.ne.result c.ne.ensures
          c.if-ne.true (e ∙ sym c.unit_number.ensures)) same),
    )

pub loop-j-preserved : goal.loop-j-preserved
loop-j-preserved c =
    let long : length c.args.row.now ≡ c.args.size = omega (arith, c.if-row-size.false) in
    number_more c.args.row.now c.args.size c.args.i c.requires long c.loop-j.j
    c.index-row-j.result c.index-row-j.is c.loop-j-test.true c.loop-j.invariant
    (same_from_test c.index-row-j.result c.unit_number.result c.ne.result c.ne.ensures
    c.if-ne.false ∙ c.unit_number.ensures)
