use Rattle.std.proofs.Common.{◌≡◌, length, subst, sym, ◌∙◌}
use Rattle.std.specs.Prelude.{All}
use Rattle.set_map.proofs.MatrixSteps.{columns_as_rows}
use Rattle.set_map.proofs.mapping.are_inverse.Goals as goal

pub is_product_unit-requires : goal.is_product_unit-requires
is_product_unit-requires c =
    subst (λ columns. All (λ row. All (λ column. length column ≡ length row) columns) c.args.rows.now)
    (sym (c.deref.ensures.value ∙ c.in_ok-others.ensures))
    (columns_as_rows (length c.args.rows.now) c.args.rows.now c.args.inverse.now
    c.requires.pair.first c.requires.pair.second)

pub is_product_unit-requires-2 : goal.is_product_unit-requires-2
is_product_unit-requires-2 c =
    subst (λ columns. All (λ row. All (λ column. length column ≡ length row) columns)
    c.args.inverse.now) (sym c.requires.columns)
    (columns_as_rows (length c.args.rows.now) c.args.inverse.now c.args.rows.now
    c.requires.pair.second c.requires.pair.first)
