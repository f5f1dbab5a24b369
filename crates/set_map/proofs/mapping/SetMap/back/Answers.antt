use Rattle.std.proofs.Common.{◌≡◌, ap, length, subst, sym, ◌∙◌}
use Rattle.std.specs.Prelude.{All}
use Rattle.set_map.proofs.MatrixSteps.{columns_long}
use Rattle.set_map.proofs.Told.{told_back}
use Rattle.set_map.proofs.mapping.SetMap.back.Goals as goal

pub applied-requires : goal.applied-requires
applied-requires c =
    subst (λ columns. All (λ column. length column ≡ length c.as_slice-2.result.now) columns)
    (sym (c.as_slice.ensures ∙ c.self.invariant.columns))
    (columns_long c.self.inside.rows (length c.as_slice-2.result.now)
    (ap length c.as_slice-2.ensures ∙ c.requires ∙ ap length (sym c.self.view_is)))

pub returns-clause-law : goal.returns-clause-law
returns-clause-law c =
    told_back c.args.self.now c.self.inside.rows c.self.inside.columns c.as_slice.result.now
    c.args.y.now c.as_slice-2.result.now c.applied.result (sym c.self.view_is) c.self.invariant
    c.as_slice.ensures c.as_slice-2.ensures c.requires c.applied.ensures
