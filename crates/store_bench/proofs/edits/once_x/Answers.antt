use Rattle.std.proofs.Common.{sym, subst, [], ◌∷◌, ◌++◌}
use Rattle.named_aff.specs.Distinct.{HasDistinctNames, one_distinct}
use Rattle.store_bench.proofs.edits.once_x.Goals as goal

pub push-requires : goal.push-requires
push-requires c =
    subst (λ ts. HasDistinctNames (ts ++ record {
      variable = c.in_ok-name.field-0;
      coefficient = c.one.result;
    } ∷ [])) (sym c.new-terms.ensures)
    (one_distinct (record { variable = c.in_ok-name.field-0; coefficient = c.one.result }))
