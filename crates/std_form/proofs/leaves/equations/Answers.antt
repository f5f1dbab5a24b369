use Rattle.std.specs.Prelude.{flat_map}
use Rattle.std.proofs.Common.{◌∙◌, ap, sym}
use Rattle.std.proofs.lemmas.List.{take_all}
use Rattle.std.proofs.lemmas.List.Folds.{flat_map-map}
use Rattle.std_form.specs.Borrowed.{row_in}
use Rattle.std_form.specs.Indexed.{equations_in}
use Rattle.std_form.proofs.leaves.equations.Goals as goal

pub returns : goal.returns
returns c =
    c.loop-row.invariant
    ∙ ap (flat_map (λ row. equations_in row.1.now)) (take_all c.loop-row.row-index c.args.rows.now
    c.loop-row-test.false)
    ∙ sym (flat_map-map (λ row. equations_in row.1) row_in c.args.rows.now)
