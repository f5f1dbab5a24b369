use Rattle.std.proofs.Common.{ap, arith, sym, ◌∙◌}
use Rattle.ratio_core.specs.Rational.{zero_ℚ}
use Rattle.simplex_form.specs.Turns.{is_below}
use Rattle.tableau_core.specs.LeastLaws.{least_found}
use Rattle.tableau_core.specs.Row.{cell}
use Rattle.tableau_core.specs.ItemLaws.{item_is}
use Rattle.tableau_core.proofs.scan.first_negative.Goals as goal

pub returns-then-is_negative-clause-value : goal.returns-then-is_negative-clause-value
returns-then-is_negative-clause-value c =
    let row = c.args.row.now in
    sym (least_found c.args.count c.loop-j.j (λ j. is_below (cell row j) zero_ℚ) (omega arith)
    c.loop-j.invariant
    (ap (λ x. is_below x zero_ℚ) (sym (item_is row c.loop-j.j c.index-row-j.result (omega arith)
    c.index-row-j.is)) ∙ sym c.is_negative.ensures ∙ c.if-is_negative.true))
