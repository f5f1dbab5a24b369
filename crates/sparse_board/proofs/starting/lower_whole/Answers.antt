use Rattle.std.proofs.Common.{FitsSigned, ap, rules, sym, w64, ◌+ℤ◌, ◌∙◌}
use Rattle.std.proofs.lemmas.Int.{to_z-of_z}
use Rattle.sparse_board.proofs.FirstCostSteps.{lowered_over}
use Rattle.sparse_board.proofs.starting.lower_whole.Goals as goal

pub returns-clause-lowered : goal.returns-clause-lowered
returns-clause-lowered c _ =
    let less = c.in-Some-difference.less in
    let less_fits : FitsSigned w64 less = search rules in
    let n_fits : FitsSigned w64 c.in-Some.number = search rules in
    let old_fits : FitsSigned w64 c.numerator.result = search rules in
    lowered_over c.args.j c.in-Some.number less c.args.value.now c.args.row.now c.put.new.self
    c.requires.den c.put.ensures.den c.put.ensures.width
    (c.put.ensures.here ∙ to_z-of_z w64 less less_fits) c.put.ensures.elsewhere
    c.in-Some.ensures.0 c.in-Some.ensures.1
    (ap (λ z. less +ℤ z) (sym (to_z-of_z w64 c.in-Some.number n_fits))
    ∙ c.in-Some-difference.ensures.0 ∙ to_z-of_z w64 c.numerator.result old_fits
    ∙ c.numerator.ensures)
    c.in-Some-difference.ensures.1
