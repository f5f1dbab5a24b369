use Rattle.std.proofs.Common.{◌≡◌, ◌∙◌, FitsSigned, ap, pos, rules, sym, to_z, w64}
use Rattle.std.proofs.lemmas.Int.{to_z-of_z}
use Rattle.ratio_core.specs.Rational.{reduce}
use Rattle.rational_laws.specs.Over.{over-zero_ℚ}
use Rattle.whole_rows.proofs.widening.number.Goals as goal

pub returns-then-num-eq0 : goal.returns-then-num-eq0
returns-then-num-eq0 c =
    let row = c.args.row.now in
    let num_fits : FitsSigned w64 c.numerator-num.result = search rules in
    let zero : c.numerator-num.result ≡ pos 0 =
    sym (to_z-of_z w64 c.numerator-num.result num_fits) ∙ ap (to_z w64) c.if-num-eq0.true in
    c.zero.ensures ∙ over-zero_ℚ row.den row.above
    ∙ ap (λ n. reduce n row.den) (sym zero ∙ c.numerator-num.ensures)
