use Rattle.std.proofs.Common.{ap, slice_index_or, subst, sym, ◌∙◌, ◌&&◌, ◌≤◌}
use Rattle.std.proofs.lemmas.Bool.{le-leb}
use Rattle.ratio_core.specs.Rational.{zero_ℚ}
use Rattle.simplex_form.specs.Readings.{basic_at}
use Rattle.simplex_form.specs.Turns.{is_below}
use Rattle.tableau_core.specs.BoardContents.{readings_of}
use Rattle.simplex_core.proofs.rule.is_above.Goals as goal

pub returns-then-basis-i : goal.returns-then-basis-i
returns-then-basis-i g c =
    let R = readings_of (g.T.Tableau.contents c.args.board.now) in
    let artificial = subst (λ n. n ≤ slice_index_or R.basis c.args.i 0) c.real_count.ensures
    (subst (λ basis. c.real_count.result ≤ slice_index_or basis c.args.i 0)
    c.basis.ensures.columns c.if-basis-i.true) in
    c.is_positive.ensures ∙ ap (is_below zero_ℚ) c.right.ensures
    ∙ ap (λ a. a && is_below zero_ℚ (R.right c.args.i))
    (sym (le-leb R.reals (basic_at R c.args.i) artificial))
