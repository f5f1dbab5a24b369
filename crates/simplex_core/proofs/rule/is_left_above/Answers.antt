use Rattle.std.proofs.Common.{arith, length, sym, ◌∙◌}
use Rattle.simplex_form.specs.Turns.{is_above}
use Rattle.tableau_core.specs.BoardContents.{readings_of}
use Rattle.simplex_core.proofs.Choices.{some_found, some_more}
use Rattle.simplex_core.proofs.rule.is_left_above.Goals as goal

pub returns-then-is_above : goal.returns-then-is_above
returns-then-is_above g c =
    let t = g.T.Tableau.contents c.args.board.now in
    sym (some_found (length t.rows) c.loop-i.i (is_above (readings_of t)) (omega arith)
    (sym c.is_above.ensures ∙ c.if-is_above.true))

pub loop-i-preserved : goal.loop-i-preserved
loop-i-preserved g c =
    some_more c.loop-i.i (is_above (readings_of (g.T.Tableau.contents c.args.board.now)))
    c.loop-i.invariant (sym c.is_above.ensures ∙ c.if-is_above.false)
