use Rattle.std.proofs.Common.{ap, ◌∙◌}
use Rattle.simplex_form.specs.Turns as bland
use Rattle.tableau_core.specs.BoardContents.{readings_of}
use Rattle.simplex_core.proofs.rule.sweep_turn.Goals as goal

pub returns-in-Some-clause-turn : goal.returns-in-Some-clause-turn
returns-in-Some-clause-turn g c =
    ap (bland.sweep_turn (readings_of (g.T.Tableau.contents c.args.board.now)))
    c.in-Some.ensures.value

pub returns-in-None-clause-turn : goal.returns-in-None-clause-turn
returns-in-None-clause-turn g c =
    c.second_turn.ensures.turn
    ∙ ap (bland.sweep_turn (readings_of (g.T.Tableau.contents c.args.board.now)))
    c.in-None.ensures.value
