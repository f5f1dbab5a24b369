use Rattle.std.proofs.Common.{ap}
use Rattle.simplex_form.specs.Turns as bland
use Rattle.simplex_laws.specs.StandingLaws.{above_not_zero}
use Rattle.tableau_core.specs.BoardContents.{readings_of}
use Rattle.simplex_core.proofs.rule.enters.Goals as goal

pub returns-in-Some-clause-turn : goal.returns-in-Some-clause-turn
returns-in-Some-clause-turn g c =
    ap (bland.enters c.args.phase c.args.column) c.in-Some.ensures.value

pub returns-in-Some-clause-within : goal.returns-in-Some-clause-within
returns-in-Some-clause-within g c = (
  c.requires.first,
  c.in-Some.ensures.row.0,
  c.requires.column,
  above_not_zero ((readings_of (g.T.Tableau.contents c.args.board.now)).entry c.args.column
      c.in-Some.row) c.in-Some.ensures.row.1,
)

pub returns-in-None-clause-turn : goal.returns-in-None-clause-turn
returns-in-None-clause-turn g c =
    ap (bland.enters c.args.phase c.args.column) c.in-None.ensures.value
