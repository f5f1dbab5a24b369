use Rattle.std.proofs.Common.{◌≡◌, Bool, None, ap, sym, ◌∙◌, true, false, if◌then◌else◌}
use Rattle.simplex_form.specs.Readings.{Readings}
use Rattle.simplex_form.specs.Turns as bland
use Rattle.tableau_core.specs.BoardContents.{readings_of}
use Rattle.simplex_core.proofs.rule.first_turn.Goals as goal

-- the turn where no column enters, by the two tests
ended_by : (R : Readings) (above fit : Bool) → None ≡ bland.entering R R.first_price
    → bland.is_left_above R ≡ above → fit ≡ bland.multipliers_fit R
    → (if above then bland.infeasible_turn fit else bland.sweep_turn R (bland.swept_entry R))
    ≡ bland.first_turn R (bland.entering R R.first_price)
ended_by R above fit none high e =
    (λ i. if sym high i then bland.infeasible_turn (e i) else bland.sweep_turn R
    (bland.swept_entry R)) ∙ ap (bland.first_turn R) none

pub returns-in-Some-clause-turn : goal.returns-in-Some-clause-turn
returns-in-Some-clause-turn g c =
    c.enters.ensures.turn ∙ ap (bland.first_turn
    (readings_of (g.T.Tableau.contents c.args.board.now))) c.in-Some.ensures.value

pub returns-then-not-is_left_above-clause-turn : goal.returns-then-not-is_left_above-clause-turn
returns-then-not-is_left_above-clause-turn g c =
    c.sweep_turn.ensures.turn
    ∙ ended_by (readings_of (g.T.Tableau.contents c.args.board.now)) false
    (bland.multipliers_fit (readings_of (g.T.Tableau.contents c.args.board.now)))
    (sym c.in_default.is ∙ c.entering.ensures.value) (sym c.is_left_above.ensures
    ∙ c.if-not-is_left_above.true) (λ _. bland.multipliers_fit
    (readings_of (g.T.Tableau.contents c.args.board.now)))

pub returns-then-multipliers_fit-clause-turn : goal.returns-then-multipliers_fit-clause-turn
returns-then-multipliers_fit-clause-turn g c =
    ended_by (readings_of (g.T.Tableau.contents c.args.board.now)) true true (sym c.in_default.is
    ∙ c.entering.ensures.value) (sym c.is_left_above.ensures ∙ c.if-not-is_left_above.false)
    (sym c.if-multipliers_fit.true ∙ c.multipliers_fit.ensures)

pub returns-else-multipliers_fit-clause-turn : goal.returns-else-multipliers_fit-clause-turn
returns-else-multipliers_fit-clause-turn g c =
    ended_by (readings_of (g.T.Tableau.contents c.args.board.now)) true false (sym c.in_default.is
    ∙ c.entering.ensures.value) (sym c.is_left_above.ensures ∙ c.if-not-is_left_above.false)
    (sym c.if-multipliers_fit.false ∙ c.multipliers_fit.ensures)
