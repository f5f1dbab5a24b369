use Rattle.std.proofs.Common.{◌∙◌, ◌<◌, refl, subst}
use Rattle.ratio_core.specs.Rational.{one_ℚ, ◌-ℚ◌}
use Rattle.simplex_form.specs.Board.{multiplier}
use Rattle.simplex_form.specs.Form.{first_cost}
use Rattle.tableau_core.specs.BoardContents.{readings_of}
use Rattle.simplex_core.specs.Placed.{artificial}
use Rattle.simplex_core.proofs.Multipliers.{first_multiplier}
use Rattle.tableau_core.specs.ListLaws.{lists_same}
use Rattle.simplex_core.proofs.read_off.infeasible.Goals as goal

pub returns : goal.returns
returns g c = λ F s d.
    let t = g.T.Tableau.contents c.args.board.now in
    let R = readings_of t in (
      refl,
      lists_same R.rows F.rows (λ k. one_ℚ -ℚ artificial R.first_price R k)
          (multiplier F s (first_cost F)) c.in_ok-y.y d.board.rows
          (λ k b. first_multiplier F s t d.stands.basis d.board c.requires.first k
          (subst (λ n. k < n) d.board.rows b)) c.in_ok-y.ensures,
      c.in_ok-basis.ensures ∙ d.board.basis,
    )
