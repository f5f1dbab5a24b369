use Rattle.std.proofs.Common.{◌∙◌, ◌<◌, refl, subst}
use Rattle.ratio_core.specs.Rational.{neg_ℚ}
use Rattle.simplex_form.specs.Board.{multiplier}
use Rattle.simplex_form.specs.Form.{second_cost}
use Rattle.tableau_core.specs.BoardContents.{readings_of}
use Rattle.simplex_core.specs.Placed.{artificial}
use Rattle.simplex_core.proofs.Multipliers.{second_multiplier}
use Rattle.tableau_core.specs.ListLaws.{lists_same}
use Rattle.simplex_core.proofs.read_off.optimal.Goals as goal

pub returns : goal.returns
returns g c = λ F s d.
    let t = g.T.Tableau.contents c.args.board.now in
    let R = readings_of t in (
      refl,
      c.in_ok-x.ensures F s d.stands.basis d.board,
      lists_same R.rows F.rows (λ k. neg_ℚ (artificial R.second_price R k))
          (multiplier F s (second_cost F)) c.in_ok-y.y d.board.rows
          (λ k b. second_multiplier F s t d.stands.basis d.board k
          (subst (λ n. k < n) d.board.rows b)) c.in_ok-y.ensures,
      c.in_ok-basis.ensures ∙ d.board.basis,
    )
