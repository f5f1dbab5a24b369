use Rattle.std.proofs.Common.{◌∙◌, refl, subst, sym}
use Rattle.simplex_form.specs.declared.turn.Turn.TheVariants as turn
use Rattle.simplex_form.specs.Standing.{TurnSays}
use Rattle.simplex_laws.specs.TurnLaws.{turn_says}
use Rattle.simplex_core.proofs.read_off.unbounded.Goals as goal

pub returns : goal.returns
returns g c = λ F s d.
    let says : TurnSays F s (turn.Unbounded c.args.q) =
    subst (TurnSays F s) (sym d.due) (turn_says F s d.stands) in (
      c.args.q,
      refl,
      c.in_ok-x.ensures F s d.stands.basis d.board,
      c.in_ok-d.ensures F s d.stands.basis d.board says.2.negative,
      c.in_ok-basis.ensures
          ∙ d.board.basis,
    )
