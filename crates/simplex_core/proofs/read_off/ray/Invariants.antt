use Rattle.std.proofs.Common.{◌≡◌, length}
use Rattle.ratio_core.specs.Rational.{neg_ℚ}
use Rattle.simplex_form.specs.Form.{Form}
use Rattle.simplex_form.specs.Basis.{BasisState, IsBasis, basic}
use Rattle.simplex_form.specs.Board.{entry}
use Rattle.tableau_core.specs.BoardContents.{IsBoardOf}
use Rattle.simplex_core.proofs.Placing.{IsPlacedTo}
use Rattle.simplex_core.proofs.read_off.ray.Given as goal

abbrev pub invariant-loop-i : goal.invariant-loop-i
invariant-loop-i g l = record {
  long : length l.d.items ≡ l.c;
  placed : (F : Form) (s : BasisState) → IsBasis F s → IsBoardOf F s (g.T.Tableau.contents l.board)
      → IsPlacedTo l.c l.i (basic s) (λ i. neg_ℚ (entry F s l.q i)) l.d.items;
}
