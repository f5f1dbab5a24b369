use Rattle.std.proofs.Common.{◌≡◌, ◌+◌, ◌*◌, ◌<◌, ◌≤◌, ℕ, length}
use Rattle.sparse_ratios.specs.Terms.{AreTermsSplit}
use Rattle.simplex_form.specs.Board.{entry}
use Rattle.tableau_core.specs.Row.{cell}
use Rattle.tableau_core.specs.Start.{AtEachStart}
use Rattle.sparse_board.specs.Numbers as sparse
use Rattle.sparse_board.specs.Rows.{now_at, number_in_row, width_at}
use Rattle.sparse_board.proofs.start.start_rows.Given as goal

abbrev pub invariant-loop-i : goal.invariant-loop-i
invariant-loop-i l = record {
  few : l.from ≤ length l.terms;
  split : AreTermsSplit (l.i * l.c) l.from l.terms;
  room : sparse.width_of l.room ≤ l.c + l.m + 1;
  count : length l.rows.items ≡ l.i;
  wide : (k : ℕ) → k < l.i → width_at (now_at l.rows.items k) ≡ l.c + l.m + 1;
  entries : AtEachStart l.m l.c l.matrix (λ F s. (k : ℕ) → k < l.i → (j : ℕ) → j < l.c + l.m
      → number_in_row l.rows.items k j ≡ entry F s j k);
  sides : (k : ℕ) → k < l.i → number_in_row l.rows.items k (l.c + l.m) ≡ cell l.right k;
}
