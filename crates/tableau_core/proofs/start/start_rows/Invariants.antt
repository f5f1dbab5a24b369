use Rattle.std.proofs.Common.{◌≡◌, ◌+◌, ◌<◌, ℕ, length}
use Rattle.simplex_form.specs.Board.{entry}
use Rattle.tableau_core.specs.Row.{cell}
use Rattle.tableau_core.specs.Rows.{now_at}
use Rattle.tableau_core.specs.Start.{AtEachStart}
use Rattle.tableau_core.proofs.start.start_rows.Given as goal

abbrev pub invariant-loop-i : goal.invariant-loop-i
invariant-loop-i l = record {
  count : length l.rows.items ≡ l.i;
  wide : (k : ℕ) → k < l.i → length (now_at l.rows.items k) ≡ l.c + l.m + 1;
  entries : AtEachStart l.m l.c l.matrix (λ F s. (k : ℕ) → k < l.i → (j : ℕ) → j < l.c + l.m
      → cell (now_at l.rows.items k) j ≡ entry F s j k);
  sides : (k : ℕ) → k < l.i → cell (now_at l.rows.items k) (l.c + l.m) ≡ cell l.right k;
}
