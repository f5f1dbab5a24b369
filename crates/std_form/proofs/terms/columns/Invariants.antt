use Rattle.std.proofs.Common.{length, map, take, ◌≡◌, ◌≤◌, ℕ}
use Rattle.sparse_lists.specs.Across.{list_at}
use Rattle.std_form.specs.Borrowed.{equation_in}
use Rattle.std_form.specs.Gathered.{AreColumns}
use Rattle.std_form.proofs.terms.columns.Given as goal

abbrev pub invariant-loop-i : goal.invariant-loop-i
invariant-loop-i l = record {
  count : length l.columns.items ≡ l.count;
  low : (b : ℕ) → length (list_at l.columns.items b) ≤ l.i;
  columns : AreColumns (map equation_in (take l.i l.equations)) l.columns.items;
}
