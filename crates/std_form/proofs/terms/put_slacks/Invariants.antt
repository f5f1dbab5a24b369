use Rattle.std.proofs.Common.{length, map, slice_index_or, take, Bool, ◌<◌, ◌≡◌, ◌≤◌, ℕ}
use Rattle.sparse_lists.specs.Across.{GrowBy, list_at}
use Rattle.equality_form.specs.Columns.{slacks_from}
use Rattle.equality_form.specs.EqualityForm.{unit_at}
use Rattle.equality_form.specs.Equations.{flipped, is_flipped}
use Rattle.std_form.specs.Borrowed.{equation_in}
use Rattle.std_form.specs.Indexed.{SolverEquation}
use Rattle.std_form.proofs.terms.put_slacks.Given as goal

abbrev pub invariant-loop-i : goal.invariant-loop-i
invariant-loop-i l = record {
  low : (b : ℕ) → length (list_at l.rows b) ≤ l.place;
  grown : (flip : ℕ → Bool) → ((k : ℕ) (d : SolverEquation)
      → k < length (map equation_in l.equations)
      → flip k ≡ is_flipped (slice_index_or (map equation_in l.equations) k d))
      → GrowBy l.parts l.place (λ r. map (flipped (flip r))
      (unit_at (slacks_from 0 (map equation_in (take l.i l.equations))) r)) l.initial.rows l.rows;
}
