use Rattle.std.proofs.Common.{length, ℕ, [], ◌≡◌}
use Rattle.sparse_lists.specs.Across.{list_at}
use Rattle.sparse_lists.proofs.across.none.Given as goal

abbrev pub invariant-loop : goal.invariant-loop
invariant-loop l = record {
  count : length l.lists.items ≡ l.counter;
  empty : (b : ℕ) → list_at l.lists.items b ≡ [];
}
