use Rattle.std.proofs.Common.{◌≡◌, ◌++◌, List, ℕ, vec_len}
use Rattle.std.specs.FinMap.{from_entries}
use Rattle.std.specs.Ordering.{nat_cmp}
use Rattle.std_form.proofs.reading.by_index.Given as goal

-- the entries that were taken, from the last on, and the map of them
abbrev pub invariant-loop-i : goal.invariant-loop-i
invariant-loop-i g l =
    (taken : List (ℕ × g.row.V.Denot)) × (l.initial.entries.items ≡ l.entries.items ++ taken)
    × (l.values ≡ from_entries {R = nat_cmp} taken)

abbrev pub decreases-loop-i : goal.decreases-loop-i
decreases-loop-i g l = vec_len l.entries
