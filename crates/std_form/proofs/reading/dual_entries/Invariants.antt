use Rattle.std.proofs.Common.{◌≡◌, ◌++◌, drop}
use Rattle.std_form.proofs.ReadTo.{duals_of}
use Rattle.std_form.proofs.reading.dual_entries.Given as goal

-- what is left, after the entries so far, is all
abbrev pub invariant-loop-i : goal.invariant-loop-i
invariant-loop-i l =
    l.entries.items ++ duals_of (drop l.i-index l.rows) l.left ≡ duals_of l.rows l.multipliers
