use Rattle.std.proofs.Common.{◌≡◌, ◌++◌}
use Rattle.bridged_report.proofs.entries.copies.Given as goal

abbrev pub invariant-loop-entry : goal.invariant-loop-entry
invariant-loop-entry l = l.copies.items ++ l.entry-iterator ≡ l.fn.entries
