use Rattle.std.proofs.Common.{slice_index_or, ◌<◌, ℕ}
use Rattle.solver_store.specs.declared.leaf.LeafVar.{LeafVar}
use Rattle.std_form.proofs.terms.index_end.Given as goal

abbrev pub invariant-loop-i : goal.invariant-loop-i
invariant-loop-i l =
    (k : ℕ) (d : ℕ × LeafVar) → k < l.i-index → (slice_index_or l.variables k d).0 < l.end
