use Rattle.std.proofs.Common.{take}
use Rattle.std.specs.Prelude.{flat_map}
use Rattle.sparse_lists.specs.Across.{GrowBy}
use Rattle.std_form.specs.Gathered.{cells_at}
use Rattle.std_form.proofs.terms.put_variables.Given as goal

abbrev pub invariant-loop-i : goal.invariant-loop-i
invariant-loop-i l =
    GrowBy 0 l.place (λ b. flat_map (cells_at l.columns b) (take l.i-index l.variables))
    l.initial.rows l.rows
