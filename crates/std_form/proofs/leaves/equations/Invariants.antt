use Rattle.std.proofs.Common.{◌≡◌, map, take}
use Rattle.std.specs.Prelude.{flat_map}
use Rattle.std_form.specs.Borrowed.{equation_in}
use Rattle.std_form.specs.Indexed.{equations_in}
use Rattle.std_form.proofs.leaves.equations.Given as goal

abbrev pub invariant-loop-row : goal.invariant-loop-row
invariant-loop-row l =
    map equation_in l.equations.items ≡ flat_map (λ row. equations_in row.1.now)
    (take l.row-index l.rows)
