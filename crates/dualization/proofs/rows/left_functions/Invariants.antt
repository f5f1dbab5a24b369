use Rattle.std.specs.Prelude.{◌≡◌, map, take}
use Rattle.certificates.specs.Points.{addresses_of}
use Rattle.dualization.specs.Rows.{left_named}
use Rattle.dualization.proofs.rows.left_functions.Given as goal

abbrev pub invariant-loop-var : goal.invariant-loop-var
invariant-loop-var l =
    l.functions.items
    ≡ map (left_named l.model.model l.names l.two) (addresses_of (take l.var-index l.vars))
