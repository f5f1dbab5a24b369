use Rattle.model_catalog.proofs.NameLoops.{TakenSoFar}
use Rattle.model_catalog.proofs.names.take_names.Given as goal

abbrev pub invariant-loop-item : goal.invariant-loop-item
invariant-loop-item l =
    TakenSoFar l.initial.table.numbers l.table.numbers l.initial.listed l.listed l.item-index
    l.initial.table.spare l.table.spare
