use Rattle.model_catalog.proofs.Listings.{ListedSoFar}
use Rattle.model_catalog.proofs.index.list_variables.Given as goal

abbrev pub invariant-loop-item : goal.invariant-loop-item
invariant-loop-item l =
    ListedSoFar l.group l.initial.kept.items l.kept.items l.listed l.item-index
    l.initial.kept.room l.kept.room
