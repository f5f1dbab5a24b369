use Rattle.item_core.specs.Edge.{edge_entry}
use Rattle.item_core.proofs.edge.Edge.entry.Goals as goal

pub returns : goal.returns
unfolding edge_entry
returns c = c.entry_in.ensures _
