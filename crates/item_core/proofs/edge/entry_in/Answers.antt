use Rattle.std.proofs.Common.{rules}
use Rattle.std.proofs.lemmas.List.{get_or_default}
use Rattle.item_core.specs.Edge.{edge_number}
use Rattle.item_core.proofs.edge.entry_in.Goals as goal

pub returns : goal.returns
returns c other = get_or_default c.args.entries.now (edge_number c.args.edge) _ other (search rules)
