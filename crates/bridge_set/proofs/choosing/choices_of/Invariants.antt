use Rattle.std.proofs.Common.{◌≡◌, ◌<◌, ℕ, length}
use Rattle.std.specs.Prelude.{slice_index_or}
use Rattle.bridge_graph.specs.declared.Choice.TheVariants.{Missing}
use Rattle.item_core.specs.Kind.{kind_count}
use Rattle.fresh_bridging.specs.TheRules.{IsChoice}
use Rattle.bridge_set.proofs.choosing.choices_of.Given as goal

abbrev pub invariant-loop-n : goal.invariant-loop-n
invariant-loop-n l =
    (length l.choices ≡ kind_count)
    × ((k : ℕ) → k < l.n → IsChoice l.graph k (slice_index_or l.choices k Missing))
