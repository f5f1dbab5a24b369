use Rattle.std.proofs.Common.{◌≡◌, ◌<◌, length}
use Rattle.bridge_set.specs.Bridges.{choice_in}
use Rattle.item_core.specs.Kind.{kind_count, kind_number}
use Rattle.item_core.specs.declared.kind.Kind.{Kind}
use Rattle.table_change.proofs.changed.list_choices.Given as goal

abbrev pub invariant-loop-n : goal.invariant-loop-n
invariant-loop-n g l =
    (length l.choices ≡ kind_count)
    × ((kind : Kind) → kind_number kind < l.n
    → choice_in l.choices (kind_number kind) ≡ (g.R.Rewriter.means l.rewriter).choice (kind_number kind))
