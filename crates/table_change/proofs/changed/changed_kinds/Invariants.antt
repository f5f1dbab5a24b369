use Rattle.std.proofs.Common.{◌≡◌, ◌<◌, false, length, slice_index_or}
use Rattle.bridge_set.specs.Bridges.{choice_in}
use Rattle.item_core.specs.Kind.{kind_count, kind_number}
use Rattle.item_core.specs.declared.kind.Kind.{Kind}
use Rattle.table_change.specs.ChangedKinds.{is_changed}
use Rattle.table_change.proofs.changed.changed_kinds.Given as goal

abbrev pub invariant-loop-n : goal.invariant-loop-n
invariant-loop-n l =
    (length l.changed ≡ kind_count)
    × ((kind : Kind) → kind_number kind < l.n
    → slice_index_or l.changed (kind_number kind) false
    ≡ is_changed (choice_in l.choices) (choice_in l.others) kind_count kind)
