use Rattle.std.specs.Prelude.{◌≡◌, take}
use Rattle.cache_layer.proofs.groups.copied.Given as goal

abbrev pub invariant-loop-edit : goal.invariant-loop-edit
invariant-loop-edit l = l.copies.items ≡ take l.edit-index l.edits
