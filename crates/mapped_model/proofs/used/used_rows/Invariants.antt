use Rattle.std.specs.Option.{option_copied}
use Rattle.std.specs.Prelude.{bytes_eq, map}
use Rattle.indexmap.specs.IndexMap.{get}
use Rattle.mapped_model.proofs.Using.{IsUsing}
use Rattle.mapped_model.proofs.used.used_rows.Given as goal

abbrev pub invariant-loop-use_ : goal.invariant-loop-use_
invariant-loop-use_ l =
    IsUsing l.model.model l.file.maps l.file.uses l.use_-index
    (λ name. option_copied (get bytes_eq l.unused name)) (map (λ r. r.now) l.used.items)
