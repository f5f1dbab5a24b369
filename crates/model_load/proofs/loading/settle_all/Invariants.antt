use Rattle.std.proofs.Common.{◌≡◌, List, reverse, vec_len}
use Rattle.model_store.specs.declared.parked.Parked.{Parked}
use Rattle.model_load.specs.Loads.{AreParkedFor}
use Rattle.model_load.proofs.loading.settle_all.Given as goal

abbrev pub invariant-loop-undo : goal.invariant-loop-undo
invariant-loop-undo l = record {
  model : l.model.model ≡ l.initial.model.model;
  parked :
      (shorter : List Parked)
      → AreParkedFor shorter (reverse l.initial.undos.items) l.initial.model.parked
      → AreParkedFor shorter (reverse l.undos.items) l.model.parked;
}

abbrev pub decreases-loop-undo : goal.decreases-loop-undo
decreases-loop-undo l = vec_len l.undos
