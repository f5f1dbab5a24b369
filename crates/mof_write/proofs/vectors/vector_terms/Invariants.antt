use Rattle.std.proofs.Common.{◌≡◌, ◌++◌, drop, map, take}
use Rattle.std.specs.Prelude.{All}
use Rattle.serde_json.specs.View.{view}
use Rattle.mof_write.specs.Written.{naming, vector_terms}
use Rattle.mof_write.specs.Sayable.{EachTermFits}
use Rattle.mof_write.proofs.vectors.vector_terms.Given as goal

abbrev pub invariant-loop-place : goal.invariant-loop-place
invariant-loop-place l = record {
  made : map view l.values.items
      ++ vector_terms (naming l.model.model) l.place (drop l.place l.funcs)
      ≡ vector_terms (naming l.model.model) 0 l.funcs;
  fits : All EachTermFits (take l.place l.funcs);
}
