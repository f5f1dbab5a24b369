use Rattle.std.proofs.Common.{◌≡◌, ◌++◌, drop, map, take}
use Rattle.std.specs.Prelude.{All}
use Rattle.serde_json.specs.View.{view}
use Rattle.mof_write.specs.Written.{naming, term_data}
use Rattle.mof_write.specs.Sayable.{TermFits}
use Rattle.mof_write.proofs.functions.terms.Given as goal

abbrev pub invariant-loop-var : goal.invariant-loop-var
invariant-loop-var l = record {
  made : map view l.values.items
      ++ map (term_data (naming l.model.model)) (drop l.var-index l.terms)
      ≡ map (term_data (naming l.model.model)) l.terms;
  fits : All TermFits (take l.var-index l.terms);
}
