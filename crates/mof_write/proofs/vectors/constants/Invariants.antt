use Rattle.std.proofs.Common.{◌≡◌, ◌++◌, drop, map, take}
use Rattle.std.specs.Prelude.{All}
use Rattle.serde_json.specs.View.{view}
use Rattle.mof_write.specs.Values.{number_data}
use Rattle.mof_write.specs.Sayable.{ConstantFits}
use Rattle.mof_write.proofs.vectors.constants.Given as goal

abbrev pub invariant-loop-func : goal.invariant-loop-func
invariant-loop-func l = record {
  made : map view l.values.items ++ map (λ f. number_data f.constant) (drop l.func-index l.funcs)
      ≡ map (λ f. number_data f.constant) l.funcs;
  fits : All ConstantFits (take l.func-index l.funcs);
}
