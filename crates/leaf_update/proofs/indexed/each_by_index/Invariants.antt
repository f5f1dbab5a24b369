use Rattle.std.proofs.Common.{◌≡◌, map, take}
use Rattle.std.specs.Prelude.{All}
use Rattle.leaf_model.specs.ReadThrough.{named}
use Rattle.std_form.specs.NameLaws.{NamesNamed}
use Rattle.leaf_update.proofs.indexed.each_by_index.Given as goal

abbrev pub invariant-loop-func : goal.invariant-loop-func
invariant-loop-func l = record {
  same : map (named l.places.vars.indices) l.made.items ≡ take l.func-index l.funcs;
  names : All (NamesNamed l.places.vars.indices) l.made.items;
}
