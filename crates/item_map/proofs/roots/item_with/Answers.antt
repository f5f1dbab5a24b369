use Rattle.std.specs.Prelude.{refl}
use Rattle.std.proofs.Common.{sym, ◌∙◌}
use Rattle.item_map.specs.CountLaws.{empty_from_count}
use Rattle.item_map.proofs.roots.item_with.Goals as goal

pub returns-then-len-eq0 : goal.returns-then-len-eq0
returns-then-len-eq0 g c = record {
  at = tt;
  entries = sym (empty_from_count c.args.entries (sym c.len.ensures ∙ c.if-len-eq0.true));
}

pub returns : goal.returns
returns g c = record { at = refl; entries = refl }
