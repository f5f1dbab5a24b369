use Rattle.std.proofs.Common.{rules}
use Rattle.std.proofs.lemmas.List.{get_or_default}
use Rattle.item_core.specs.Kind.{is_native, kind_number}
use Rattle.item_core.specs.declared.kind.TheConstants.{KINDS}
use Rattle.item_core.proofs.kind.Kind.is_native.Goals as goal

pub returns : goal.returns
unfolding is_native
returns c = get_or_default KINDS.is_native (kind_number c.args.self) _ _ (search rules)
