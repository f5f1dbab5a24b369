use Rattle.std.proofs.Common.{rules}
use Rattle.std.proofs.lemmas.List.{get_or_default}
use Rattle.item_core.specs.Kind.{first_of, kind_number}
use Rattle.item_core.specs.declared.kind.TheConstants.{KINDS}
use Rattle.item_core.proofs.kind.Kind.first.Goals as goal

pub returns : goal.returns
unfolding first_of
returns c = get_or_default KINDS.first (kind_number c.args.self) _ _ (search rules)
