use Rattle.std.proofs.Common.{rules}
use Rattle.std.proofs.lemmas.List.{get_or_default}
use Rattle.item_core.specs.Kind.{second_of, kind_number}
use Rattle.item_core.specs.declared.kind.TheConstants.{KINDS}
use Rattle.item_core.proofs.kind.Kind.second.Goals as goal

pub returns : goal.returns
unfolding second_of
returns c = get_or_default KINDS.second (kind_number c.args.self) _ _ (search rules)
