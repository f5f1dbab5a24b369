use Rattle.std.proofs.Common.{arith}
use Rattle.std.proofs.lemmas.List.{get_or_default}
use Rattle.std.proofs.lemmas.Option.{slice_get_within}
use Rattle.fresh_bridging.specs.TableLaws.{kind_stands}
use Rattle.item_core.specs.Kind.{kind_number}
use Rattle.item_core.specs.declared.kind.TheConstants.{KINDS}
use Rattle.table_change.proofs.found.passes.Goals as goal

pub returns : goal.returns
returns c =
    let few = slice_get_within KINDS.kinds (kind_number c.args.kind) c.args.kind
    (kind_stands c.args.kind) in
    get_or_default c.args.changed.now (kind_number c.args.kind) _ _ (omega (arith, few))
