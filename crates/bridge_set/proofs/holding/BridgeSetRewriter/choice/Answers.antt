use Rattle.std.proofs.Common.{arith, ap, ◌∙◌}
use Rattle.std.proofs.lemmas.List.{get_or_default}
use Rattle.std.proofs.lemmas.Option.{slice_get_within}
use Rattle.item_core.specs.declared.kind.TheConstants.{KINDS}
use Rattle.item_core.specs.Kind.{kind_number}
use Rattle.fresh_bridging.specs.TableLaws.{kind_stands}
use Rattle.bridge_set.specs.Bridges.{Bridges, choice_in}
use Rattle.bridge_set.proofs.holding.BridgeSetRewriter.choice.Goals as goal

pub returns : goal.returns
returns g c =
    let few = slice_get_within KINDS.kinds (kind_number c.args.kind) c.args.kind
    (kind_stands c.args.kind) in
    get_or_default c.self.inside.choices (kind_number c.args.kind) _ _
    (omega (arith, few, c.self.invariant.kinds))
    ∙ ap (λ (b : Bridges). choice_in b.choices (kind_number c.args.kind)) c.self.view_is
