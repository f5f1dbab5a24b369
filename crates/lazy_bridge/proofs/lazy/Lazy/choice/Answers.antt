use Rattle.std.proofs.Common.{subst, sym}
use Rattle.item_core.specs.Kind.{kind_number}
use Rattle.bridge_set.specs.Bridges.{setting_of}
use Rattle.fresh_bridging.specs.TheRules.{IsChoice, graph_of}
use Rattle.lazy_bridge.specs.Owned.{Owned, setting_in}
use Rattle.lazy_bridge.proofs.lazy.Lazy.choice.Goals as goal

pub returns : goal.returns
returns g c =
    let kind = kind_number c.args.kind in
    subst (λ (o : Owned). IsChoice (graph_of (setting_in o)) kind c.choice.result) c.self.view_is
    (subst (IsChoice (graph_of (setting_of c.self.inside.bridges)) kind) (sym c.choice.ensures)
    (c.table-sound.ensures.sound.chosen kind))
