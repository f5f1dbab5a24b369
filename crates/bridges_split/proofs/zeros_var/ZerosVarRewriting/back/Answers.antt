use Rattle.bridge_face.specs.FamilyLaws.{source_is}
use Rattle.std.proofs.Common.{sym, ◌∙◌, true≢false}
use Rattle.bridges_split.specs.ZerosVarLaws.{rule}
use Rattle.bridges_split.proofs.zeros_var.ZerosVarRewriting.back.Goals as goal

pub unreachable-requires : goal.unreachable-requires
unreachable-requires c =
    true≢false (sym (source_is rule c.args._kept.now.edge c.requires.own c.args._kept.now.item
    c.requires.suits).group ∙ c.requires.duals.no_group)
