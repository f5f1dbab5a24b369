use Rattle.std.proofs.Common.{ap, sym, ◌∙◌}
use Rattle.std.specs.Option.{option_copied}
use Rattle.row_again.proofs.Naming.{is_named}
use Rattle.row_again.proofs.function.variable_name.Goals as goal

pub unreachable-requires : goal.unreachable-requires
unreachable-requires c =
    is_named c.args.model.now.model c.args.at.now c.requires
    (sym c.variable_name.ensures ∙ ap option_copied c.in-None.is)
