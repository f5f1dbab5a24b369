use Rattle.mof_round_trip_laws.specs.Rows.{placed_function}
use Rattle.row_again.proofs.row.row_edit.Goals as goal

pub named_function-requires : goal.named_function-requires
named_function-requires c =
    placed_function c.args.model.now.model c.args.row.now.func c.requires.stand
