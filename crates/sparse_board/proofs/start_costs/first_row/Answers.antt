use Rattle.std.proofs.Common.{◌+◌, ◌∙◌, [], ap, arith, length}
use Rattle.simplex_form.specs.Basis.{start}
use Rattle.simplex_form.specs.Board.{price}
use Rattle.simplex_form.specs.Form.{Form, first_cost}
use Rattle.tableau_core.specs.Start.{form_of}
use Rattle.sparse_board.specs.Mixed as mixed
use Rattle.sparse_board.proofs.StartSteps.{listed_are}
use Rattle.sparse_board.proofs.start_costs.first_row.Goals as goal

pub row_of-requires-clause-columns : goal.row_of-requires-clause-columns
row_of-requires-clause-columns c =
    omega (
      arith,
      ap length c.deref.ensures.value,
      (c.in_ok-prices.ensures.prices [] []).long,
      c.lower_by_rows.ensures.width,
    )

pub row_of-requires-clause-few : goal.row_of-requires-clause-few
row_of-requires-clause-few c =
    omega (
      arith,
      ap length c.deref.ensures.value,
      (c.in_ok-prices.ensures.prices [] []).long,
      c.requires.few,
    )

pub returns-clause-wide : goal.returns-clause-wide
returns-clause-wide c =
    c.in_ok-row_of.ensures.wide ∙ ap length c.deref.ensures.value
    ∙ (c.in_ok-prices.ensures.prices [] []).long

pub returns-then-lower_by_rows-clause-prices : goal.returns-then-lower_by_rows-clause-prices
returns-then-lower_by_rows-clause-prices c right costs j b =
    c.of_whole.ensures.numbers j
    ∙ c.lower_by_rows.ensures.prices c.if-lower_by_rows.true right costs j b

pub returns-clause-prices : goal.returns-clause-prices
returns-clause-prices c right costs =
    let F : Form = form_of c.args.m c.args.c c.args.matrix.now right costs in
    listed_are (c.args.c + c.args.m) (price F (start F) (first_cost F)) c.deref.result.now
    c.in_ok-prices.prices.items (mixed.number_of c.in_ok-row_of.field-0.now) c.deref.ensures.value
    (c.in_ok-prices.ensures.prices right costs) c.in_ok-row_of.ensures.numbers
