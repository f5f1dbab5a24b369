use Rattle.std.proofs.Common.{◌+◌, ◌∙◌, [], ap, arith, length}
use Rattle.std.proofs.lemmas.Result.{IfOk-weaker}
use Rattle.simplex_form.specs.Form.{second_cost}
use Rattle.tableau_core.specs.Start.{form_of}
use Rattle.sparse_board.specs.Mixed.{number_of}
use Rattle.sparse_board.proofs.StartSteps.{listed_are, second_costs_are}
use Rattle.sparse_board.proofs.start_costs.second_row.Goals as goal

pub row_of-requires-clause-columns : goal.row_of-requires-clause-columns
row_of-requires-clause-columns c =
    omega (
      arith,
      ap length c.deref.ensures.value,
      (c.in_ok-prices.ensures.prices [] []).long,
      c.put_numbers.ensures.width,
      c.in_ok-narrow.ensures.width,
    )

pub row_of-requires-clause-few : goal.row_of-requires-clause-few
row_of-requires-clause-few c =
    omega (
      arith,
      ap length c.deref.ensures.value,
      (c.in_ok-prices.ensures.prices [] []).long,
      c.requires,
    )

pub returns-clause-wide : goal.returns-clause-wide
returns-clause-wide c =
    IfOk-weaker c.row_of.result _ _
    (λ row e. e ∙ ap length c.deref.ensures.value ∙ (c.in_ok-prices.ensures.prices [] []).long)
    c.row_of.ensures.wide

pub returns-then-put_numbers-clause-prices : goal.returns-then-put_numbers-clause-prices
returns-then-put_numbers-clause-prices c matrix right j b =
    c.of_whole.ensures.numbers j
    ∙ second_costs_are c.args.m c.args.costs.now matrix right _
    (c.put_numbers.ensures.numbers c.if-put_numbers.true)
    (λ k d e. c.put_numbers.ensures.others c.if-put_numbers.true k d
    (omega (arith, e, c.in_ok-narrow.ensures.width))) j b

pub returns-clause-prices : goal.returns-clause-prices
returns-clause-prices c =
    IfOk-weaker c.row_of.result _ _
    (λ row held matrix right. listed_are (length c.args.costs.now + c.args.m)
    (second_cost (form_of c.args.m (length c.args.costs.now) matrix right c.args.costs.now))
    c.deref.result.now c.in_ok-prices.prices.items (number_of row.now) c.deref.ensures.value
    (c.in_ok-prices.ensures.prices matrix right) held)
    c.row_of.ensures.numbers
