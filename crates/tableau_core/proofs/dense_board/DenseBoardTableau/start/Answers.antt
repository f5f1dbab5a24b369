use Rattle.std.proofs.Common.{ap, length, subst, sym, true, ◌+◌, ◌∙◌}
use Rattle.std.proofs.lemmas.List.FromFn.{length-range_with_len}
use Rattle.tableau_core.specs.declared.dense_board.DenseBoard.TheInside.{Inside}
use Rattle.tableau_core.specs.Start.{IsListOf, form_of}
use Rattle.tableau_core.specs.Kept.{contents_of}
use Rattle.tableau_core.specs.KeptLaws.{started_read}
use Rattle.tableau_core.proofs.BoardSteps.{numbers_of, start-kept, value_agrees}
use Rattle.tableau_core.proofs.dense_board.DenseBoardTableau.start.Goals as goal
use Rattle.simplex_form.specs.Basis.{start}
use Rattle.simplex_form.specs.Board.{price}
use Rattle.simplex_form.specs.Form.{Form, first_cost, second_cost}

abbrev form : goal.In_ok-basis → Form
form c = form_of c.args.m c.args.c c.args.matrix.now c.args.right.now c.args.costs.now

abbrev made : goal.In_ok-basis → Inside
made c = record {
  reals = c.args.c;
  rows = c.in_ok-rows.rows;
  costs = record {
    in_first = true;
    first = c.in_ok-first.first;
    second = c.in_ok-second.second;
  };
  step = c.in_ok-step.step;
  places = c.in_ok-places.places;
  basis = c.in_ok-basis.basis;
}

first_listed : (c : goal.In_ok-basis) → IsListOf (c.args.c + c.args.m)
    (price (form c) (start (form c)) (first_cost (form c))) c.in_ok-first.first.now.items
first_listed c =
    subst (IsListOf (c.args.c + c.args.m) (price (form c) (start (form c)) (first_cost (form c))))
    (sym c.in_ok-first.ensures) (c.in_ok-first_prices.ensures.prices c.args.right.now
    c.args.costs.now)

second_listed : (c : goal.In_ok-basis) → IsListOf (c.args.c + c.args.m)
    (second_cost (form c)) c.in_ok-second.second.now.items
second_listed c =
    subst (IsListOf (c.args.c + c.args.m) (second_cost (form c))) (sym c.in_ok-second.ensures)
    (subst (λ n. IsListOf (n + c.args.m)
    (second_cost (form_of c.args.m n c.args.matrix.now c.args.right.now c.args.costs.now))
    c.in_ok-second_prices.field-0.items) c.requires.costs
    (c.in_ok-second_prices.ensures.prices c.args.matrix.now c.args.right.now))

pub invariant_of-result : goal.invariant_of-result
invariant_of-result c =
    start-kept (made c) c.args.m c.in_ok-rows.ensures.count c.in_ok-rows.ensures.wide
    (first_listed c).long (second_listed c).long c.in_ok-step.ensures.long
    c.in_ok-step.ensures.all_fit
    c.in_ok-places.ensures
    (ap length c.in_ok-basis.ensures ∙ length-range_with_len c.args.c c.args.m)

pub returns-clause-board : goal.returns-clause-board
returns-clause-board c =
    started_read (form c) c.in_ok-basis.basis.items (numbers_of (made c)) (contents_of (made c))
    (value_agrees true (made c))
    c.in_ok-rows.ensures.count c.in_ok-basis.ensures (c.in_ok-rows.ensures.entries c.args.right.now
    c.args.costs.now) c.in_ok-rows.ensures.sides (first_listed c).cells (second_listed c).cells
