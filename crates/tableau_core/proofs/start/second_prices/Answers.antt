use Rattle.std.proofs.Common.{arith, length, subst, sym, ◌<◌, ◌≡◌, ◌∙◌}
use Rattle.tableau_core.specs.Row.{cell}
use Rattle.tableau_core.specs.Start.{IsListOf, form_of}
use Rattle.tableau_core.specs.ItemLaws.{item_is}
use Rattle.tableau_core.specs.ListLaws.{listed_more, listed_none, lists_same}
use Rattle.tableau_core.proofs.ListSteps.{fit-more, fit-padded, listed-padded, none-fit}
use Rattle.tableau_core.proofs.start.second_prices.Goals as goal
use Rattle.simplex_form.specs.Form.{Form, second_cost}
use Rattle.simplex_laws.specs.TurnLaws.{second_cost_artificial, second_cost_real}

pub loop-cost-init : goal.loop-cost-init
loop-cost-init c = record {
  costs = listed_none (cell c.args.costs.now) c.in_ok-prices.prices.items
      c.in_ok-prices.ensures.items;
  all_fit = none-fit c.in_ok-prices.prices.items c.in_ok-prices.ensures.items;
}

pub loop-cost-preserved : goal.loop-cost-preserved
loop-cost-preserved c = record {
  costs = listed_more c.loop-cost.cost-index (cell c.args.costs.now) c.loop-cost.prices.items
      c.push.new.self.items c.cost-item.result c.loop-cost.invariant.costs
      (item_is c.args.costs.now c.loop-cost.cost-index c.cost-item.result c.loop-cost-test.true
      c.cost-item.is) c.in_ok-push.ensures.items;
  all_fit = fit-more c.loop-cost.prices.items c.push.new.self.items c.cost-item.result
      c.loop-cost.invariant.all_fit c.num-fits.ensures.fits c.in_ok-push.ensures.items;
}

pub returns-clause-prices : goal.returns-clause-prices
returns-clause-prices c = λ matrix right.
    let F : Form = form_of c.args.m (length c.args.costs.now) matrix right c.args.costs.now in
    let all : c.loop-cost.cost-index ≡ length c.args.costs.now = omega arith in
    let listed : IsListOf (length c.args.costs.now) (second_cost F) c.loop-cost.prices.items =
    lists_same c.loop-cost.cost-index (length c.args.costs.now) (cell c.args.costs.now)
    (second_cost F) c.loop-cost.prices.items all (λ j b. sym
    (second_cost_real F j (subst (λ n. j < n) all b))) c.loop-cost.invariant.costs in
    listed-padded (length c.args.costs.now) c.args.m c.loop-cost.prices.len c.loop-cost.prices.items
    c.resize.new.self.items c.zero.result listed.long c.loop-cost.prices.ok.0 c.zero.ensures
    c.in_ok-resize.ensures.items
    (second_cost F) listed (λ j b _. second_cost_artificial F j b)

pub returns-clause-all_fit : goal.returns-clause-all_fit
returns-clause-all_fit c =
    let all : c.loop-cost.cost-index ≡ length c.args.costs.now = omega arith in
    fit-padded (length c.args.costs.now) c.args.m c.loop-cost.prices.len c.loop-cost.prices.items
    c.resize.new.self.items c.zero.result (c.loop-cost.invariant.costs.long
    ∙ all) c.loop-cost.prices.ok.0 c.zero.ensures c.in_ok-resize.ensures.items
    c.loop-cost.invariant.all_fit
