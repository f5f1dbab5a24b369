use Rattle.std.proofs.Common.{◌≡◌, ◌+◌, ◌<◌, ◌∙◌, ap, subst, sym, ℕ}
use Rattle.simplex_form.specs.Form.{second_cost}
use Rattle.tableau_core.specs.Start.{form_of}
use Rattle.sparse_board.specs.Mixed.{number_of}
use Rattle.sparse_board.proofs.start_costs.start_costs.Goals as goal

pub second_row-requires : goal.second_row-requires
second_row-requires c = record {
  few = subst (λ n. n + c.args.m + 1 < 4294967296) (sym c.requires.costs) c.requires.few;
}

pub returns-clause-second_wide : goal.returns-clause-second_wide
returns-clause-second_wide c =
    c.in_ok-second.ensures.wide ∙ ap (λ n. n + c.args.m) c.requires.costs

pub returns-clause-second : goal.returns-clause-second
returns-clause-second c right =
    subst (λ n. (j : ℕ) → j < n + c.args.m → number_of c.in_ok-second.second.now j
    ≡ second_cost (form_of c.args.m n c.args.matrix.now right c.args.costs.now) j)
    c.requires.costs (c.in_ok-second.ensures.prices c.args.matrix.now right)
