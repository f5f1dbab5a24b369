use Rattle.std.proofs.Common.{ap, sym, ◌∙◌}
use Rattle.simplex_form.specs.Turns.{entering}
use Rattle.tableau_core.specs.BoardContents.{prices_of, readings_of}
use Rattle.sparse_board.proofs.BoardSteps.{first_entering, second_entering}
use Rattle.sparse_board.proofs.board.BoardTableau.entering.Goals as goal

pub returns-in-First-clause-value : goal.returns-in-First-clause-value
returns-in-First-clause-value c =
    let t = c.args.self.now in
    c.first_negative.ensures.value ∙ first_entering c.self.inside t c.self.view_is
    ∙ ap (λ k. entering (readings_of t) (prices_of k t)) (sym c.in-First.is)

pub returns-in-Second-clause-value : goal.returns-in-Second-clause-value
returns-in-Second-clause-value c =
    let t = c.args.self.now in
    c.first_negative-in-Second.ensures.value ∙ second_entering c.self.inside t c.self.view_is
    ∙ ap (λ k. entering (readings_of t) (prices_of k t)) (sym c.in-Second.is)
