use Rattle.std.proofs.Common.{ap, sym, ◌∙◌}
use Rattle.tableau_core.specs.BoardContents.{prices_of}
use Rattle.sparse_board.proofs.BoardSteps.{first_is, second_is}
use Rattle.sparse_board.proofs.board.BoardTableau.price.Goals as goal

pub returns-in-First : goal.returns-in-First
returns-in-First c =
    c.number.ensures ∙ first_is c.self.inside c.args.self.now c.self.view_is c.args.q
    c.requires.column ∙ ap (λ k. prices_of k c.args.self.now c.args.q) (sym c.in-First.is)

pub returns-in-Second : goal.returns-in-Second
returns-in-Second c =
    c.number-in-Second.ensures ∙ second_is c.self.inside c.args.self.now c.self.view_is c.args.q
    c.requires.column ∙ ap (λ k. prices_of k c.args.self.now c.args.q) (sym c.in-Second.is)
