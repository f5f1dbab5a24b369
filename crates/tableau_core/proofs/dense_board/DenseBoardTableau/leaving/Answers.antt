use Rattle.std.proofs.Common.{◌≡◌, ◌∙◌, arith, length}
use Rattle.simplex_form.specs.Search.{best_below}
use Rattle.tableau_core.specs.Kept.{width_of}
use Rattle.tableau_core.specs.Leaving.{leaves_before, may_leave}
use Rattle.tableau_core.proofs.BoardSteps.{column_within, leaving_is, leaving_row}
use Rattle.tableau_core.proofs.dense_board.DenseBoardTableau.leaving.Goals as goal

pub returns-clause-value : goal.returns-clause-value
returns-clause-value c =
    let a = c.self.inside in
    let q = c.args.q in
    let side_is : c.len-side.result ≡ width_of a = grind arith in
    c.leaving.ensures.value
    ∙ (λ k. best_below (length (c.deref.ensures.value k)) (may_leave (c.deref.ensures.value k) q)
    (leaves_before (c.deref.ensures.value k) (c.deref-2.ensures.value k) (side_is k) q))
    ∙ leaving_is a q c.args.self.now c.self.view_is
    (column_within a c.args.self.now q c.self.view_is c.requires.column)

pub returns-clause-row : goal.returns-clause-row
returns-clause-row c =
    let a = c.self.inside in
    leaving_row a c.args.q c.args.self.now c.deref.result.now c.leaving.result c.self.view_is
    c.deref.ensures.value
    (column_within a c.args.self.now c.args.q c.self.view_is c.requires.column)
    c.leaving.ensures.candidate
