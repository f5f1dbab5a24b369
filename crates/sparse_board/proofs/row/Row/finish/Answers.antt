use Rattle.std.proofs.Common.{FitsSigned, ap, of_z, rules, sym, to_z, w64, ◌∙◌}
use Rattle.std.proofs.lemmas.Int.{to_z-of_z}
use Rattle.whole_rows.specs.Rows.{lowered_by}
use Rattle.sparse_board.proofs.MixedSteps.{finished_by, finished_none}
use Rattle.sparse_board.proofs.row.Row.finish.Goals as goal

pub returns-then-self-eq0 : goal.returns-then-self-eq0
returns-then-self-eq0 c =
    let left_fits : FitsSigned w64 c.args.self.now.left = search rules in
    finished_none c.args.step.now c.args.self.now
    (sym (to_z-of_z w64 c.args.self.now.left left_fits) ∙ ap (to_z w64) c.if-self-eq0.true)

pub returns : goal.returns
returns c =
    let step = c.args.step.now.narrow.row in
    let left = c.args.self.now.left in
    let left_fits : FitsSigned w64 left = search rules in
    finished_by c.args.step.now c.args.self.now _
    (c.requires (λ e. c.if-self-eq0.false (ap (of_z w64) e))).0 c.lower_by.ensures.width
    (λ j. c.lower_by.ensures.numbers j
    ∙ ap (λ by. lowered_by step c.args.self.now.now.narrow by j) (to_z-of_z w64 left left_fits))
