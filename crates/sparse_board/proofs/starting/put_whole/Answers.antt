use Rattle.std.proofs.Common.{FitsSigned, rules, w64, ◌∙◌}
use Rattle.std.proofs.lemmas.Int.{to_z-of_z}
use Rattle.sparse_board.proofs.WholeStartSteps.{put_over}
use Rattle.sparse_board.proofs.starting.put_whole.Goals as goal

pub returns-clause-put : goal.returns-clause-put
returns-clause-put c _ =
    let n = c.in-Some.number in
    let n_fits : FitsSigned w64 n = search rules in
    put_over c.args.j n c.args.value.now c.args.row.now c.put.new.self c.requires.den
    c.put.ensures.den c.put.ensures.width (c.put.ensures.here ∙ to_z-of_z w64 n n_fits)
    c.put.ensures.elsewhere c.in-Some.ensures.0
