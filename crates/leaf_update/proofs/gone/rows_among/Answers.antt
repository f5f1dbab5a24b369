use Rattle.std.proofs.Common.{ap, ◌∙◌}
use Rattle.std.specs.Prelude.{filter, not}
use Rattle.std.proofs.lemmas.Result.{IfOk-weaker}
use Rattle.leaf_update.proofs.gone.rows_among.Goals as goal

pub returns : goal.returns
returns c =
    IfOk-weaker c.not_put.result _ _
    (λ gone h. h ∙ ap (λ p. filter (λ at. not (p at)) c.args.all.now) c.in_ok-put.ensures)
    c.not_put.ensures
