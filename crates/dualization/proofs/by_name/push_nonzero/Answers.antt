use Rattle.std.specs.Prelude.{[], ◌∷◌, ◌++◌}
use Rattle.std.proofs.Common.{◌∙◌, ap}
use Rattle.dualization.proofs.TermLemmas.{other_put, zero_kept}
use Rattle.dualization.proofs.by_name.push_nonzero.Goals as goal

pub returns-then-is_zero : goal.returns-then-is_zero
returns-then-is_zero c =
    zero_kept c.args.terms.now c.args.name.now c.args.coefficient.now
    (c.is_zero.ensures.0 c.if-is_zero.true)

pub returns : goal.returns
returns c =
    other_put c.args.terms.now c.put.new.terms c.args.name.now c.args.coefficient.now
    c.is_zero.result c.is_zero.ensures.1 c.if-is_zero.false
    (c.in_ok-put.ensures
    ∙ ap (λ n. c.args.terms.now ++ record { variable = n; coefficient = c.args.coefficient.now } ∷ [])
    c.in_ok-variable.ensures)
