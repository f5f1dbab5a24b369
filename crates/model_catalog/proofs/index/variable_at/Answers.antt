use Rattle.std.proofs.Common.{sym, ◌∙◌, arith}
use Rattle.model_catalog.proofs.Counts.{variable_at_root, other_root, below_root}
use Rattle.model_catalog.proofs.index.variable_at.Goals as goal

pub returns-in_default : goal.returns-in_default
returns-in_default c =
    other_root c.args.address.now (λ e. c.in_default.not-Variable (c.kind.ensures ∙ e))

pub returns-then-depth-gt0 : goal.returns-then-depth-gt0
returns-then-depth-gt0 c = below_root c.args.address.now (λ e. omega (arith, c.depth.ensures.count))

pub returns : goal.returns
returns c =
    variable_at_root c.args.address.now c.number.result (sym c.in-Variable.ensures)
    (omega (arith, c.depth.ensures.count)) c.number.ensures
