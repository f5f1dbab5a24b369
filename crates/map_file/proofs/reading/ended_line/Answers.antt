use Rattle.std.proofs.Common.{◌==◌, arith}
use Rattle.script_tokens.specs.PieceLaws.{cut_more, uncut}
use Rattle.map_file.proofs.reading.ended_line.Goals as goal

pub returns-then-line-text-clause-split : goal.returns-then-line-text-clause-split
returns-then-line-text-clause-split c =
    cut_more (λ b. b == 10) c.args.text.now c.parted_at.result.0.now c.parted_at.result.1.now
    c.parted_at.ensures.before c.parted_at.ensures.after (omega arith)

pub returns-else-line-text-clause-split : goal.returns-else-line-text-clause-split
returns-else-line-text-clause-split c =
    uncut (λ b. b == 10) c.args.text.now c.parted_at.result.0.now c.parted_at.ensures.before
    (omega arith)
