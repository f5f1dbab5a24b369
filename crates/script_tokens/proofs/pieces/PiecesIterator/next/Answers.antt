use Rattle.std.proofs.Common.{◌==◌, ◌∷◌, ◌∙◌, sym, ap, length, arith, rules}
use Rattle.script_tokens.specs.Pieces.{pieces_left}
use Rattle.script_tokens.specs.PieceLaws.{cut_last, cut_more}
use Rattle.script_tokens.proofs.pieces.PiecesIterator.next.Goals as goal
use Rattle.script_tokens.proofs.pieces.PiecesIterator.next.Goals.{then-piece-text, else-piece-text}

pub returns-clause-steps : goal.returns-clause-steps
returns-clause-steps c =
    let separator = c.self.inside.separator in
    let piece = c.parted_at.result.0.now in
    let text = sym c.self.view_is ∙ ap (pieces_left separator) c.in_ok-text.was in
    elim c.if-piece-text.branch [
      | then-piece-text w ↦
          text
          ∙ cut_more (λ b. b == separator) c.in_ok-text.text.now piece c.parted_at.result.1.now
          c.parted_at.ensures.before c.parted_at.ensures.after (omega arith)
          ∙ ap (λ rest. piece ∷ pieces_left separator rest) (sym w.self-is)
      | else-piece-text w ↦
          text
          ∙ cut_last (λ b. b == separator) c.in_ok-text.text.now piece c.parted_at.ensures.before
          (omega arith)
          ∙ ap (λ rest. piece ∷ pieces_left separator rest) (sym w.self-is)
    ]

pub returns-clause-goes : goal.returns-clause-goes
returns-clause-goes c =
    let first = returns-clause-steps c in
    let fewer = ap length first in
    search rules
