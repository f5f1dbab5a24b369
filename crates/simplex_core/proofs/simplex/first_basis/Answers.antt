use Rattle.std.proofs.Common.{[], ap, sym, ◌∙◌, ◌+◌, ◌∷◌, ◌++◌}
use Rattle.simplex_core.proofs.Placing.{range_more}
use Rattle.simplex_core.proofs.simplex.first_basis.Goals as goal

pub loop-i-preserved : goal.loop-i-preserved
loop-i-preserved c =
    c.in_ok-push.ensures.items ∙ ap (λ xs. xs ++ (c.args.c + c.loop-i.i) ∷ []) c.loop-i.invariant
    ∙ sym (range_more c.args.c c.loop-i.i)
