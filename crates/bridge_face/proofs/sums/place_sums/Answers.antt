use Rattle.std.proofs.Common.{◌++◌, ◌∷◌, [], arith, sym, ap₂, subst, ◌∙◌, refl, ◌+◌}
use Rattle.ratio_core.specs.AnsweredLaws.{overflowed}
use Rattle.bridge_face.specs.ZippedLaws.{SummedTo, sum_refused, summed_all, summed_more}
use Rattle.bridge_face.proofs.sums.place_sums.Goals as goal

pub loop-n-preserved : goal.loop-n-preserved
loop-n-preserved c =
    subst (SummedTo (c.loop-n.n + 1) c.args.first.now c.args.second.now)
    (sym (c.in_ok-push.ensures.items ∙ ap₂ (λ xs x. xs ++ x ∷ []) refl
    c.in_ok-sum.ensures.exact.1))
    (summed_more c.loop-n.n c.args.first.now c.args.second.now c.requires c.index-first-n.result
    c.index-second-n.result (omega arith) c.index-first-n.is c.index-second-n.is
    c.loop-n.sums.items c.in_ok-sum.ensures.exact.0 c.loop-n.invariant)

pub returns-in_err-sum : goal.returns-in_err-sum
returns-in_err-sum c =
    overflowed c.from_residual-in_err-sum.result _ _ _ c.from_residual-in_err-sum.ensures.1 refl
    (sum_refused c.loop-n.n c.args.first.now c.args.second.now c.requires c.index-first-n.result
    c.index-second-n.result (omega arith) c.index-first-n.is c.index-second-n.is
    c.in_err-sum.ensures.exact)

pub returns : goal.returns
returns c =
    let done = summed_all c.loop-n.n c.args.first.now c.args.second.now c.loop-n.sums.items
    c.requires (omega arith) c.loop-n.invariant in
    (done.0, c.from_vec.ensures ∙ done.1)
