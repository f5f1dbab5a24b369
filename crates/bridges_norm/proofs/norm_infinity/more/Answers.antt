use Rattle.std.proofs.Common.{◌++◌, ◌∷◌, ◌+◌, [], All, arith, sym, ap, subst, ◌∙◌, refl}
use Rattle.ratio_core.specs.AnsweredLaws.{passed_on}
use Rattle.aff_core.specs.Arithmetic.{PlusFits, sum_of}
use Rattle.bridges_norm.proofs.Loops.{MadeBehind, fits_there, made_all, made_more, made_none}
use Rattle.bridges_norm.proofs.norm_infinity.more.Goals as goal

pub loop-other-init : goal.loop-other-init
loop-other-init c =
    made_none c.args.less.items (sum_of c.args.first.now) (PlusFits c.args.first.now)
    c.args.others.now c.args.less.items refl

pub loop-other-preserved : goal.loop-other-preserved
loop-other-preserved c =
    subst (MadeBehind c.args.less.items (sum_of c.args.first.now) (PlusFits c.args.first.now)
    (c.loop-other.other-index + 1) c.args.others.now)
    (sym (c.in_ok-push.ensures.items ∙ ap (λ f. c.loop-other.both.items ++ f ∷ [])
    c.in_ok-add.ensures.1.same))
    (made_more c.args.less.items (sum_of c.args.first.now) (PlusFits c.args.first.now)
    c.loop-other.other-index c.args.others.now c.other-item.result c.loop-other.both.items
    c.loop-other-test.true (sym c.other-item.is)
    c.in_ok-add.ensures.0 c.loop-other.invariant)

pub returns-in_err-add : goal.returns-in_err-add
returns-in_err-add c =
    passed_on c.from_residual.result c.in_err-add.field-0.0
    (PlusFits c.args.first.now c.other-item.result)
    (All (PlusFits c.args.first.now) c.args.others.now) _ _ c.from_residual.ensures.1
    c.in_err-add.ensures
    (fits_there c.args.less.items (sum_of c.args.first.now) (PlusFits c.args.first.now)
    c.loop-other.other-index c.args.others.now c.other-item.result c.loop-other-test.true
    (sym c.other-item.is))

pub returns : goal.returns
returns c =
    made_all c.args.less.items (sum_of c.args.first.now) (PlusFits c.args.first.now)
    c.loop-other.other-index c.args.others.now c.loop-other.both.items (omega arith)
    c.loop-other.invariant
