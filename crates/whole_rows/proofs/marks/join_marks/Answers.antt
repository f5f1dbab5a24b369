use Rattle.std.proofs.Common.{◌<◌, ◌≡◌, ◌∙◌, ℕ, arith, refl, slice_index, subst, sym}
use Rattle.whole_rows.proofs.JoiningSteps.{joins_all, joins_more, joins_none, words_long}
use Rattle.whole_rows.proofs.marks.join_marks.Goals as goal

apart_lem : (x y : ℕ) → x < y → x ≡ y → ⊥
apart_lem x y b e = omega (arith, b, e)

pub loop-n-init : goal.loop-n-init
loop-n-init c = joins_none c.args.words.now c.args.others.now c.args.marks.now

pub loop-n-preserved : goal.loop-n-preserved
loop-n-preserved c =
    let k = slice_index c.args.words.now c.loop-n.n in
    joins_more c.args.words.now c.loop-n.n c.args.others.now c.args.marks.now c.loop-n.marks _
    c.loop-n.invariant
    (subst (λ m. k < m) (words_long c.args.others.now ∙ c.requires.long
    ∙ sym c.loop-n.invariant.long) (c.requires.lists.within c.loop-n.n c.loop-n-test.true))
    (λ m b e. absurd (apart_lem _ _ (c.requires.lists.rising m c.loop-n.n b c.loop-n-test.true) e))
    refl

pub returns : goal.returns
returns c =
    joins_all c.args.words.now c.loop-n.n c.args.others.now c.args.marks.now c.loop-n.marks
    c.requires.lists c.requires.long (omega (arith, c.loop-n.auto.n-end, c.loop-n-test.false))
    c.loop-n.invariant
