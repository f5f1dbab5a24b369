use Rattle.std.proofs.Common.{◌<◌, ◌≡◌, ◌∙◌, ℕ, ℤ, FitsSigned, pos, rules, slice_index, slice_index_or, subst, sym, to_z, of_z, w64, arith}
use Rattle.std.proofs.lemmas.Int.{to_z-of_z}
use Rattle.whole_rows.specs.Listed.{IsLoweredAt, lowered_once}
use Rattle.whole_rows.proofs.ListedSteps.{less_fits, listed_all, listed_more}
use Rattle.whole_rows.proofs.listed.lower_listed.Goals as goal

apart_lem : (x y : ℕ) → x < y → x ≡ y → ⊥
apart_lem x y b e = omega (arith, b, e)

pub loop-k-preserved : goal.loop-k-preserved
loop-k-preserved c =
    let j = slice_index c.args.columns.now c.loop-k.k in
    let by = to_z w64 (of_z w64 c.args.by) in
    let n : ℤ = slice_index_or c.loop-k.numbers j (pos 0) in
    let u : ℤ = slice_index_or c.args.step.now j (pos 0) in
    let n_fits : FitsSigned w64 n = search rules in
    let u_fits : FitsSigned w64 u = search rules in
    let result_fits : FitsSigned w64 c.less.result = search rules in
    listed_more by c.args.columns.now c.args.step.now c.loop-k.k c.args.numbers.now
    c.loop-k.numbers _ c.loop-k.invariant
    (subst (λ m. j < m) (c.requires.long ∙ sym c.loop-k.invariant.long)
    (c.requires.lists.within c.loop-k.k c.loop-k-test.true))
    (λ k b e. absurd (apart_lem _ _ (c.requires.lists.rising k c.loop-k.k b c.loop-k-test.true) e))
    (to_z-of_z w64 c.less.result result_fits ∙ c.less.ensures
    ∙ (λ i. lowered_once (to_z-of_z w64 n n_fits i) by (to_z-of_z w64 u u_fits i)))

pub less-requires : goal.less-requires
less-requires c =
    let j = slice_index c.args.columns.now c.loop-k.k in
    let n : ℤ = slice_index_or c.loop-k.numbers j (pos 0) in
    let u : ℤ = slice_index_or c.args.step.now j (pos 0) in
    let n_fits : FitsSigned w64 n = search rules in
    let u_fits : FitsSigned w64 u = search rules in
    less_fits c.args.numbers.now c.loop-k.numbers c.args.step.now c.args.by _ _ _ j c.requires.fits
    (subst (λ m. j < m) c.requires.long (c.requires.lists.within c.loop-k.k c.loop-k-test.true))
    (c.loop-k.invariant.others j (λ k b e. absurd (apart_lem _ _
    (c.requires.lists.rising k c.loop-k.k b c.loop-k-test.true) e)))
    (to_z-of_z w64 n n_fits) (to_z-of_z w64 c.args.by c.ranges.by) (to_z-of_z w64 u u_fits)

pub returns : goal.returns
returns c =
    listed_all c.args.by c.args.columns.now c.args.step.now c.args.numbers.now c.loop-k.numbers
    c.loop-k.k c.requires.lists c.requires.long
    (omega (arith, c.loop-k.auto.k-end, c.loop-k-test.false))
    (subst (λ b. IsLoweredAt b c.args.columns.now c.args.step.now c.loop-k.k c.args.numbers.now
    c.loop-k.numbers) (to_z-of_z w64 c.args.by c.ranges.by) c.loop-k.invariant)
