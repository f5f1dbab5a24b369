use Rattle.std.proofs.Common.{◌<◌, ◌≡◌, ◌∙◌, ℕ, ℤ, FitsSigned, pos, ◌*ℤ◌, arith, rules, slice_index, slice_index_or, subst, subst₂, sym, unsigned_abs, length, w64, to_z, of_z, ap}
use Rattle.std.proofs.lemmas.Int.{to_z-of_z}
use Rattle.std.specs.Int.{◌∣◌}
use Rattle.whole_rows.specs.Numerators.{AreDivided}
use Rattle.whole_rows.proofs.ListedDividingSteps.{divided_all, divided_next, divided_none}
use Rattle.whole_rows.proofs.dividing.divide_numbers.Goals as goal

apart_lem : (x y : ℕ) → x < y → x ≡ y → ⊥
apart_lem x y b e = omega (arith, b, e)

pub loop-k-init : goal.loop-k-init
loop-k-init c = divided_none (to_z w64 (of_z w64 c.args.by)) c.args.columns.now c.args.numbers.now

pub listed_quotient-requires-clause-exact : goal.listed_quotient-requires-clause-exact
listed_quotient-requires-clause-exact c =
    let j = slice_index c.args.columns.now c.loop-k.k in
    let n : ℤ = slice_index_or c.loop-k.numbers j (pos 0) in
    let n_fits : FitsSigned w64 n = search rules in
    subst₂ (λ x y. unsigned_abs x ∣ unsigned_abs y)
    (sym (to_z-of_z w64 c.args.by c.ranges.by))
    (sym (to_z-of_z w64 n n_fits ∙ c.loop-k.invariant.others j
    (λ k b e. absurd (apart_lem _ _ (c.requires.lists.rising k c.loop-k.k b c.loop-k-test.true) e))))
    (c.requires.exact j)

pub listed_quotient-requires-clause-small : goal.listed_quotient-requires-clause-small
listed_quotient-requires-clause-small c =
    let j = slice_index c.args.columns.now c.loop-k.k in
    let n : ℤ = slice_index_or c.loop-k.numbers j (pos 0) in
    let n_fits : FitsSigned w64 n = search rules in
    subst (λ x. unsigned_abs x < 9223372036854775808)
    (sym (to_z-of_z w64 n n_fits ∙ c.loop-k.invariant.others j
    (λ k b e. absurd (apart_lem _ _ (c.requires.lists.rising k c.loop-k.k b c.loop-k-test.true) e))))
    (c.requires.small j)

pub loop-k-preserved : goal.loop-k-preserved
loop-k-preserved c =
    let j = slice_index c.args.columns.now c.loop-k.k in
    let n : ℤ = slice_index_or c.loop-k.numbers j (pos 0) in
    let n_fits : FitsSigned w64 n = search rules in
    let result_fits : FitsSigned w64 c.listed_quotient.result = search rules in
    divided_next (to_z w64 (of_z w64 c.args.by)) c.args.columns.now c.loop-k.k c.args.numbers.now
    c.loop-k.numbers _ c.loop-k.invariant
    (subst (λ m. j < m) (sym c.loop-k.invariant.long)
    (c.requires.lists.within c.loop-k.k c.loop-k-test.true))
    (λ k b e. absurd (apart_lem _ _ (c.requires.lists.rising k c.loop-k.k b c.loop-k-test.true) e))
    (sym (to_z-of_z w64 n n_fits) ∙ c.listed_quotient.ensures
    ∙ ap (λ z. z *ℤ to_z w64 (of_z w64 c.args.by))
    (sym (to_z-of_z w64 c.listed_quotient.result result_fits)))

pub returns : goal.returns
returns c =
    subst (λ b. AreDivided b (length c.args.numbers.now) c.args.numbers.now c.loop-k.numbers)
    (to_z-of_z w64 c.args.by c.ranges.by)
    (divided_all (to_z w64 (of_z w64 c.args.by)) c.args.columns.now c.args.numbers.now
    c.loop-k.numbers c.loop-k.k c.requires.lists
    (omega (arith, c.loop-k.auto.k-end, c.loop-k-test.false)) c.loop-k.invariant)
