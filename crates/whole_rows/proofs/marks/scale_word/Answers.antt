use Rattle.std.proofs.Common.{◌+◌, ◌<◌, ◌*◌, ◌^◌, ◌*ℤ◌, ◌∙◌, ℤ, FitsSigned, ap, arith, length, of_z, pos, rules, slice_index_or, subst, subst₂, sym, to_z, unsigned_abs, w64}
use Rattle.std.proofs.lemmas.Int.{to_z-of_z}
use Rattle.whole_rows.specs.ColumnMarks.{IsWordChanged}
use Rattle.whole_rows.proofs.WordSteps.{ScaledTo, scaled_first, word_end, word_next, word_read, word_within}
use Rattle.whole_rows.proofs.marks.scale_word.Goals as goal

pub loop-rest-init : goal.loop-rest-init
loop-rest-init c =
    scaled_first (to_z w64 (of_z w64 c.args.over)) c.args.start c.args.word c.args.numbers.now
    c.requires.covers

pub scaled-requires : goal.scaled-requires
scaled-requires c =
    let over : ℤ = to_z w64 (of_z w64 c.args.over) in
    let j = c.args.start + c.lowest.result in
    let n : ℤ = slice_index_or c.loop-rest.numbers j (pos 0) in
    let n_fits : FitsSigned w64 n = search rules in
    let within : j < length c.loop-rest.numbers =
    word_within (ScaledTo over c.args.numbers.now) c.args.start c.loop-rest.rest
    c.lowest.result c.args.numbers.now c.loop-rest.numbers c.loop-rest.invariant
    c.lowest.ensures in
    subst₂ (λ x y. unsigned_abs x * unsigned_abs y < 2 ^ 63)
    (sym (to_z-of_z w64 n n_fits
    ∙ word_read (ScaledTo over c.args.numbers.now) c.args.start c.loop-rest.rest
    c.lowest.result c.args.numbers.now c.loop-rest.numbers c.loop-rest.invariant
    c.lowest.ensures))
    (sym (to_z-of_z w64 c.args.over c.ranges.over))
    (c.requires.fits j (omega arith) (subst (λ m. j < m) c.loop-rest.invariant.long within))

pub loop-rest-preserved : goal.loop-rest-preserved
loop-rest-preserved c =
    let over : ℤ = to_z w64 (of_z w64 c.args.over) in
    let j = c.args.start + c.lowest.result in
    let n : ℤ = slice_index_or c.loop-rest.numbers j (pos 0) in
    let n_fits : FitsSigned w64 n = search rules in
    let result_fits : FitsSigned w64 c.scaled.result = search rules in
    word_next (ScaledTo over c.args.numbers.now) c.args.start c.loop-rest.rest c.lowest.result
    c.args.numbers.now c.loop-rest.numbers c.loop-rest.invariant c.lowest.ensures
    c.without_lowest-rest.result _ (c.without_lowest-rest.ensures.cleared c.lowest.result
    c.lowest.ensures)
    (to_z-of_z w64 c.scaled.result result_fits ∙ c.scaled.ensures
    ∙ (λ i. to_z-of_z w64 n n_fits i *ℤ over)
    ∙ ap (λ x. x *ℤ over) (word_read (ScaledTo over c.args.numbers.now) c.args.start
    c.loop-rest.rest c.lowest.result c.args.numbers.now c.loop-rest.numbers
    c.loop-rest.invariant c.lowest.ensures))

pub returns : goal.returns
returns c =
    subst (λ z. IsWordChanged (ScaledTo z c.args.numbers.now) c.args.start c.args.numbers.now
    c.loop-rest.numbers) (to_z-of_z w64 c.args.over c.ranges.over)
    (word_end (ScaledTo (to_z w64 (of_z w64 c.args.over)) c.args.numbers.now) c.args.start
    c.loop-rest.rest c.args.numbers.now c.loop-rest.numbers c.loop-rest.invariant
    c.loop-rest-test.false)
