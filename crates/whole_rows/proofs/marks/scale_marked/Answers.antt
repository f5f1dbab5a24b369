use Rattle.std.proofs.Common.{◌≡◌, ◌+◌, ◌<◌, ◌≤◌, ◌*◌, ◌^◌, ℕ, arith, length, of_z, refl, slice_index, subst, subst₂, sym, to_z, unsigned_abs, w64}
use Rattle.std.proofs.lemmas.Int.{to_z-of_z}
use Rattle.whole_rows.specs.ColumnMarks.{AreScaled}
use Rattle.whole_rows.proofs.MarkSteps.{word_covers, word_stays}
use Rattle.whole_rows.proofs.WordSteps.{ScaledTo, columns_none, scaled_all, scaled_word, word_start, words_past}
use Rattle.whole_rows.proofs.marks.scale_marked.Goals as goal

pub loop-k-init : goal.loop-k-init
loop-k-init c = columns_none (ScaledTo (to_z w64 (of_z w64 c.args.over)) c.args.numbers.now)
    c.args.numbers.now

pub scale_columns-requires-clause-start : goal.scale_columns-requires-clause-start
scale_columns-requires-clause-start c =
    subst (λ n. c.loop-k.k * 64 ≤ n) (sym c.loop-k.invariant.long)
    (word_start (length c.args.numbers.now) (length c.args.marks.now) c.loop-k.k c.requires.marks
    (omega (arith, c.loop-k-test.true)))

pub scale_columns-requires-clause-covers : goal.scale_columns-requires-clause-covers
scale_columns-requires-clause-covers c =
    let word : ℕ = slice_index c.args.marks.now c.loop-k.k in
    word_stays word (c.loop-k.k * 64) c.args.numbers.now c.loop-k.numbers
    (word_covers c.args.marks.now c.args.numbers.now c.loop-k.k word c.requires.covers refl)
    c.loop-k.invariant.long c.loop-k.invariant.others

pub scale_columns-requires-clause-fits : goal.scale_columns-requires-clause-fits
scale_columns-requires-clause-fits c = λ j a b.
    subst₂ (λ x y. unsigned_abs x * unsigned_abs y < 2 ^ 63)
    (sym (c.loop-k.invariant.others j a)) (sym (to_z-of_z w64 c.args.over c.ranges.over))
    (c.requires.fits j (subst (λ n. j < n) c.loop-k.invariant.long b))

pub loop-k-preserved : goal.loop-k-preserved
loop-k-preserved c =
    let next : (c.loop-k.k + 1) * 64 ≡ c.loop-k.k * 64 + 64 = omega arith in
    scaled_word (to_z w64 (of_z w64 c.args.over)) (c.loop-k.k * 64) ((c.loop-k.k + 1) * 64)
    c.args.numbers.now c.loop-k.numbers c.scale_columns.new.numbers c.loop-k.invariant
    c.scale_columns.ensures next

pub returns : goal.returns
returns c =
    subst (λ z. AreScaled z (length c.args.numbers.now) c.args.numbers.now c.loop-k.numbers)
    (to_z-of_z w64 c.args.over c.ranges.over)
    (scaled_all (to_z w64 (of_z w64 c.args.over)) (c.loop-k.k * 64) c.args.numbers.now
    c.loop-k.numbers c.loop-k.invariant
    (words_past (length c.args.numbers.now) (length c.args.marks.now) c.loop-k.k c.requires.marks
    (omega (arith, c.loop-k-test.false))))
