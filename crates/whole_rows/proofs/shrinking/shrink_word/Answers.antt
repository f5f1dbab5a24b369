use Rattle.std.proofs.Common.{◌≡◌, ◌+◌, ◌∙◌, ◌<◌, ◌/◌, ◌^◌, ◌*ℤ◌, ℤ, FitsSigned, ap, arith, length, pos, rules, slice_index_or, subst, sym, to_z, of_z, unsigned_abs, w64}
use Rattle.std.proofs.lemmas.Int.{to_z-of_z}
use Rattle.std.specs.Int.{◌∣◌}
use Rattle.whole_rows.specs.ColumnMarks.{IsWordChanged}
use Rattle.whole_rows.specs.Over.{lowered_num}
use Rattle.whole_rows.proofs.ShrinkSteps.{lowered_args}
use Rattle.whole_rows.proofs.WordSteps.{ShrunkTo, shrunk_first, word_end, word_next, word_read, word_within}
use Rattle.whole_rows.proofs.shrinking.shrink_word.Goals as goal
use Rattle.whole_rows.proofs.shrinking.shrink_word.Goals.{After-lowest}

within_lem : (c : After-lowest) → c.args.start + c.lowest.result < length c.args.numbers.now
within_lem c =
    subst (λ m. c.args.start + c.lowest.result < m) c.loop-rest.invariant.long
    (word_within (ShrunkTo c.args.over (to_z w64 (of_z w64 c.args.by)) c.args.step.now
    c.args.common c.args.numbers.now) c.args.start c.loop-rest.rest c.lowest.result
    c.args.numbers.now c.loop-rest.numbers c.loop-rest.invariant c.lowest.ensures)

read_lem : (c : After-lowest)
    → slice_index_or c.loop-rest.numbers (c.args.start + c.lowest.result) (pos 0)
    ≡ slice_index_or c.args.numbers.now (c.args.start + c.lowest.result) (pos 0)
read_lem c =
    word_read (ShrunkTo c.args.over (to_z w64 (of_z w64 c.args.by)) c.args.step.now
    c.args.common c.args.numbers.now) c.args.start c.loop-rest.rest c.lowest.result
    c.args.numbers.now c.loop-rest.numbers c.loop-rest.invariant c.lowest.ensures

pub loop-rest-init : goal.loop-rest-init
loop-rest-init c =
    shrunk_first c.args.over (to_z w64 (of_z w64 c.args.by)) c.args.step.now c.args.common
    c.args.start c.args.word c.args.numbers.now c.requires.covers c.requires.step_covers

pub shrunk-requires-clause-exact : goal.shrunk-requires-clause-exact
shrunk-requires-clause-exact c =
    let a = (goal.at.shrunk-requires-clause-exact c).After-lowest in
    let j = c.args.start + c.lowest.result in
    let n : ℤ = slice_index_or c.loop-rest.numbers j (pos 0) in
    let u : ℤ = slice_index_or c.args.step.now j (pos 0) in
    let n_fits : FitsSigned w64 n = search rules in
    let u_fits : FitsSigned w64 u = search rules in
    subst (λ z. c.args.common ∣ unsigned_abs z)
    (sym (lowered_args n c.args.over c.args.by u n_fits c.ranges.by u_fits
    ∙ ap (λ y. lowered_num y c.args.over c.args.by u) (read_lem a)))
    (c.requires.fits.exact j (omega arith) (within_lem a))

pub shrunk-requires-clause-small : goal.shrunk-requires-clause-small
shrunk-requires-clause-small c =
    let a = (goal.at.shrunk-requires-clause-small c).After-lowest in
    let j = c.args.start + c.lowest.result in
    let n : ℤ = slice_index_or c.loop-rest.numbers j (pos 0) in
    let u : ℤ = slice_index_or c.args.step.now j (pos 0) in
    let n_fits : FitsSigned w64 n = search rules in
    let u_fits : FitsSigned w64 u = search rules in
    subst (λ z. unsigned_abs z / c.args.common < 2 ^ 63)
    (sym (lowered_args n c.args.over c.args.by u n_fits c.ranges.by u_fits
    ∙ ap (λ y. lowered_num y c.args.over c.args.by u) (read_lem a)))
    (c.requires.fits.small j (omega arith) (within_lem a))

pub loop-rest-preserved : goal.loop-rest-preserved
loop-rest-preserved c =
    let by : ℤ = to_z w64 (of_z w64 c.args.by) in
    let a = (goal.at.loop-rest-preserved c).After-lowest in
    let j = c.args.start + c.lowest.result in
    let n : ℤ = slice_index_or c.loop-rest.numbers j (pos 0) in
    let u : ℤ = slice_index_or c.args.step.now j (pos 0) in
    let n_fits : FitsSigned w64 n = search rules in
    let u_fits : FitsSigned w64 u = search rules in
    let result_fits : FitsSigned w64 c.shrunk.result = search rules in
    word_next (ShrunkTo c.args.over by c.args.step.now c.args.common c.args.numbers.now)
    c.args.start c.loop-rest.rest c.lowest.result c.args.numbers.now c.loop-rest.numbers
    c.loop-rest.invariant c.lowest.ensures c.without_lowest-rest.result _
    (c.without_lowest-rest.ensures.cleared c.lowest.result c.lowest.ensures)
    ((λ i. lowered_num (sym (to_z-of_z w64 n n_fits ∙ read_lem a) i) c.args.over by
    (sym (to_z-of_z w64 u u_fits) i))
    ∙ c.shrunk.ensures
    ∙ ap (λ z. z *ℤ pos c.args.common) (sym (to_z-of_z w64 c.shrunk.result result_fits)))

pub returns : goal.returns
returns c =
    subst (λ b. IsWordChanged (ShrunkTo c.args.over b c.args.step.now c.args.common
    c.args.numbers.now) c.args.start c.args.numbers.now c.loop-rest.numbers)
    (to_z-of_z w64 c.args.by c.ranges.by)
    (word_end (ShrunkTo c.args.over (to_z w64 (of_z w64 c.args.by)) c.args.step.now c.args.common
    c.args.numbers.now) c.args.start c.loop-rest.rest c.args.numbers.now c.loop-rest.numbers
    c.loop-rest.invariant c.loop-rest-test.false)
