use Rattle.std.proofs.Common.{◌+◌, ◌∙◌, ℤ, FitsSigned, nat_eq, pos, refl, rules, slice_index_or, sym, w64}
use Rattle.std.proofs.lemmas.Int.{to_z-of_z}
use Rattle.whole_rows.proofs.NotingSteps.{word_noted_end, word_noted_first, word_noted_next}
use Rattle.whole_rows.proofs.TakingSteps.{TakenTo, taken_first}
use Rattle.whole_rows.proofs.WordSteps.{word_end, word_next}
use Rattle.whole_rows.proofs.listed.take_word.Goals as goal

pub loop-rest-init : goal.loop-rest-init
loop-rest-init c = record {
  noted = word_noted_first c.args.source.now c.args.columns.now c.args.noted c.args.start
      c.args.word c.requires.covers c.requires.noted;
  taken = taken_first c.args.source.now c.args.numbers.now c.args.start c.args.word
      c.requires.covers c.requires.wide c.requires.zeros;
}

pub loop-rest-preserved : goal.loop-rest-preserved
loop-rest-preserved c =
    let n : ℤ = slice_index_or c.args.source.now (c.args.start + c.lowest-bit.result) (pos 0) in
    let n_fits : FitsSigned w64 n = search rules in
    let count = c.nonzero_count-count.result in
    record {
      noted = word_noted_next c.args.source.now c.loop-rest.columns c.loop-rest.used c.args.start
          c.args.word c.loop-rest.rest c.loop-rest.kept c.lowest-bit.result c.requires.covers
          c.loop-rest.invariant.noted c.lowest-bit.ensures c.without_lowest-rest.result
          c.without_bit_if-kept.result count (nat_eq count 0)
          (c.without_lowest-rest.ensures.cleared c.lowest-bit.result c.lowest-bit.ensures)
          c.nonzero_count-count.ensures.few
          (λ e. sym (to_z-of_z w64 n n_fits) ∙ c.nonzero_count-count.ensures.none e)
          (λ e z. c.nonzero_count-count.ensures.one e (to_z-of_z w64 n n_fits ∙ z)) refl
          c.without_bit_if-kept.ensures.kept c.without_bit_if-kept.ensures.others;
      taken = word_next (TakenTo c.args.source.now) c.args.start c.loop-rest.rest
          c.lowest-bit.result c.args.numbers.now c.loop-rest.numbers c.loop-rest.invariant.taken
          c.lowest-bit.ensures c.without_lowest-rest.result _
          (c.without_lowest-rest.ensures.cleared c.lowest-bit.result c.lowest-bit.ensures)
          (to_z-of_z w64 n n_fits);
    }

pub returns-clause-taken : goal.returns-clause-taken
returns-clause-taken c =
    word_end (TakenTo c.args.source.now) c.args.start c.loop-rest.rest c.args.numbers.now
    c.loop-rest.numbers c.loop-rest.invariant.taken c.loop-rest-test.false

pub returns-clause-noted : goal.returns-clause-noted
returns-clause-noted c =
    word_noted_end c.args.source.now c.loop-rest.columns c.loop-rest.used c.args.start c.args.word
    c.loop-rest.rest c.loop-rest.kept c.requires.covers c.loop-rest.invariant.noted
    c.loop-rest-test.false

pub returns-clause-kept : goal.returns-clause-kept
returns-clause-kept c = c.loop-rest.invariant.noted.covers
