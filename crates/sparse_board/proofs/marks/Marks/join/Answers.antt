use Rattle.std.proofs.Common.{◌*◌, ◌∙◌, ap, arith, length, refl, subst, sym}
use Rattle.std.proofs.lemmas.List.{with_items_is}
use Rattle.sparse_board.specs.Words.{AreJoined}
use Rattle.sparse_board.proofs.MarkSteps.{column_within, columns_apart, joined_is}
use Rattle.sparse_board.proofs.marks.Marks.join.Goals as goal

pub overflow_mul-source : goal.overflow_mul-source
overflow_mul-source c =
    let marks = c.args.self.now in
    omega (
      arith,
      column_within marks c.args.from c.requires.from,
      marks.words.ok.1,
      marks.words.small,
    )

pub overflow_mul-target : goal.overflow_mul-target
overflow_mul-target c =
    let marks = c.args.self.now in
    omega (
      arith,
      column_within marks c.args.to c.requires.to,
      marks.words.ok.1,
      marks.words.small,
    )

pub join_words-requires-clause-from : goal.join_words-requires-clause-from
join_words-requires-clause-from c =
    let marks = c.args.self.now in
    omega (
      arith,
      column_within marks c.args.from c.requires.from,
      marks.words.ok.0,
      ap length c.deref_mut.ensures.value,
    )

pub join_words-requires-clause-to : goal.join_words-requires-clause-to
join_words-requires-clause-to c =
    let marks = c.args.self.now in
    omega (
      arith,
      column_within marks c.args.to c.requires.to,
      marks.words.ok.0,
      ap length c.deref_mut.ensures.value,
    )

pub join_words-requires-clause-apart : goal.join_words-requires-clause-apart
join_words-requires-clause-apart c = columns_apart c.args.self.now c.args.from c.args.to

pub returns : goal.returns
returns c =
    let marks = c.args.self.now in
    joined_is marks _ c.args.from c.args.to (record { columns = refl; rows = refl }) refl
    (subst (AreJoined (c.args.from * marks.stride) (c.args.to * marks.stride) marks.stride
    marks.words.items)
    (sym (with_items_is marks.words c.join_words.new.words (c.join_words.auto.words
    ∙ c.deref_mut.ensures.len)))
    (subst (λ l. AreJoined (c.args.from * marks.stride) (c.args.to * marks.stride) marks.stride l
    c.join_words.new.words) c.deref_mut.ensures.value c.join_words.ensures))
