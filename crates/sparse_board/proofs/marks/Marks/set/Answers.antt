use Rattle.std.proofs.Common.{◌+◌, ◌*◌, ◌/◌, ◌∙◌, true, ap, arith, nat_eq, refl}
use Rattle.std.specs.Int.{bit_at}
use Rattle.std.proofs.lemmas.List.{get_or_read}
use Rattle.sparse_board.proofs.MarkSteps.{item_within, place_within, put_is}
use Rattle.sparse_board.proofs.marks.Marks.set.Goals as goal

pub overflow_mul-place : goal.overflow_mul-place
overflow_mul-place c =
    let marks = c.args.self.now in
    omega (
      arith,
      place_within marks c.args.column c.args.row c.requires.column c.requires.row,
      marks.words.ok.1,
      marks.words.small,
    )

pub overflow_add-place : goal.overflow_add-place
overflow_add-place c =
    let marks = c.args.self.now in
    omega (
      arith,
      place_within marks c.args.column c.args.row c.requires.column c.requires.row,
      marks.words.ok.1,
      marks.words.small,
    )

pub index-requires : goal.index-requires
index-requires c =
    place_within c.args.self.now c.args.column c.args.row c.requires.column c.requires.row

pub index_mut-requires : goal.index_mut-requires
index_mut-requires c =
    place_within c.args.self.now c.args.column c.args.row c.requires.column c.requires.row

pub returns : goal.returns
returns c =
    let marks = c.args.self.now in
    let place = c.args.column * marks.stride + c.args.row / 64 in
    let read = get_or_read marks.words.items place c.index.result.now
    (item_within marks place (place_within marks c.args.column c.args.row c.requires.column
    c.requires.row)) c.index.ensures 0 in
    put_is marks _ c.args.column c.args.row c.with_bit-word.result
    (record { columns = refl; rows = refl }) refl refl c.requires.column c.requires.row
    (λ k b n. c.with_bit-word.ensures.others k n ∙ ap (λ w. bit_at w k) read)
    true (ap (λ b. nat_eq b 1) c.with_bit-word.ensures.set)
