use Rattle.std.proofs.Common.{◌+◌, ◌*◌, ◌/◌, ◌%◌, ◌∙◌, ap, arith, nat_eq, sym}
use Rattle.std.specs.Int.{bit_at}
use Rattle.std.proofs.lemmas.List.{get_or_read}
use Rattle.sparse_board.proofs.MarkSteps.{has_is, item_within, place_within}
use Rattle.sparse_board.proofs.marks.Marks.has.Goals as goal

pub index-requires : goal.index-requires
index-requires c =
    place_within c.args.self.now c.args.column c.args.row c.requires.column c.requires.row

pub returns : goal.returns
returns c =
    let marks = c.args.self.now in
    let place = c.args.column * marks.stride + c.args.row / 64 in
    c.has_bit.ensures
    ∙ ap (λ w. nat_eq (bit_at w (c.args.row % 64)) 1)
    (get_or_read marks.words.items place c.index.result.now
    (item_within marks place (place_within marks c.args.column c.args.row c.requires.column
    c.requires.row)) c.index.ensures 0)
    ∙ sym (has_is marks c.args.column c.args.row c.requires.row)

pub overflow_mul-place : goal.overflow_mul-place
overflow_mul-place c =
    let marks = c.args.self.now in
    omega (
      arith,
      place_within marks c.args.column c.args.row c.requires.column c.requires.row,
      marks.words.ok.1,
      marks.words.small,
    )

pub overflow_add-place : goal.overflow_add-place
overflow_add-place c =
    let marks = c.args.self.now in
    omega (
      arith,
      place_within marks c.args.column c.args.row c.requires.column c.requires.row,
      marks.words.ok.1,
      marks.words.small,
    )
