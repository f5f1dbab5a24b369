use Rattle.std.proofs.Common.{arith, subst, ◌≡◌, ◌∙◌}
use Rattle.whole_rows.specs.Rows.{number_of, width_of}
use Rattle.sparse_board.proofs.WholeStartSteps.{row_same, row_side, row_unit}
use Rattle.sparse_board.proofs.starting.put_row.Goals as goal

pub returns-clause-reals : goal.returns-clause-reals
returns-clause-reals c t j b =
    let w_is : c.len-width.result ≡ width_of c.put_whole.new.row =
    omega (arith, c.len-width.ensures, c.put_whole.new.row.numbers.ok.0) in
    row_same c.put_terms.new.row c.put_whole.new.row c.put_whole-2.new.row c.args.unit
    c.len-width.result _ _ w_is (c.put_whole.ensures.put c.if-not-put_whole.false)
    (c.put_whole-2.ensures.put t) j
    (omega (arith, b, c.requires.past, c.requires.within, c.put_terms.ensures.width))
    (λ e. omega (arith, b, e, c.requires.past))
    ∙ c.put_terms.ensures.reals c.if-not-put_terms.false j b

pub returns-clause-unit : goal.returns-clause-unit
returns-clause-unit c t =
    let w_is : c.len-width.result ≡ width_of c.put_whole.new.row =
    omega (arith, c.len-width.ensures, c.put_whole.new.row.numbers.ok.0) in
    row_unit c.put_terms.new.row c.put_whole.new.row c.put_whole-2.new.row c.args.unit
    c.len-width.result _ _ w_is (c.put_whole.ensures.put c.if-not-put_whole.false)
    (c.put_whole-2.ensures.put t) (omega (arith, c.requires.within, c.put_terms.ensures.width))
    ∙ c.one.ensures

pub returns-clause-others : goal.returns-clause-others
returns-clause-others c t j b d n =
    let w_is : c.len-width.result ≡ width_of c.put_whole.new.row =
    omega (arith, c.len-width.ensures, c.put_whole.new.row.numbers.ok.0) in
    row_same c.put_terms.new.row c.put_whole.new.row c.put_whole-2.new.row c.args.unit
    c.len-width.result _ _ w_is (c.put_whole.ensures.put c.if-not-put_whole.false)
    (c.put_whole-2.ensures.put t) j (omega (arith, d, c.put_terms.ensures.width)) n
    ∙ c.put_terms.ensures.zeros c.if-not-put_terms.false j b (omega (arith, d))

pub returns-clause-side : goal.returns-clause-side
returns-clause-side c t =
    let w_is : c.len-width.result ≡ width_of c.put_whole.new.row =
    omega (arith, c.len-width.ensures, c.put_whole.new.row.numbers.ok.0) in
    subst (λ k. number_of c.put_whole-2.new.row k ≡ c.args.side.now) c.put_terms.ensures.width
    (row_side c.put_terms.new.row c.put_whole.new.row c.put_whole-2.new.row c.args.unit
    c.len-width.result _ _ w_is (c.put_whole.ensures.put c.if-not-put_whole.false)
    (c.put_whole-2.ensures.put t))
