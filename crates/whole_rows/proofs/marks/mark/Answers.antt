use Rattle.whole_rows.proofs.MarkSteps.{column_marked}
use Rattle.whole_rows.proofs.marks.mark.Goals as goal

pub returns : goal.returns
returns c =
    column_marked c.args.marks.now c.args.j c.with_bit-word.result c.requires
    c.with_bit-word.ensures.set c.with_bit-word.ensures.others
