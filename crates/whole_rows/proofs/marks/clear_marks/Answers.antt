use Rattle.std.proofs.Common.{length}
use Rattle.whole_rows.proofs.MarkSteps.{cleared_marks, cleared_words}
use Rattle.whole_rows.proofs.marks.clear_marks.Goals as goal

pub returns-clause-words : goal.returns-clause-words
returns-clause-words c =
    cleared_words _ (length c.args.marks.now) (c.fill.ensures.after (λ y h. h))

pub returns-clause-none : goal.returns-clause-none
returns-clause-none c =
    cleared_marks _ (length c.args.marks.now) (c.fill.ensures.after (λ y h. h))
