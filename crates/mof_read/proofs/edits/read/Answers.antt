use Rattle.std.proofs.Common.{subst, sym}
use Rattle.mof_file.specs.File.{file_in, seen}
use Rattle.mof_read.specs.NameLaws.{RowsAreApart}
use Rattle.mof_read.specs.RowLaws.{file_rows_apart, names_new_in}
use Rattle.mof_read.proofs.edits.read.Goals as goal

pub returns-clause-apart : goal.returns-clause-apart
returns-clause-apart c =
    subst RowsAreApart (sym c.in_ok-edits.ensures.edits)
    (file_rows_apart (seen c.in_ok-file.file) c.in_ok-edits.ensures.few)

pub returns-clause-made : goal.returns-clause-made
returns-clause-made c = λ file is.
    names_new_in (file_in c.args.text.now) (seen c.in_ok-file.file) file c.in_ok-file.ensures is
    c.in_ok-edits.ensures.few
