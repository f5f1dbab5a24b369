use Rattle.std.proofs.Common.{length, refl}
use Rattle.whole_rows.proofs.MarkSteps.{covers_all}
use Rattle.whole_rows.proofs.clearing.copy_marked.Goals as goal

pub returns-else-numbers-len-clause-covers : goal.returns-else-numbers-len-clause-covers
returns-else-numbers-len-clause-covers c =
    covers_all c.mark_all.new.marks c.copy_numbers.new.numbers
    (length c.copy_numbers.new.numbers) refl c.mark_all.ensures.marked c.mark_all.ensures.others
