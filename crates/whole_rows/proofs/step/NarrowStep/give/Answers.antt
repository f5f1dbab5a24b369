use Rattle.std.proofs.Common.{ap, map, pos}
use Rattle.whole_rows.specs.Rows.{number_of}
use Rattle.whole_rows.proofs.ListedSteps.{lists_zeros}
use Rattle.whole_rows.proofs.step.NarrowStep.give.Goals as goal

pub invariant_of-self-clause-lists : goal.invariant_of-self-clause-lists
invariant_of-self-clause-lists c =
    lists_zeros c.args.self.now.columns.items c.clear_marked.new.self.numbers.items
    c.clear_marked.ensures.zeros

pub invariant_of-self-clause-words_list : goal.invariant_of-self-clause-words_list
invariant_of-self-clause-words_list c =
    lists_zeros c.args.self.now.words.items (map pos c.clear_marked.new.self.marks.items)
    c.clear_marked.ensures.words

pub returns-clause-numbers : goal.returns-clause-numbers
returns-clause-numbers c = λ j b. ap (λ r. number_of r j) c.swap.ensures.y_after
