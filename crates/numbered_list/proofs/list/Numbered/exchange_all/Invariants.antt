use Rattle.numbered_list.specs.ExchangeLaws.{ExchangedSoFar}
use Rattle.numbered_list.proofs.list.Numbered.exchange_all.Given as goal

abbrev pub invariant-loop-change : goal.invariant-loop-change
invariant-loop-change g l =
    ExchangedSoFar g.X.HasNumber.number_of l.initial.self.items l.self.items l.initial.changes l.changes
    l.change-index l.self.room l.initial.self.room
