use Rattle.std.proofs.Common.{ap, subst}
use Rattle.numbered_list.specs.Numbered.{Rise}
use Rattle.numbered_list.specs.ListedLaws.{Rise-present}
use Rattle.numbered_list.proofs.list.Numbered.iter.Goals as goal

pub returns-clause-rising : goal.returns-clause-rising
returns-clause-rising g c =
    subst (λ l. Rise g.X.HasNumber.number_of l.items) c.self.view_is
    (Rise-present g.X.HasNumber.number_of c.self.inside.places.items c.self.invariant.0)
