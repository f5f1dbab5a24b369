use Rattle.std.proofs.Common.{arith, ap, length}
use Rattle.numbered_list.specs.ListedLaws.{length-present}
use Rattle.numbered_list.proofs.list.Numbered.len.Goals as goal

pub returns-clause-bound : goal.returns-clause-bound
returns-clause-bound g c =
    omega (
      arith,
      c.self.inside.places.ok.0,
      c.self.inside.places.ok.1,
      c.self.inside.places.small,
      length-present c.self.inside.places.items,
      ap (λ l. length l.items) c.self.view_is,
    )
