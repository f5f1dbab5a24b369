use Rattle.std.proofs.Common.{arith}
use Rattle.numbered_list.specs.ListedLaws.{length-present}
use Rattle.numbered_list.proofs.list.Numbered.reserve.Goals as goal

pub returns-clause-ok : goal.returns-clause-ok
returns-clause-ok g c =
    omega (
      arith,
      c.in_ok-reserve.ensures.ok,
      c.reserve.new.self.ok.0,
      length-present c.reserve.new.self.items,
    )
