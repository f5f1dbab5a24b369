use Rattle.std.proofs.Common.{arith, ap}
use Rattle.address_map.proofs.reserved.Reserved.insert.Goals as goal

pub returns-clause-spare : goal.returns-clause-spare
returns-clause-spare c =
    omega (
      arith,
      ap (λ p. p.spare) c.self.view_is,
      c.in-Some.ensures.len,
      c.insert.ensures.spare,
    )
