use Rattle.std.proofs.Common.{◌<◌, length, arith, ap, ◌∙◌}
use Rattle.std.proofs.lemmas.List.{length-take-le}
use Rattle.std.proofs.Math.ListN.{length-set}
use Rattle.aff_core.proofs.Padding.{zeros-set}
use Rattle.aff_core.proofs.address.Address.child.Goals as goal

pub invariant_of-child : goal.invariant_of-child
invariant_of-child c =
    let kept = c.self.invariant in
    let room : c.self.inside.depth < 40 =
    omega (
      arith,
      length-take-le c.self.inside.depth c.self.inside.positions
          (omega (arith, kept.depth, kept.places)),
      ap (λ a. length a.positions) c.self.view_is,
      c.requires,
    ) in
    record {
      depth = omega arith;
      places = length-set _ _ _ ∙ kept.places;
      zeros = zeros-set _ _ _ room kept.zeros;
    }
