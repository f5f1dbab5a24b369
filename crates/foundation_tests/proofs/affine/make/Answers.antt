use Rattle.std.specs.List.{IsDistinct}
use Rattle.foundation_tests.proofs.affine.make.Goals as goal

pub gather-requires : goal.gather-requires
unfolding IsDistinct
gather-requires c = (tt, tt)
