use Rattle.std.proofs.Common.{List, ap, length, map, ◌∙◌}
use Rattle.ratio_core.specs.Rational.{Rational}
use Rattle.bridge_face.specs.BackOf.{size}
use Rattle.bridge_tests.specs.RoundLaws.{takes_duals}
use Rattle.bridge_tests.proofs.round.dual_of.Goals as goal

pub back-requires : goal.back-requires
back-requires g c =
    takes_duals c.deref.result.now c.place.result c.place.ensures c.requires
    (ap (λ (ys : List (List Rational)). map length ys) c.deref.ensures.value
    ∙ c.in_ok-duals.ensures
    ∙ ap (map size) c.as_slice.ensures)
