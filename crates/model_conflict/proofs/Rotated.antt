-- The first of a list goes last.
use Rattle.std.proofs.Common.{◌≡◌, List, [], ◌∷◌, ◌++◌, drop, take, refl}
use Rattle.conflict_laws.specs.Rotated.{rotated_list}
use Rattle.ratio_core.specs.Rational.{Rational}

pub rotated_is : (ys : List (List Rational)) → rotated_list ys ≡ drop 1 ys ++ take 1 ys
rotated_is [] = refl
rotated_is (y ∷ ys) = refl

pub rotated_none : (ys : List (List Rational)) → ys ≡ [] → rotated_list ys ≡ ys
rotated_none [] e = refl
rotated_none (y ∷ ys) e = cc
