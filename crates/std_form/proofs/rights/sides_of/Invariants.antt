use Rattle.std.proofs.Common.{◌≡◌, All, map, take}
use Rattle.equality_form.specs.EqualityForm.{right_sides}
use Rattle.equality_form.specs.Equations.{RightFits, is_flipped}
use Rattle.std_form.specs.Borrowed.{equation_in}
use Rattle.std_form.proofs.rights.sides_of.Given as goal

abbrev pub invariant-loop-equation : goal.invariant-loop-equation
invariant-loop-equation l = record {
  right : l.right.items ≡ right_sides (map equation_in (take l.equation-index l.equations));
  flips : l.flips.items ≡ map is_flipped (map equation_in (take l.equation-index l.equations));
  fit : All RightFits (map equation_in (take l.equation-index l.equations));
}
