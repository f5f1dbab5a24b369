-- Affine maps of the generator's states.
use Rattle.std.specs.Prelude.{ℕ, ◌+◌, ◌*◌, ◌%◌, ◌^◌}
use Rattle.generated_script.specs.declared.jump.AffineMap.{AffineMap}

-- what the map makes of a state
unfoldable pub mapped : AffineMap → ℕ → ℕ
mapped m s = (s * m.factor + m.shift) % 2 ^ 31

-- the map of one draw
abbrev pub one_draw : AffineMap
one_draw = record { factor = 1103515245; shift = 12345 }

-- the map that follows itself
abbrev pub twice : AffineMap → AffineMap
twice m = record { factor = (m.factor * m.factor) % 2 ^ 31; shift = mapped m m.shift }
