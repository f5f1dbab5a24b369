-- The generator of numbers. It is linear congruential, with the constants of the example of `rand`
-- in the C standard.
use Rattle.std.specs.Prelude.{ℕ, ◌+◌, ◌*◌, ◌/◌, ◌%◌, ◌^◌}
use Rattle.std.specs.Fn.{iterate}

-- the state after a draw
unfoldable pub step : ℕ → ℕ
step s = (s * 1103515245 + 12345) % 2 ^ 31

-- the state after n draws
abbrev pub after : ℕ → ℕ → ℕ
after n s = iterate step n s

-- the number that the next draw gives, which has 15 bits
unfoldable pub draw : ℕ → ℕ
draw s = step s / 65536
