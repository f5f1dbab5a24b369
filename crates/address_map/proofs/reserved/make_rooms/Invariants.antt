use Rattle.std.specs.Prelude.{◌-◌, ◌≤◌, vec_len}
use Rattle.address_map.proofs.reserved.make_rooms.Given as goal

abbrev pub invariant-loop-alloc : goal.invariant-loop-alloc
invariant-loop-alloc l = vec_len l.initial.rooms ≤ vec_len l.rooms

abbrev pub decreases-loop-alloc : goal.decreases-loop-alloc
decreases-loop-alloc l = l.count - vec_len l.rooms
