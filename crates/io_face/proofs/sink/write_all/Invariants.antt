-- The sink has the first `done` bytes of the text.
use Rattle.std.proofs.Common.{◌≡◌, ◌≤◌, ◌-◌, length, take}
use Rattle.io_face.specs.Sink.{Adds}
use Rattle.io_face.proofs.sink.write_all.Given as goal

abbrev pub invariant-loop-done : goal.invariant-loop-done
invariant-loop-done g l = record {
  fits : l.done ≤ length l.text;
  added : Adds (g.O.Sink.written l.initial.output) (g.O.Sink.written l.output) (take l.done l.text);
  count : g.O.Sink.faults l.initial.output ≤ g.O.Sink.faults l.output;
  sound : g.O.Sink.faults l.output ≡ g.O.Sink.faults l.initial.output;
}

abbrev pub decreases-loop-done : goal.decreases-loop-done
decreases-loop-done g l = length l.text - l.done
