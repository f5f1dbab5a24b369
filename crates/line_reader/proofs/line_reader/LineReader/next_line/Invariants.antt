-- The line so far, and what is held and left behind it, are what was not given.
use Rattle.std.proofs.Common.{◌≡◌, ◌≤◌}
use Rattle.line_reader.specs.Reading.{HoldsLine, allowance, rest_of}
use Rattle.line_reader.proofs.ReadingLemmas.{SoFar, TookSoFar}
use Rattle.line_reader.proofs.line_reader.LineReader.next_line.Given as goal

abbrev pub invariant-reading : goal.invariant-reading
invariant-reading g l = record {
  so_far : SoFar (rest_of l.initial.self (g.I.Source.left l.initial.input))
      (allowance l.initial.self) l.line.items l.self (g.I.Source.left l.input);
  taken : TookSoFar (g.I.Source.left l.initial.input)
      (g.I.Source.left l.input) l.initial.self.room l.self.room;
  faults : g.I.Source.faults l.initial.input ≤ g.I.Source.faults l.input;
  sound : g.I.Source.faults l.input ≡ g.I.Source.faults l.initial.input;
  held : HoldsLine l.initial.self
      → (l.self.held ≡ l.initial.self.held) × (l.input ≡ l.initial.input);
}

abbrev pub decreases-reading : goal.decreases-reading
decreases-reading g l = l.self.room
