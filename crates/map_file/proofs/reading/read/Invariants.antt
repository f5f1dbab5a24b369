use Rattle.std.proofs.Common.{◌≡◌, ◌==◌, ◌+◌, ◌≤◌, length}
use Rattle.std.specs.List.{slice_split}
use Rattle.map_file.specs.Lines.{file_in, read_from}
use Rattle.map_file.specs.Progress.{IsReaderInStep, progress_of}
use Rattle.map_file.proofs.reading.read.Given as goal

abbrev pub invariant-loop-line : goal.invariant-loop-line
invariant-loop-line l = record {
  said : read_from l.number (progress_of l.reader) (slice_split (λ b. b == 10) l.rest) ≡ file_in l.fn.text;
  in_step : IsReaderInStep l.reader;
  few : l.number + length l.rest ≤ length l.fn.text + 1;
}

abbrev pub decreases-loop-line : goal.decreases-loop-line
decreases-loop-line l = length l.rest
