use Rattle.std.proofs.Common.{◌≡◌}
use Rattle.ratio_core.specs.Text.{rational_of}
use Rattle.script_tokens.specs.Each.{each, each_after}
use Rattle.map_file.proofs.numbers.each_number.Given as goal

abbrev pub invariant-loop-word : goal.invariant-loop-word
invariant-loop-word l =
    each_after rational_of l.numbers.items l.word-iterator ≡ each rational_of l.fn.words
