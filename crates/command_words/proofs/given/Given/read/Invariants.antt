-- What is left gives, from now, what all words give.
use Rattle.std.proofs.Common.{◌≡◌, ◌++◌, length}
use Rattle.command_words.specs.Files.{files_in, files_of}
use Rattle.command_words.specs.Options.{no_options, options_from}
use Rattle.command_words.specs.Texts.{texts}
use Rattle.command_words.proofs.given.Given.read.Given as goal

abbrev pub invariant-reading : goal.invariant-reading
invariant-reading l = record {
  options : options_from l.options (texts l.left) ≡ options_from no_options (texts l.fn.words);
  files : files_in l.files ++ files_of (texts l.left) ≡ files_of (texts l.fn.words);
}

abbrev pub decreases-reading : goal.decreases-reading
decreases-reading l = length l.left
