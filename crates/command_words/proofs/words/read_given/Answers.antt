-- Where the words give no options, or too many files, they are of no command.
use Rattle.std.proofs.Common.{refl}
use Rattle.command_words.proofs.Reading.{none_given}
use Rattle.command_words.specs.Texts.{texts}
use Rattle.command_words.proofs.words.read_given.Goals as goal

pub returns-in-None-clause-said : goal.returns-in-None-clause-said
returns-in-None-clause-said c =
    none_given c.args.name.now (texts c.args.words.now) (c.in-None.ensures.none refl)
