-- Lines that ask the solver or name a file, by the tokens that follow their first word.
use Rattle.std.specs.Prelude.{[], ◌∷◌, Option, Some, None}
use Rattle.script_core.specs.declared.command.Command.TheVariants.{Load, Optimize}
use Rattle.script_core.specs.declared.reading.LineReading.{LineReading}
use Rattle.script_core.specs.Names.{last_name_of}
use Rattle.script_core.specs.Reading.{TokenList, says}
use Rattle.script_tokens.specs.Each.{◌>>=◌}
use Rattle.script_tokens.specs.Number.{number_of}

-- optimize, optimize N
unfoldable pub optimize_form : TokenList → Option LineReading
optimize_form [] = says (Optimize None)
optimize_form (number ∷ []) = do
  pivots ← number_of number
  says (Optimize (Some pivots))
optimize_form _ = None

-- load S
unfoldable pub load_form : TokenList → Option LineReading
load_form tokens = do
  file ← last_name_of tokens
  says (Load file)
