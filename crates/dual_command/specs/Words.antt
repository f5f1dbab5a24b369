-- The arguments of the command: `write MODEL` and `solve MODEL`, with the name of the model's file.
use Rattle.std.specs.Prelude.{List, [], ◌∷◌, Option, Some, None, bytes_eq, codes, if◌then◌else◌, option_and_then, option_map}
use Rattle.command_words.specs.Options.{Word}
use Rattle.file_command.specs.Words.{model_word}
use Rattle.dual_command.specs.declared.command.DualCommand.{DualCommand}
use Rattle.dual_command.specs.declared.command.Task.{Task}
use Rattle.dual_command.specs.declared.command.Task.TheVariants.{Solve, Write}

abbrev pub task_in : Word → Option Task
task_in word =
    if bytes_eq word (codes "write") then Some Write
    else (if bytes_eq word (codes "solve") then Some Solve else None)

abbrev pub command_in : List Word → Option DualCommand
command_in [] = None
command_in (first ∷ others) =
    option_and_then (λ task. option_map (λ file. record { task = task; file = file })
    (model_word others)) (task_in first)
