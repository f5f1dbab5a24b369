-- The arguments of the command: the names of the files of the model and of its maps.
use Rattle.std.specs.Prelude.{◌&&◌, List, [], ◌∷◌, Option, Some, None, if◌then◌else◌}
use Rattle.command_words.specs.Options.{Word}
use Rattle.file_command.specs.Words.{is_file_word}
use Rattle.setmap_command.specs.declared.command.MappedCommand.{MappedCommand}

abbrev pub command_in : List Word → Option MappedCommand
command_in (model ∷ maps ∷ []) =
    if is_file_word model && is_file_word maps
    then Some (record { model = model; maps = maps }) else None
command_in words = None
